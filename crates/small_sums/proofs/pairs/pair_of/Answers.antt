-- The code's coefficients are those of the list.
use Rattle.std.proofs.Common.{ℤ, pos, get_or, subst, arith}
use Rattle.small_sums.specs.Short.{IsTermOf}
use Rattle.small_sums.proofs.ShortLaws.{short_number}
use Rattle.small_sums.proofs.pairs.pair_of.Goals as goal

pub returns : goal.returns
returns c =
    let numbers = c.requires.linear.coefficients in
    let P : ℤ → Type 0 = λ z. IsTermOf c.args.b.now z (get_or c.args.vars.now 0 0) c.in_ok-first.first in
    let Q : ℤ → Type 0 = λ z. IsTermOf c.args.b.now z (get_or c.args.vars.now 1 0) c.in_ok-second.second in
    record {
      first = subst P (short_number (get_or c.args.coeffs.now 0 (pos 0)) (numbers 0 (omega arith))) c.in_ok-first.ensures;
      second = subst Q (short_number (get_or c.args.coeffs.now 1 (pos 0)) (numbers 1 (omega arith))) c.in_ok-second.ensures;
    }
