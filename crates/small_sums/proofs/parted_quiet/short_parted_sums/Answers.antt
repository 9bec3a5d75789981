-- The last term joins the sums of the front.
use Rattle.std.proofs.Common.{ℤ, pos, subst}
use Rattle.small_sums.specs.Short.{IsTermOf}
use Rattle.small_sums.proofs.ShortLaws.{short_number}
use Rattle.sum_tells.proofs.PartedLaws.{linear-last}
use Rattle.small_sums.proofs.PartedSums.{parted_option}
use Rattle.small_sums.proofs.parted_quiet.short_parted_sums.Goals as goal

pub returns : goal.returns
returns c =
    let number = linear-last c.args.coeffs.now c.args.vars.now c.args.last.0 c.args.last.1 (pos 0) c.requires.linear in
    let P : ℤ → Type 0 = λ z. IsTermOf c.args.b.now z c.args.last.1 c.in_ok-term.term in
    let term = subst P (short_number c.args.last.0 number) c.in_ok-term.ensures in
    parted_option c.args.b.now c.args.coeffs.now c.args.vars.now c.args.last.0 c.args.last.1 c.in_ok-sums.sums c.in_ok-term.term c.sums_with.result c.requires.lengths c.in_ok-sums.ensures term c.sums_with.ensures
