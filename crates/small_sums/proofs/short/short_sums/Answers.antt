-- One more term moves from what is left into the sums.
use Rattle.std.proofs.Common.{ℕ, ℤ, pos, ◌≤ℤ◌, get_or, subst, arith}
use Rattle.std.proofs.lemmas.Int.{ints}
use borrow.Author.Count.{below_more}
use Rattle.sum_tells.specs.Linear.{least_of, greatest_of}
use Rattle.small_sums.specs.Short.{HasBounds, IsTermOf, growth_of}
use Rattle.sum_tells.proofs.TermLaws.{sum_over-drop, sum_over-drop_all}
use Rattle.small_sums.proofs.ShortLaws.{short_number}
use Rattle.small_sums.proofs.short.short_sums.Goals as goal

pub loop-i-preserved : goal.loop-i-preserved
loop-i-preserved c =
    let at = c.loop-i.i in
    let same = c.requires.linear.same_length in
    let inside = c.loop-i-test.true in
    let P : ℤ → Type 0 = λ z. IsTermOf c.args.b.now z (get_or c.args.vars.now at 0) c.in_ok-term.term in
    let term = subst P (short_number (get_or c.args.coeffs.now at (pos 0)) (c.requires.linear.coefficients at inside)) c.in_ok-term.ensures in
    let least_step = sum_over-drop (least_of c.args.b.now) c.args.coeffs.now c.args.vars.now at same inside in
    let greatest_step = sum_over-drop (greatest_of c.args.b.now) c.args.coeffs.now c.args.vars.now at same inside in
    let more = c.in_ok-sums.ensures in
    let S : ℕ → Type 0 = λ k. HasBounds c.args.b.now (get_or c.args.vars.now k 0) in
    let W : ℕ → Type 0 = λ k. growth_of c.args.b.now (get_or c.args.coeffs.now k (pos 0)) (get_or c.args.vars.now k 0) ≤ℤ c.in_ok-sums.sums.widest in
    record {
      least = omega (arith, ints, more.least, term.least, c.loop-i.invariant.least);
      greatest = omega (arith, ints, more.greatest, term.greatest, c.loop-i.invariant.greatest);
      least_in_range = more.least_in_range;
      greatest_in_range = more.greatest_in_range;
      above_zero = omega (arith, ints, more.wider, c.loop-i.invariant.above_zero);
      bounds = below_more S at c.loop-i.invariant.bounds term.bounds;
      within = below_more W at (λ k h. omega (arith, ints, more.wider, c.loop-i.invariant.within k h)) (omega (arith, ints, more.within, term.least, term.greatest));
    }

pub returns : goal.returns
returns c =
    let least_end = sum_over-drop_all (least_of c.args.b.now) c.args.coeffs.now c.args.vars.now c.loop-i.i c.requires.linear.same_length c.loop-i-test.false in
    let greatest_end = sum_over-drop_all (greatest_of c.args.b.now) c.args.coeffs.now c.args.vars.now c.loop-i.i c.requires.linear.same_length c.loop-i-test.false in
    record {
      sums = record {
        least = omega (arith, ints, c.loop-i.invariant.least);
        greatest = omega (arith, ints, c.loop-i.invariant.greatest);
        above_zero = c.loop-i.invariant.above_zero;
        bounds = λ k h. c.loop-i.invariant.bounds k (omega arith);
        within = λ k h. c.loop-i.invariant.within k (omega arith);
      };
      least_in_range = c.loop-i.invariant.least_in_range;
      greatest_in_range = c.loop-i.invariant.greatest_in_range;
    }
