-- One more term moves from what is left into the parts.
use Rattle.std.proofs.Common.{ℕ, ℤ, pos, ◌≤ℤ◌, ◌≤◌, take, get_or, unsigned_abs, refl, sym, subst, arith}
use Rattle.std.proofs.lemmas.Int.{ints}
use Rattle.std.proofs.lemmas.List.Sums.{sum_by-take-le}
use Rattle.std.specs.List.{sum_by}
use borrow.Author.Count.{below_more}
use Rattle.sum_tells.specs.Linear.{least_of, greatest_of}
use Rattle.small_sums.specs.Short.{slight_limit, HasBounds, growth_of}
use Rattle.small_sums.specs.Slight.{IsReach, IsSlightWith, HasReached}
use Rattle.sum_tells.proofs.TermLaws.{sum_over-drop, sum_over-drop_all}
use Rattle.small_sums.proofs.ShortLaws.{short_number}
use Rattle.small_sums.proofs.SlightLaws.{reach_start, reach_widens, next_size, sizes_more}
use Rattle.small_sums.proofs.slight.reach_of.Goals as goal

pub loop-i-init : goal.loop-i-init
loop-i-init c = record {
  least = omega (arith, ints);
  greatest = omega (arith, ints);
  bounds = λ k h. absurd (omega arith);
  within = λ k h. absurd (omega arith);
  in_range = reach_start _ refl refl refl refl;
}

pub reach_with-reach-requires-clause-slight : goal.reach_with-reach-requires-clause-slight
reach_with-reach-requires-clause-slight c =
    let at = c.loop-i.i in
    let inside = c.loop-i-test.true in
    let P : ℤ → Type 0 = λ z. IsSlightWith z c.loop-i.reach in
    subst P (sym (short_number (get_or c.args.coeffs.now at (pos 0)) (c.requires.linear.coefficients at inside))) (record {
      size = sum_by unsigned_abs (take at c.args.coeffs.now);
      reach = c.loop-i.invariant.in_range;
      room = next_size c.args.coeffs.now at inside c.requires.slight;
    })

pub loop-i-preserved : goal.loop-i-preserved
unfolding least_of greatest_of
loop-i-preserved c =
    let at = c.loop-i.i in
    let same = c.requires.linear.same_length in
    let inside = c.loop-i-test.true in
    let P : ℤ → Type 0 = λ z. HasReached c.args.b.now z (get_or c.args.vars.now at 0) c.loop-i.reach c.reach_with-reach.result in
    let reached = subst P (short_number (get_or c.args.coeffs.now at (pos 0)) (c.requires.linear.coefficients at inside)) c.reach_with-reach.ensures in
    let moved = reached.moved in
    let least_step = sum_over-drop (least_of c.args.b.now) c.args.coeffs.now c.args.vars.now at same inside in
    let greatest_step = sum_over-drop (greatest_of c.args.b.now) c.args.coeffs.now c.args.vars.now at same inside in
    let S : ℕ → Type 0 = λ k. HasBounds c.args.b.now (get_or c.args.vars.now k 0) in
    let W : ℕ → Type 0 = λ k. growth_of c.args.b.now (get_or c.args.coeffs.now k (pos 0)) (get_or c.args.vars.now k 0) ≤ℤ c.reach_with-reach.result.widest in
    let R : ℕ → Type 0 = λ n. IsReach n c.reach_with-reach.result in
    record {
      least = omega (arith, ints, moved.least, least_step, c.loop-i.invariant.least);
      greatest = omega (arith, ints, moved.greatest, greatest_step, c.loop-i.invariant.greatest);
      bounds = below_more S at c.loop-i.invariant.bounds reached.bounds;
      within = below_more W at (λ k h. omega (arith, ints, moved.wider, c.loop-i.invariant.within k h)) moved.within;
      in_range = subst R (sym (sizes_more c.args.coeffs.now at inside)) (reached.in_range (sum_by unsigned_abs (take at c.args.coeffs.now)) c.loop-i.invariant.in_range);
    }

pub returns-clause-sums : goal.returns-clause-sums
returns-clause-sums c =
    let least_end = sum_over-drop_all (least_of c.args.b.now) c.args.coeffs.now c.args.vars.now c.loop-i.i c.requires.linear.same_length c.loop-i-test.false in
    let greatest_end = sum_over-drop_all (greatest_of c.args.b.now) c.args.coeffs.now c.args.vars.now c.loop-i.i c.requires.linear.same_length c.loop-i-test.false in
    record {
      least = omega (arith, ints, c.loop-i.invariant.least);
      greatest = omega (arith, ints, c.loop-i.invariant.greatest);
      above_zero = c.loop-i.invariant.in_range.above_zero;
      bounds = λ k h. c.loop-i.invariant.bounds k (omega arith);
      within = λ k h. c.loop-i.invariant.within k (omega arith);
    }

pub returns-clause-in_range : goal.returns-clause-in_range
returns-clause-in_range c =
    let part = sum_by-take-le unsigned_abs c.args.coeffs.now c.loop-i.i in
    let most : sum_by unsigned_abs (take c.loop-i.i c.args.coeffs.now) ≤ slight_limit = omega (arith, part, c.requires.slight) in
    reach_widens _ slight_limit c.loop-i.reach most c.loop-i.invariant.in_range
