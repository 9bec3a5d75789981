-- The numbers fit, and are compared as they are.
use Rattle.std.proofs.Common.{◌≡◌, ◌∙◌, ◌-ℤ◌, FitsSigned, to_z, of_z, arith, rules}
use Rattle.std.proofs.lemmas.Int.{ints, to_z-of_z}
use mir.Syntax.{w64}
use Rattle.interval.specs.Limits.{bound_limit, largest_number}
use Rattle.small_sums.specs.Short.{short_sum_limit}
use Rattle.small_sums.proofs.SlightLaws.{short_fits_sum}
use Rattle.kernel_visits.proofs.sole.left_beside.Goals as goal

pub returns-then-greatest-least : goal.returns-then-greatest-least
unfolding short_sum_limit bound_limit largest_number
returns-then-greatest-least c =
    let p = c.requires.least_bound in let q = c.requires.greatest_bound in
    let r = c.requires.least in let s = c.requires.greatest in
    let u = c.without-least.ensures.value in let v = c.without-greatest.ensures.value in
    let f : FitsSigned w64 c.left_of.result = search rules in
    let g : FitsSigned w64 c.without-least.result = search rules in
    let sum = to_z-of_z w64 c.args.sums.least (short_fits_sum c.args.sums.least r) in
    let term : to_z w64 (of_z w64 c.args.term.least) ≡ c.args.term.least = omega (arith, ints, p) in
    let left : to_z w64 (of_z w64 c.without-least.result) ≡ (c.args.sums.least -ℤ c.args.term.least) =
    to_z-of_z w64 c.without-least.result g ∙ u ∙ (λ i. sum i -ℤ term i) in
    record {
      wide = omega (arith, ints, p, q, c.if-term.true);
      fixed = omega (arith, ints, p, q, r, s, u, v, c.if-least-greatest.true, c.if-greatest-least.true);
      rest = to_z-of_z w64 c.left_of.result f ∙ c.left_of.ensures ∙ (λ i. to_z-of_z w64 c.args.limit c.ranges.limit i -ℤ left i);
    }
