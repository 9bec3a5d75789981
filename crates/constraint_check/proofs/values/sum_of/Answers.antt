-- One more product moves from what is left into the sum.
use Rattle.std.proofs.Common.{◌<◌, ◌≤◌, pos, length, arith, to_z}
use mir.Syntax.{w128}
use Rattle.std.proofs.lemmas.Int.{ints}
use Rattle.constraint_model.specs.declared.model.Term.{Term}
use Rattle.constraint_model.specs.Relations.{value}
use Rattle.constraint_check.proofs.SumLaws.{dot_end, dot_step, min_cases, sum_small}
use Rattle.constraint_check.proofs.values.sum_of.Goals as goal

pub sum_with-sum-requires-clause-sum : goal.sum_with-sum-requires-clause-sum
sum_with-sum-requires-clause-sum c =
    let inside = c.loop-place-test.true in
    let least = c.min-count.ensures in
    let few : c.loop-place.place ≤ length c.args.coefficients.now = omega arith in
    sum_small (to_z w128 c.loop-place.sum-bits) c.loop-place.place (length c.args.coefficients.now) c.loop-place.invariant.small few c.requires.coefficients.few

pub loop-place-preserved : goal.loop-place-preserved
loop-place-preserved c =
    let inside = c.loop-place-test.true in
    let least = c.min-count.ensures in
    let in_cs : c.loop-place.place < length c.args.coefficients.now = omega arith in
    let in_xs : c.loop-place.place < length c.args.terms.now = omega arith in
    let step = dot_step (value c.args.solution.now) c.args.coefficients.now c.args.terms.now c.loop-place.place (Term.Number (pos 0)) in_cs in_xs in
    let product = c.product_of-product.ensures in
    let plus = c.sum_with-sum.ensures in
    record {
      whole = omega (arith, ints, plus, step, product.value, c.loop-place.invariant.whole);
      small = omega (arith, ints, plus, product.small, c.loop-place.invariant.small);
    }

pub returns : goal.returns
returns c =
    let over = c.loop-place-test.false in
    let least = c.min-count.ensures in
    let none = dot_end (value c.args.solution.now) c.args.coefficients.now c.args.terms.now c.loop-place.place (min_cases (length c.args.coefficients.now) (length c.args.terms.now) c.loop-place.place (omega arith)) in
    omega (arith, ints, none, c.loop-place.invariant.whole)
