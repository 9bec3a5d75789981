-- One more term moves from what is left into the sums.
use Rattle.std.proofs.Common.{◌∙◌, ◌≤◌, ap, ℤ, pos, length, get_or, arith}
use Rattle.std.proofs.lemmas.Int.{ints}
use Rattle.sum_tells.specs.Linear.{least_of, greatest_of}
use Rattle.sum_tells.proofs.TermLaws.{sum_over-drop, sum_over-drop_all}
use Rattle.sum_tells.proofs.ProductLaws.{coded_number, terms_small, one_more_small}
use Rattle.sum_tells.proofs.terms.sum_range.Goals as goal

pub sum_with-sum-requires-clause-sum_least : goal.sum_with-sum-requires-clause-sum_least
sum_with-sum-requires-clause-sum_least c = let few : c.loop-i.i ≤ length c.args.coeffs.now = omega arith in terms_small c.loop-i.sum.least c.loop-i.i (length c.args.coeffs.now) c.loop-i.invariant.least_small few c.requires.linear.short

pub sum_with-sum-requires-clause-sum_greatest : goal.sum_with-sum-requires-clause-sum_greatest
sum_with-sum-requires-clause-sum_greatest c = let few : c.loop-i.i ≤ length c.args.coeffs.now = omega arith in terms_small c.loop-i.sum.greatest c.loop-i.i (length c.args.coeffs.now) c.loop-i.invariant.greatest_small few c.requires.linear.short

pub loop-i-preserved : goal.loop-i-preserved
loop-i-preserved c =
    let at = c.loop-i.i in
    let same = c.requires.linear.same_length in
    let inside = c.loop-i-test.true in
    let number = coded_number (get_or c.args.coeffs.now at (pos 0)) (c.requires.linear.coefficients at inside) in
    let least_step = sum_over-drop (least_of c.args.b.now) c.args.coeffs.now c.args.vars.now at same inside in
    let greatest_step = sum_over-drop (greatest_of c.args.b.now) c.args.coeffs.now c.args.vars.now at same inside in
    let least_is = c.term_range-term.ensures.least ∙ ap (λ (z : ℤ). least_of c.args.b.now (z, get_or c.args.vars.now at 0)) number in
    let greatest_is = c.term_range-term.ensures.greatest ∙ ap (λ (z : ℤ). greatest_of c.args.b.now (z, get_or c.args.vars.now at 0)) number in
    let plus = c.sum_with-sum.ensures in
    record {
      least = omega (arith, ints, plus.least, c.loop-i.invariant.least);
      greatest = omega (arith, ints, plus.greatest, c.loop-i.invariant.greatest);
      least_small = rw plus.least (one_more_small c.loop-i.sum.least c.term_range-term.result.least at c.loop-i.invariant.least_small c.term_range-term.ensures.least_in_range);
      greatest_small = rw plus.greatest (one_more_small c.loop-i.sum.greatest c.term_range-term.result.greatest at c.loop-i.invariant.greatest_small c.term_range-term.ensures.greatest_in_range);
    }

pub returns-clause-least : goal.returns-clause-least
returns-clause-least c =
    let end = sum_over-drop_all (least_of c.args.b.now) c.args.coeffs.now c.args.vars.now c.loop-i.i c.requires.linear.same_length c.loop-i-test.false in
    omega (arith, ints, c.loop-i.invariant.least)

pub returns-clause-greatest : goal.returns-clause-greatest
returns-clause-greatest c =
    let end = sum_over-drop_all (greatest_of c.args.b.now) c.args.coeffs.now c.args.vars.now c.loop-i.i c.requires.linear.same_length c.loop-i-test.false in
    omega (arith, ints, c.loop-i.invariant.greatest)

pub returns-clause-least_in_range : goal.returns-clause-least_in_range
returns-clause-least_in_range c = let few : c.loop-i.i ≤ length c.args.coeffs.now = omega arith in terms_small c.loop-i.sum.least c.loop-i.i (length c.args.coeffs.now) c.loop-i.invariant.least_small few c.requires.linear.short

pub returns-clause-greatest_in_range : goal.returns-clause-greatest_in_range
returns-clause-greatest_in_range c = let few : c.loop-i.i ≤ length c.args.coeffs.now = omega arith in terms_small c.loop-i.sum.greatest c.loop-i.i (length c.args.coeffs.now) c.loop-i.invariant.greatest_small few c.requires.linear.short
