-- One more term moves from what is left into the sums.
use Rattle.std.proofs.Common.{◌∙◌, ◌<◌, ◌≤◌, length, arith}
use Rattle.std.proofs.lemmas.Int.{ints}
use Rattle.bit_domain.specs.Mixes.{hull}
use Rattle.sum_tells.specs.Linear.{least_of, greatest_of}
use Rattle.domain_drops.proofs.TermLaws.{sum_over-drop, sum_over-drop_all}
use Rattle.domain_drops.proofs.ProductLaws.{terms_small, one_more_small}
use Rattle.domain_drops.proofs.sums.sum_range.Goals as goal

pub sum_with-sum-requires-clause-sum_least : goal.sum_with-sum-requires-clause-sum_least
sum_with-sum-requires-clause-sum_least c = let few : c.loop-i.i ≤ length c.args.coeffs.now = omega arith in terms_small c.loop-i.sum.least c.loop-i.i (length c.args.coeffs.now) c.loop-i.invariant.least_small few c.requires.linear.short

pub sum_with-sum-requires-clause-sum_greatest : goal.sum_with-sum-requires-clause-sum_greatest
sum_with-sum-requires-clause-sum_greatest c = let few : c.loop-i.i ≤ length c.args.coeffs.now = omega arith in terms_small c.loop-i.sum.greatest c.loop-i.i (length c.args.coeffs.now) c.loop-i.invariant.greatest_small few c.requires.linear.short

pub loop-i-preserved : goal.loop-i-preserved
loop-i-preserved c =
    let at = c.loop-i.i in
    let same = c.requires.linear.same_length in
    let inside : at < length c.args.coeffs.now = (let count = c.len-i-end.ensures in let less = c.loop-i-test.true in omega arith) in
    let coeff = c.term_at.ensures.coeff in
    let var = c.term_at.ensures.var in
    let least_step = sum_over-drop (least_of (hull c.args.m.now)) c.args.coeffs.now c.args.vars.now at same inside in
    let greatest_step = sum_over-drop (greatest_of (hull c.args.m.now)) c.args.coeffs.now c.args.vars.now at same inside in
    let least_is = c.term_range-own.ensures.least ∙ (λ k. least_of (hull c.args.m.now) (coeff k, var k)) in
    let greatest_is = c.term_range-own.ensures.greatest ∙ (λ k. greatest_of (hull c.args.m.now) (coeff k, var k)) in
    let plus = c.sum_with-sum.ensures in
    record {
      least = omega (arith, ints, plus.least, c.loop-i.invariant.least);
      greatest = omega (arith, ints, plus.greatest, c.loop-i.invariant.greatest);
      least_small = rw plus.least (one_more_small c.loop-i.sum.least c.term_range-own.result.least at c.loop-i.invariant.least_small c.term_range-own.ensures.least_in_range);
      greatest_small = rw plus.greatest (one_more_small c.loop-i.sum.greatest c.term_range-own.result.greatest at c.loop-i.invariant.greatest_small c.term_range-own.ensures.greatest_in_range);
    }

pub returns-clause-least : goal.returns-clause-least
returns-clause-least c =
    let outside : length c.args.coeffs.now ≤ c.loop-i.i = (let count = c.len-i-end.ensures in let same = c.requires.linear.same_length in let more = c.loop-i-test.false in omega arith) in
    let end = sum_over-drop_all (least_of (hull c.args.m.now)) c.args.coeffs.now c.args.vars.now c.loop-i.i c.requires.linear.same_length outside in
    omega (arith, ints, c.loop-i.invariant.least)

pub returns-clause-greatest : goal.returns-clause-greatest
returns-clause-greatest c =
    let outside : length c.args.coeffs.now ≤ c.loop-i.i = (let count = c.len-i-end.ensures in let same = c.requires.linear.same_length in let more = c.loop-i-test.false in omega arith) in
    let end = sum_over-drop_all (greatest_of (hull c.args.m.now)) c.args.coeffs.now c.args.vars.now c.loop-i.i c.requires.linear.same_length outside in
    omega (arith, ints, c.loop-i.invariant.greatest)

pub returns-clause-least_in_range : goal.returns-clause-least_in_range
returns-clause-least_in_range c = let few : c.loop-i.i ≤ length c.args.coeffs.now = omega arith in terms_small c.loop-i.sum.least c.loop-i.i (length c.args.coeffs.now) c.loop-i.invariant.least_small few c.requires.linear.short

pub returns-clause-greatest_in_range : goal.returns-clause-greatest_in_range
returns-clause-greatest_in_range c = let few : c.loop-i.i ≤ length c.args.coeffs.now = omega arith in terms_small c.loop-i.sum.greatest c.loop-i.i (length c.args.coeffs.now) c.loop-i.invariant.greatest_small few c.requires.linear.short
