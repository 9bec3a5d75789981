-- One more pair's width is taken from what is left.
use Rattle.std.proofs.Common.{arith}
use Rattle.std.proofs.lemmas.Int.{ints}
use Rattle.std.proofs.lemmas.List.{at_drop_all}
use Rattle.interval.specs.Limits.{bound_limit, largest_number}
use Rattle.interval.specs.Boxes.{width_sum_of}
use Rattle.interval.proofs.BoxLaws.{widths-drop, widths-fit}
use Rattle.interval.proofs.boxes.sum_of_widths.Goals as goal

pub overflow_add-sum : goal.overflow_add-sum
unfolding bound_limit largest_number
overflow_add-sum c =
    let at = c.loop-pair.pair-index in
    let low = c.requires.in_range.lows at c.loop-pair-test.true in
    let high = c.requires.in_range.highs at c.loop-pair-test.true in
    let step = widths-drop c.args.pairs.now at c.loop-pair-test.true in
    let fits = widths-fit c.args.pairs.now c.requires.in_range in
    omega (arith, ints)

pub loop-pair-preserved : goal.loop-pair-preserved
unfolding bound_limit largest_number
loop-pair-preserved c =
    let at = c.loop-pair.pair-index in
    let low = c.requires.in_range.lows at c.loop-pair-test.true in
    let high = c.requires.in_range.highs at c.loop-pair-test.true in
    let step = widths-drop c.args.pairs.now at c.loop-pair-test.true in
    omega (arith, ints)

pub returns : goal.returns
unfolding width_sum_of
returns c = let done = at_drop_all width_sum_of c.args.pairs.now c.loop-pair.pair-index c.loop-pair-test.false in omega arith
