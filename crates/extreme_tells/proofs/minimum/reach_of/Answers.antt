-- The greatest and the least from the first variable on.
use Rattle.std.proofs.Common.{sym, ap, ◌∙◌}
use Rattle.interval.specs.Boxes.{high_of, low_of}
use Rattle.extreme_tells.specs.Extremes.{least_with}
use Rattle.extreme_tells.proofs.ExtremeLaws.{least_begin, least_more, least_end}
use Rattle.extreme_tells.proofs.CommonLaws.{coded_bound}
use Rattle.extreme_tells.proofs.minimum.reach_of.Goals as goal

pub loop-i-init : goal.loop-i-init
loop-i-init c = record {
  high = ap (λ z. least_with (high_of c.args.b.now) z c.args.xs.now) (coded_bound c.high.result c.high.ensures.in_range ∙ c.high.ensures.value) ∙ least_begin (high_of c.args.b.now) c.args.xs.now 0 c.requires.some;
  low = ap (λ z. least_with (low_of c.args.b.now) z c.args.xs.now) (coded_bound c.low.result c.low.ensures.in_range ∙ c.low.ensures.value) ∙ least_begin (low_of c.args.b.now) c.args.xs.now 0 c.requires.some;
}

pub loop-i-preserved : goal.loop-i-preserved
loop-i-preserved c = record {
  high = sym (least_more (high_of c.args.b.now) c.loop-i.reach.high c.reach_with-reach.result.high c.args.xs.now c.loop-i.i 0 c.loop-i-test.true c.reach_with-reach.ensures.high) ∙ c.loop-i.invariant.high;
  low = sym (least_more (low_of c.args.b.now) c.loop-i.reach.low c.reach_with-reach.result.low c.args.xs.now c.loop-i.i 0 c.loop-i-test.true c.reach_with-reach.ensures.low) ∙ c.loop-i.invariant.low;
}

pub returns-clause-high : goal.returns-clause-high
returns-clause-high c = sym (least_end (high_of c.args.b.now) c.loop-i.reach.high c.args.xs.now c.loop-i.i c.loop-i-test.false) ∙ c.loop-i.invariant.high

pub returns-clause-low : goal.returns-clause-low
returns-clause-low c = sym (least_end (low_of c.args.b.now) c.loop-i.reach.low c.args.xs.now c.loop-i.i c.loop-i-test.false) ∙ c.loop-i.invariant.low
