use Rattle.std.proofs.Common.{◌∙◌}
use Rattle.nogoods.proofs.analysis.analyze.Goals as goal

pub back-preserved : goal.back-preserved
back-preserved c = record {
  nogood = λ before. c.in_ok-explain.ensures.nogood (c.back.invariant.nogood before);
  placed = c.in_ok-explain.ensures.placed;
  same_count = c.explain.ensures.same_count ∙ c.back.invariant.same_count;
}
