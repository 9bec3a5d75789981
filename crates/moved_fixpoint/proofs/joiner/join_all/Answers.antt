use Rattle.std.proofs.Common.{◌∙◌}
use Rattle.moved_fixpoint.specs.Heard.{joined}
use Rattle.moved_fixpoint.proofs.Hearing.{heard_one}
use Rattle.moved_fixpoint.proofs.joiner.join_all.Goals as goal

pub loop-t-preserved : goal.loop-t-preserved
loop-t-preserved c = record {
  stack = c.join-progress.ensures.stack ∙ c.loop-t.invariant.stack;
  heard =
      heard_one c.law_inside_order.ensures c.law_tightens_one.ensures
      (joined c.args.b.now.current c.args.progress) c.args.told.now c.loop-t.t-index _
      (joined c.loop-t.b.current c.loop-t.progress)
      (joined c.join-progress.new.b.current c.join-progress.result)
      c.requires.placed c.loop-t-test.true c.loop-t.invariant.heard c.join-progress.ensures.heard;
}
