use Rattle.std.proofs.Common.{◌≡◌, sym, ◌∙◌}
use Rattle.narrowing.proofs.LaneCounts.{one_lane, no_kernels}
use Rattle.narrowing.proofs.narrower.Narrower.new.Goals.{then-lanes-eq1, else-lanes-eq1}
use Rattle.narrowing.proofs.narrower.Narrower.new.Goals as goal

pub returns-in_ok-new-clause-lanes : goal.returns-in_ok-new-clause-lanes
returns-in_ok-new-clause-lanes c = elim c.if-lanes-eq1.branch [
  | then-lanes-eq1 w ↦ one_lane c.args.kernels.now c.args.lanes w.if-lanes-eq1.true
  | else-lanes-eq1 w ↦ no_kernels c.args.kernels.now c.args.lanes (sym w.is_empty.ensures ∙ sym w.value-is ∙ c.if-is_empty.true)
]
