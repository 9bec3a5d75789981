use Rattle.std.proofs.Common.{◌-◌, ◌^◌, ◌≤◌, min}
use Rattle.crew.specs.Rights.{KeepsSame}
use Rattle.crew.specs.AtWork.{HasSeat, MayDraw}
use Rattle.crew.proofs.worker.run_all.Given as goal

abbrev pub invariant-draws : goal.invariant-draws
invariant-draws g l = record {
  seat : HasSeat (g.J.Job.fits l.job) g.J.Job.has_parts l.worker;
  may_draw : MayDraw (g.Q.Source.is_right l.source) g.Q.Source.drawn (g.J.Job.owns l.job) (g.J.Job.stands l.job) l.worker;
  asked : min l.initial.worker.turn (2 ^ 64 - 1) ≤ l.worker.turn;
  same : KeepsSame g.Q.Source.same l.initial.worker.right l.worker.right;
}

abbrev pub decreases-draws : goal.decreases-draws
decreases-draws g l = g.Q.Source.most_left l.source l.worker.right
