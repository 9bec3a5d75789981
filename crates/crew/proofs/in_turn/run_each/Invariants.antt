use Rattle.std.proofs.Common.{◌-◌, ◌^◌, ◌≤◌, min}
use Rattle.crew.specs.InTurn.{HasRunBelow}
use Rattle.crew.proofs.in_turn.run_each.Given as goal

abbrev pub invariant-loop-number : goal.invariant-loop-number
invariant-loop-number g l = record {
  fits : g.J.Job.fits l.work.job.now l.seat;
  parts : g.J.Job.has_parts l.seat 1024;
  asked : min l.initial.worker.turn (2 ^ 64 - 1) ≤ l.worker.turn;
  run : HasRunBelow (g.J.Job.owns l.work.job.now) (g.J.Job.stands l.work.job.now) l.number l.worker l.seat;
}
