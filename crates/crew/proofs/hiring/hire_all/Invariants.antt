use Rattle.std.proofs.Common.{◌≡◌, ◌++◌, ◌≤◌, [], length, map, vec_capacity}
use Rattle.std.specs.List.{All}
use Rattle.crew.specs.AtWork.{IsFirstSeat, IsHired}
use Rattle.crew.proofs.hiring.hire_all.Given as goal

abbrev pub invariant-loop-recruit : goal.invariant-loop-recruit
invariant-loop-recruit g l = record {
  all : l.yielded ++ l.recruit-iterator.rest.items ≡ l.fn.recruits.items;
  len : length l.workers.items ≡ length l.yielded;
  room : length l.fn.recruits.items ≤ vec_capacity l.workers;
  seat : IsFirstSeat (g.J.Job.fits l.job) g.J.Job.has_parts (length l.workers.items) l.seat;
  none : g.J.Job.stands l.job l.seat [];
  hired : All (IsHired (g.J.Job.fits l.job) g.J.Job.has_parts (g.J.Job.owns l.job) (g.J.Job.stands l.job)) l.workers.items;
  numbers : map (λ worker. worker.number) l.workers.items ≡ map (λ recruit. recruit.number) l.yielded;
  turns : map (λ worker. worker.turn) l.workers.items ≡ map (λ recruit. recruit.turn) l.yielded;
  rights : map (λ worker. worker.right) l.workers.items ≡ map (λ recruit. recruit.right) l.yielded;
}
