use Rattle.std.proofs.Common.{◌≡◌, ◌++◌, ◌≤◌, ℕ, List, length, map, true, vec_capacity}
use Rattle.std.specs.List.{All, flat_map}
use Rattle.crew.specs.AtWork.{HaveRun, HaveRunSome, IsFirstSeat}
use Rattle.crew.proofs.hiring.take_all.Given as goal

abbrev pub invariant-loop-worker : goal.invariant-loop-worker
invariant-loop-worker g l = record {
  all : l.yielded ++ l.worker-iterator.rest.items ≡ l.fn.workers.items;
  room : length l.fn.workers.items ≤ vec_capacity l.rights;
  seat : IsFirstSeat (g.J.Job.fits l.job) g.J.Job.has_parts (length l.worker-iterator.rest.items) l.seat;
  rights : l.rights.items ≡ map (λ worker. worker.right) l.yielded;
  done : l.is_whole ≡ true → All (λ worker. worker.is_done ≡ true) l.yielded;
  run : l.is_whole ≡ true → (drawn : g.row.N.Denot → List ℕ) → All (λ worker. HaveRun (g.J.Job.stands l.job) (drawn worker.right) worker.seat worker.runs.items) l.yielded → HaveRun (g.J.Job.stands l.job) (flat_map drawn l.rights.items) l.seat l.runs.items;
  made : (drawn : g.row.N.Denot → List ℕ) → All (λ worker. HaveRunSome (g.J.Job.stands l.job) (drawn worker.right) worker.seat) l.yielded → HaveRunSome (g.J.Job.stands l.job) (flat_map drawn l.rights.items) l.seat;
}
