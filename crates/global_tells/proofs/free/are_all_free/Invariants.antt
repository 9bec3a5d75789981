-- The tasks that were passed are free.
use Rattle.std.proofs.Common.{ℕ, ◌<◌}
use Rattle.global_tells.specs.Cumulative.{IsFree, task_in}
use Rattle.global_tells.proofs.free.are_all_free.Given as goal

abbrev pub invariant-loop-k : goal.invariant-loop-k
invariant-loop-k l = (i : ℕ) → i < l.k → IsFree l.tasks.limit l.b (task_in l.tasks i)
