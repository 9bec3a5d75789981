-- What the tasks that were passed use.
use Rattle.std.proofs.Common.{◌≡◌, ◌*◌, pos, ◌≤ℤ◌, take}
use Rattle.interval.specs.Limits.{largest_number}
use Rattle.global_tells.specs.Cumulative.{tasks_in, sum_of, sure_usage}
use Rattle.global_tells.proofs.cumulative.usage_at.Given as goal

abbrev pub invariant-loop-k : goal.invariant-loop-k
invariant-loop-k l =
    (l.used ≡ sum_of (sure_usage l.b l.fn.time) (take l.k (tasks_in l.tasks)))
    × (pos 0 ≤ℤ l.used) × (l.used ≤ℤ pos (l.k * largest_number))
