-- The starts that were passed have what is used at them.
use Rattle.std.proofs.Common.{◌≡◌, ℕ, ◌<◌, ◌≤◌, unsigned_abs, length, get_or, pos}
use Rattle.interval.specs.Boxes.{high_of}
use Rattle.global_tells.specs.Cumulative.{tasks_in, usage_at, usage_limit}
use Rattle.global_tells.proofs.cumulative.used_at_starts.Given as goal

abbrev pub invariant-loop-j : goal.invariant-loop-j
invariant-loop-j l =
    (length l.used ≡ 256)
    × ((k : ℕ) → k < l.j → get_or l.used k (pos 0) ≡ usage_at (tasks_in l.tasks) l.b (high_of l.b (get_or l.tasks.starts.now k 0)))
    × ((k : ℕ) → k < l.j → unsigned_abs (get_or l.used k (pos 0)) ≤ usage_limit)
