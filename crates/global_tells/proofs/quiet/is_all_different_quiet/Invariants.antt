-- The places that were passed are wide.
use Rattle.std.proofs.Common.{ℕ, ◌<◌, length, get_or, pos, ◌+ℤ◌, ◌≤ℤ◌}
use Rattle.interval.specs.Boxes.{low_of, high_of}
use Rattle.global_tells.proofs.quiet.is_all_different_quiet.Given as goal

abbrev pub invariant-loop-i : goal.invariant-loop-i
invariant-loop-i l = (k : ℕ) → k < l.i → (low_of l.b (get_or l.xs k 0) +ℤ pos (length l.xs)) ≤ℤ high_of l.b (get_or l.xs k 0)
