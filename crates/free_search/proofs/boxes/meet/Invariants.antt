use Rattle.std.proofs.Common.{ℕ, ◌<◌, ◌≤ℤ◌}
use Rattle.interval.specs.Boxes.{Bounds, low_of, high_of, IsInside}
use Rattle.free_search.proofs.boxes.meet.Given as goal

-- the box lies in the first, and in the second as far as that was looked at, and holds what lies in both
abbrev pub invariant-loop-v : goal.invariant-loop-v
invariant-loop-v l = record {
  in_first : IsInside l.met l.first;
  in_second : (i : ℕ) → i < l.v → (low_of l.second i ≤ℤ low_of l.met i) × (high_of l.met i ≤ℤ high_of l.second i);
  holds : (b : Bounds) → IsInside b l.first → IsInside b l.second → IsInside b l.met;
}
