use Rattle.std.proofs.Common.{ℕ, ◌<◌, length}
use Rattle.std.specs.Prelude.{◌≤ℤ◌, slice_index}
use Rattle.std.specs.List.{All}
use Rattle.interval.specs.Boxes.{Bounds, low_of, high_of, IsInside}
use Rattle.guarded_tell.specs.Kernels.{vars_of}
use Rattle.literals.specs.Literals.{IsPlaced, Meets}
use Rattle.nogoods.proofs.bounds_met.meet_bounds.Given as goal

abbrev pub invariant-loop-place : goal.invariant-loop-place
invariant-loop-place l = record {
  placed : All (IsPlaced (length l.space)) l.literals;
  others : (p : Bounds) → IsInside p l.space → Meets p l.literals → Meets p l.initial.literals;
  lows : (p : Bounds) → IsInside p l.space → Meets p l.literals → (i : ℕ) → i < l.place →
      low_of l.b (slice_index (vars_of l.kernel) i) ≤ℤ low_of p (slice_index (vars_of l.kernel) i);
  highs : (p : Bounds) → IsInside p l.space → Meets p l.literals → (i : ℕ) → i < l.place →
      high_of p (slice_index (vars_of l.kernel) i) ≤ℤ high_of l.b (slice_index (vars_of l.kernel) i);
}
