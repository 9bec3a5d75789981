use Rattle.std.proofs.Common.{◌≢◌, ℕ, ◌<◌, length, slice_index_or}
use Rattle.std.specs.List.{All}
use Rattle.interval.specs.Boxes.{Bounds, IsInside}
use Rattle.guarded_tell.specs.Words.{Tell, Keeps}
use Rattle.literals.specs.Literals.{IsPlaced, Meets}
use Rattle.nogoods.proofs.bounds_met.meet_others.Given as goal

abbrev pub invariant-loop-place : goal.invariant-loop-place
invariant-loop-place l = record {
  placed : All (IsPlaced (length l.space)) l.literals;
  others : (p : Bounds) → IsInside p l.space → Meets p l.literals → Meets p l.initial.literals;
  met : (p : Bounds) → IsInside p l.space → Meets p l.literals → (k : ℕ) (d : Tell) → k < l.place → k ≢ l.own → Keeps p (slice_index_or l.reason k d);
}
