-- The places that were passed, from the last on, are in the sets where they should be.
use Rattle.std.proofs.Common.{◌≡◌, ◌-◌, length, drop}
use Rattle.std.specs.Int.RustNames.{int_le}
use Rattle.interval.specs.Boxes.{low_of, high_of}
use Rattle.global_tells.specs.Places.{mask_of}
use Rattle.global_tells.proofs.places.places_to.Given as goal

abbrev pub invariant-loop-i : goal.invariant-loop-i
invariant-loop-i l =
    (l.lows ≡ mask_of (λ x. int_le (low_of l.b x) (high_of l.b l.last)) (drop (length l.xs - l.i) l.xs))
    × (l.highs ≡ mask_of (λ x. int_le (high_of l.b x) (high_of l.b l.last)) (drop (length l.xs - l.i) l.xs))
