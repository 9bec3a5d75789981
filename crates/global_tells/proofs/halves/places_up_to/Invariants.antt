-- The places that were passed have the places up to their highs.
use Rattle.std.proofs.Common.{◌≡◌, ℕ, ◌<◌, length, get_or}
use Rattle.interval.specs.Boxes.{high_of}
use Rattle.global_tells.specs.Places.{places_to, no_places}
use Rattle.global_tells.proofs.halves.places_up_to.Given as goal

abbrev pub invariant-loop-j : goal.invariant-loop-j
invariant-loop-j l =
    (length l.upto ≡ 256)
    × ((k : ℕ) → k < l.j → get_or l.upto k no_places ≡ places_to l.b (high_of l.b (get_or l.lasts k 0)) l.xs)
