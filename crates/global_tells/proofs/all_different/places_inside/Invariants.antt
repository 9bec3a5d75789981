-- So many of the places that were passed have no other numbers.
use Rattle.std.proofs.Common.{◌≡◌, ◌≤◌, take, count_by}
use Rattle.interval.specs.Boxes.{low_of, high_of}
use Rattle.global_tells.specs.AllDifferent.{is_inside}
use Rattle.global_tells.proofs.all_different.places_inside.Given as goal

abbrev pub invariant-loop-i : goal.invariant-loop-i
invariant-loop-i l =
    (l.count ≡ count_by (is_inside l.b (low_of l.b l.ends.first) (high_of l.b l.ends.last)) (take l.i l.xs)) × (l.count ≤ l.i)
