use Rattle.std.proofs.Common.{ℕ, ◌<◌, ◌≤ℤ◌}
use Rattle.interval.specs.Boxes.{low_of, high_of}
use Rattle.free_search.proofs.points.is_within.Given as goal

abbrev pub invariant-loop-v : goal.invariant-loop-v
invariant-loop-v l = (i : ℕ) → i < l.v → (low_of l.outer i ≤ℤ low_of l.b i) × (high_of l.b i ≤ℤ high_of l.outer i)
