-- The variables so far have a number.
use Rattle.std.proofs.Common.{ℕ, ◌<◌, ◌≤ℤ◌}
use Rattle.interval.specs.Boxes.{low_of, high_of}
use Rattle.bit_domain.specs.Mixes.{hull}
use Rattle.domain_tests.proofs.drops.is_proper.Given as goal

abbrev pub invariant-loop-v : goal.invariant-loop-v
invariant-loop-v l = (k : ℕ) → k < l.v → low_of (hull l.m) k ≤ℤ high_of (hull l.m) k
