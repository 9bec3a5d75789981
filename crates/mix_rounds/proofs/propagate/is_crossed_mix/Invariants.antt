use Rattle.std.proofs.Common.{◌<◌, ◌≤ℤ◌, ℕ}
use Rattle.interval.specs.Boxes.{low_of, high_of}
use Rattle.bit_domain.specs.Mixes.{hull}
use Rattle.mix_rounds.proofs.propagate.is_crossed_mix.Given as goal

abbrev pub invariant-loop-v : goal.invariant-loop-v
invariant-loop-v l = (w : ℕ) → w < l.v → low_of (hull l.m) w ≤ℤ high_of (hull l.m) w
