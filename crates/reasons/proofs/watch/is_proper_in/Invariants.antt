use Rattle.std.proofs.Common.{ℕ, ◌<◌}
use Rattle.std.specs.Prelude.{◌≤ℤ◌, slice_index}
use Rattle.interval.specs.Boxes.{low_of, high_of}
use Rattle.guarded_tell.specs.Kernels.{vars_of}
use Rattle.reasons.proofs.watch.is_proper_in.Given as goal

abbrev pub invariant-loop-place : goal.invariant-loop-place
invariant-loop-place l = (i : ℕ) → i < l.place → low_of l.b (slice_index (vars_of l.kernel) i) ≤ℤ high_of l.b (slice_index (vars_of l.kernel) i)
