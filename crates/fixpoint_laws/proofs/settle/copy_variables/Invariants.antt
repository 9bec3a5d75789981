use Rattle.std.proofs.Common.{◌≡◌, ℕ, ◌<◌, ◌≤ℤ◌, length, get_or}
use Rattle.interval.specs.Boxes.{low_of, high_of}
use Rattle.guarded_tell.specs.Kernels.{vars_of}
use Rattle.fixpoint_laws.proofs.Copying.{SameAt}
use Rattle.fixpoint_laws.proofs.settle.copy_variables.Given as goal

abbrev pub invariant-loop-place : goal.invariant-loop-place
invariant-loop-place l = record {
  same_length : length l.into ≡ length l.from;
  copied : (i : ℕ) → i < l.place → SameAt l.into l.from (get_or (vars_of l.kernel) i 0);
  proper : (i : ℕ) → i < l.place → low_of l.from (get_or (vars_of l.kernel) i 0) ≤ℤ high_of l.from (get_or (vars_of l.kernel) i 0);
}
