use Rattle.std.proofs.Common.{List}
use Rattle.std.specs.List.{All}
use Rattle.interval.specs.Boxes.{Bounds}
use Rattle.guarded_tell.specs.declared.kernel.Kernel.{Kernel}
use Rattle.nogoods.specs.Learnings.{IsKept}
use Rattle.nogoods.proofs.learner.forget_some.Given as goal

abbrev pub invariant-loop-place : goal.invariant-loop-place
invariant-loop-place l = (kernels : List Kernel) (space : Bounds) → All (IsKept kernels space) l.initial.store.items → All (IsKept kernels space) l.store.items

abbrev pub decreases-loop-place : goal.decreases-loop-place
decreases-loop-place l = l.place
