-- What an analysis may read.
use Rattle.std.specs.Prelude.{List, length}
use Rattle.std.specs.List.{All}
use Rattle.interval.specs.Boxes.{Bounds}
use Rattle.guarded_tell.specs.declared.kernel.Kernel.{Kernel}
use Rattle.guarded_tell.specs.Words.{Tell}
use Rattle.guarded_tell.specs.Kernels.{IsKernel}
use Rattle.literals.specs.Literals.{IsPlaced}
use Rattle.nogoods.specs.declared.store.Nogood.{Nogood}
use Rattle.nogoods.specs.declared.analysis.Learning.{Learning}
use Rattle.nogoods.specs.Nogoods.{IsNogood}

-- a nogood of the kernels in the space, over its variables
pub record IsKept (kernels : List Kernel) (space : Bounds) (nogood : Nogood) : Type 0 where
  pub placed : All (IsPlaced (length space)) nogood.literals.items
  pub holds : IsNogood kernels space nogood.literals.items

-- the kernels can be run on the space, and the nogoods are some of them there
pub record CanLearn (what : Learning) : Type 0 where
  pub kernels : All (IsKernel (length what.space.now)) what.kernels.now
  pub nogoods : All (IsKept what.kernels.now what.space.now) what.nogoods.now

-- if these literals were a nogood, those are one
abbrev pub GoesOver : List Kernel → Bounds → List Tell → List Tell → Type 0
GoesOver kernels space before after = IsNogood kernels space before → IsNogood kernels space after
