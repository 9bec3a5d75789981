-- How a nogood bears on a box, and what is known for whatever kernels and space it is one of.
use Rattle.std.specs.Prelude.{◌≡◌, List, length}
use Rattle.interval.specs.Boxes.{Bounds}
use Rattle.guarded_tell.specs.declared.kernel.Kernel.{Kernel}
use Rattle.guarded_tell.specs.Words.{Tell}
use Rattle.nogoods.specs.declared.bearing.Bearing.{Bearing}
use Rattle.nogoods.specs.declared.bearing.Bearing.TheVariants.{Quiet, Told, Failed}
use Rattle.nogoods.specs.Nogoods.{IsNogood, HasNone, AllMeet}

-- p holds of the bound, if one is told
abbrev pub IfTold : Bearing → (Tell → Type 0) → Type 0
IfTold Quiet p = Unit {0}
IfTold (Told t number) p = p t
IfTold (Failed number) p = Unit {0}

-- p holds, if no solution is left
abbrev pub IfFailed : Bearing → Type 0 → Type 0
IfFailed Quiet p = Unit {0}
IfFailed (Told t number) p = Unit {0}
IfFailed (Failed number) p = p

-- if it is a nogood, the box has no solution
abbrev pub IsFailing : List Tell → Bounds → Type 0
IsFailing literals b = (kernels : List Kernel) (space : Bounds) → IsNogood kernels space literals → HasNone kernels space b

-- if it is a nogood, each solution in the box meets the bound
abbrev pub IsTelling : List Tell → Bounds → Tell → Type 0
IsTelling literals b t = (kernels : List Kernel) (space : Bounds) → length b ≡ length space → IsNogood kernels space literals → AllMeet kernels space b t
