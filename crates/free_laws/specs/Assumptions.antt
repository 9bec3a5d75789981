-- What is known once no solution in a space meets some assumptions.
use Rattle.std.specs.Prelude.{◌⊎◌, ◌<◌, List, [], ◌∷◌, length}
use Rattle.std.specs.List.{All, Contains}
use Rattle.interval.specs.Boxes.{Bounds, IsInside}
use Rattle.guarded_tell.specs.declared.kernel.Kernel.{Kernel}
use Rattle.guarded_tell.specs.Words.{Tell, Keeps}
use Rattle.literals.specs.Literals.{Meets, IsAsTight, opposite}
use Rattle.nogoods.specs.Nogoods.{IsNogood, HasNone, AllMeet, KeepsSolutions}

-- an assumption is as tight as the literal
pub record IsAssumed (assumed : List Tell) (t : Tell) : Type 0 where
  pub by : Tell
  pub is_one : Contains assumed by
  pub tight : IsAsTight by t

-- the whole space meets the literal, or an assumption is as tight
pub record IsUnder (space : Bounds) (assumed : List Tell) (t : Tell) : Type 0 where
  pub variable : t.var < length space
  pub met : Keeps space t ⊎ IsAssumed assumed t

-- the box holds all in the space that meets the assumptions
abbrev pub HoldsAssumed : Bounds → List Tell → Bounds → Type 0
HoldsAssumed space assumed b = (c : Bounds) → IsInside c space → Meets c assumed → IsInside c b

pub record AssumptionLaws : Type 0 where
  -- a nogood whose literals are assumptions or met by the space: no solution meets all assumptions
  pub under : (kernels : List Kernel) (space : Bounds) (assumed literals : List Tell) → All (IsUnder space assumed) literals →
      IsNogood kernels space literals → IsNogood kernels space assumed
  -- the same of the box of the assumptions
  pub refuted : (kernels : List Kernel) (space b : Bounds) (assumed : List Tell) → HoldsAssumed space assumed b →
      HasNone kernels space b → IsNogood kernels space assumed
  -- of one assumption the opposite is a fact
  pub alone : (kernels : List Kernel) (space : Bounds) (t : Tell) → t.var < length space → IsNogood kernels space (t ∷ []) →
      AllMeet kernels space space (opposite t)
  -- which may be put into the space
  pub put : (kernels : List Kernel) (space narrowed : Bounds) (t : Tell) → IsInside narrowed space → HoldsAssumed space (t ∷ []) narrowed →
      AllMeet kernels space space t → KeepsSolutions kernels space space narrowed
  -- and the nogoods go on, in both directions
  pub onward : (kernels : List Kernel) (space narrowed : Bounds) (literals : List Tell) → KeepsSolutions kernels space space narrowed →
      IsNogood kernels space literals → IsNogood kernels narrowed literals
  pub back : (kernels : List Kernel) (space narrowed : Bounds) (literals : List Tell) → KeepsSolutions kernels space space narrowed →
      IsNogood kernels narrowed literals → IsNogood kernels space literals
