-- Fixpoints of propagation. All propagators (the kernels, each with its guarded tells) are monotone and only
-- narrow, so the boxes that none of them narrows any more have a greatest one inside every start, unless there
-- is none at all: the result of propagation, whatever the order. (Talbot, Pinel and Bouvry, "A Variant of
-- Concurrent Constraint Programming on GPU", AAAI 2022: the fixpoint of all guarded tells.)
use Rattle.std.specs.Prelude.{List, length, ◌⊎◌, ◌≡◌}
use Rattle.std.specs.List.{All}
use Rattle.interval.specs.Boxes.{Bounds, IsInRange, IsInside, IsProper}
use Rattle.guarded_tell.specs.declared.kernel.Kernel.{Kernel}
use Rattle.guarded_tell.specs.Kernels.{IsClosedUnder, IsKernel}

-- some number is left for each variable, and no tell of any kernel narrows the box
pub record IsClosed (b : Bounds) (kernels : List Kernel) : Type 0 where
  pub proper : IsProper b
  pub quiet : All (λ k. IsClosedUnder k b) kernels

-- g is the greatest closed box inside the start
pub record IsGreatest (g start : Bounds) (kernels : List Kernel) : Type 0 where
  pub closed : IsClosed g kernels
  pub inside : IsInside g start
  pub greatest : (b : Bounds) → IsClosed b kernels → IsInside b start → IsInside b g

-- no closed box is inside the start
abbrev pub Fails : Bounds → List Kernel → Type 0
Fails start kernels = (b : Bounds) → IsClosed b kernels → IsInside b start → ⊥

-- for every start and list of kernels there is either one greatest closed box, or no closed box at all
pub record OneFixpoint : Type 0 where
  pub exists : (start : Bounds) (kernels : List Kernel) → IsInRange start → All (IsKernel (length start)) kernels →
      ((g : Bounds) × IsGreatest g start kernels) ⊎ Fails start kernels
  pub not_both : (start : Bounds) (kernels : List Kernel) (g : Bounds) → IsGreatest g start kernels → Fails start kernels → ⊥
  pub unique : (start : Bounds) (kernels : List Kernel) (g h : Bounds) →
      IsGreatest g start kernels → IsGreatest h start kernels → g ≡ h
