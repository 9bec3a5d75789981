-- Nogoods: lists of literals that no solution in a space meets.
--
-- The space is the box of the whole search. Where it is for the least cost it is cut below the best so far; so it gets smaller
-- as the best falls, and what is a nogood stays one.
use Rattle.std.specs.Prelude.{◌≤ℤ◌, ℕ, List}
use Rattle.interval.specs.Boxes.{Bounds, low_of, high_of, IsInside, IsPoint}
use Rattle.guarded_tell.specs.declared.kernel.Kernel.{Kernel}
use Rattle.guarded_tell.specs.Words.{Tell, Keeps, IsInsideIn}
use Rattle.guarded_tell.specs.Kernels.{vars_of}
use Rattle.fixpoint_laws.specs.Fixpoints.{IsClosed}
use Rattle.literals.specs.Literals.{Meets, MeetsBut}

-- a solution in the space: a point that no kernel narrows
pub record IsSolutionPoint (kernels : List Kernel) (space p : Bounds) : Type 0 where
  pub is_point : IsPoint p
  pub closed : IsClosed p kernels
  pub inside : IsInside p space

-- no solution in the space meets all of these literals
abbrev pub IsNogood : List Kernel → Bounds → List Tell → Type 0
IsNogood kernels space literals = (p : Bounds) → IsSolutionPoint kernels space p → Meets p literals → ⊥

-- no solution in the space lies in the box
abbrev pub HasNone : List Kernel → Bounds → Bounds → Type 0
HasNone kernels space b = (p : Bounds) → IsSolutionPoint kernels space p → IsInside p b → ⊥

-- each solution in the space that lies in the box meets the literal
abbrev pub AllMeet : List Kernel → Bounds → Bounds → Tell → Type 0
AllMeet kernels space b t = (p : Bounds) → IsSolutionPoint kernels space p → IsInside p b → Keeps p t

-- each solution in the space that lies in the first box lies in the second, which lies inside the first
pub record KeepsSolutions (kernels : List Kernel) (space before after : Bounds) : Type 0 where
  pub inside : IsInside after before
  pub kept : (p : Bounds) → IsSolutionPoint kernels space p → IsInside p before → IsInside p after

-- whoever lies in the space and meets the literals after meets those before, and has the bounds of the variable v in the box
pub record MeetsPair (space b : Bounds) (v : ℕ) (before after : List Tell) (p : Bounds) : Type 0 where
  pub others : Meets p before
  pub low : low_of b v ≤ℤ low_of p v
  pub high : high_of p v ≤ℤ high_of b v

abbrev pub IsMetPair : Bounds → Bounds → ℕ → List Tell → List Tell → Type 0
IsMetPair space b v before after = (p : Bounds) → IsInside p space → Meets p after → MeetsPair space b v before after p

-- the same of all of the kernel's variables
abbrev pub AreMetBounds : Bounds → Bounds → Kernel → List Tell → List Tell → Type 0
AreMetBounds space b kernel before after =
    (p : Bounds) → IsInside p space → Meets p after → Meets p before × IsInsideIn (vars_of kernel) p b

-- the same of all literals of a list but the one at a place
abbrev pub AreMetBut : Bounds → List Tell → ℕ → List Tell → List Tell → Type 0
AreMetBut space reason own before after =
    (p : Bounds) → IsInside p space → Meets p after → Meets p before × MeetsBut p reason own
