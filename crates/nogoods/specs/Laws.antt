-- The laws of nogoods.
use Rattle.std.specs.Prelude.{◌≡◌, ◌<◌, ℕ, List, ◌∷◌, length, slice_index_or}
use Rattle.std.specs.List.{All, Contains}
use Rattle.interval.specs.Boxes.{Bounds, IsInside, IsInRange}
use Rattle.guarded_tell.specs.declared.kernel.Kernel.{Kernel}
use Rattle.guarded_tell.specs.Words.{Tell, Keeps, IsProperIn, IsInsideIn}
use Rattle.guarded_tell.specs.Kernels.{vars_of, tells, IsKernel}
use Rattle.literals.specs.Literals.{Meets, MeetsBut, IsPlaced, opposite}
use Rattle.nogoods.specs.Nogoods.{IsSolutionPoint, IsNogood, HasNone, AllMeet}

pub record NogoodLaws : Type 0 where
  -- the space gets smaller, as where the best cost falls: nogoods stay
  pub smaller : (kernels : List Kernel) (space inner : Bounds) (literals : List Tell) → IsInside inner space →
      IsNogood kernels space literals → IsNogood kernels inner literals
  -- a box that meets a nogood has no solution
  pub met : (kernels : List Kernel) (space b : Bounds) (literals : List Tell) → All (IsPlaced (length b)) literals →
      IsNogood kernels space literals → Meets b literals → HasNone kernels space b
  -- each solution in a box that meets all but one of a nogood meets the opposite of that one
  pub but_one : (kernels : List Kernel) (space b : Bounds) (literals : List Tell) (place : ℕ) (d : Tell) → length b ≡ length space →
      All (IsPlaced (length b)) literals → place < length literals → IsNogood kernels space literals → MeetsBut b literals place →
      AllMeet kernels space b (opposite (slice_index_or literals place d))
  -- a literal of the whole space may be left out
  pub drops : (kernels : List Kernel) (space : Bounds) (t : Tell) (literals : List Tell) → t.var < length space →
      Keeps space t → IsNogood kernels space (t ∷ literals) → IsNogood kernels space literals
  -- what a kernel tells on a box every solution meets that has the bounds of the kernel's variables there
  pub reason : (kernels : List Kernel) (space b p : Bounds) (k : Kernel) → length b ≡ length space → Contains kernels k →
      IsKernel (length b) k → IsInRange b → IsProperIn (vars_of k) b → IsSolutionPoint kernels space p →
      IsInsideIn (vars_of k) p b → Meets p (tells k b)
