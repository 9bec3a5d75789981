-- What a free search concludes.
use Rattle.std.specs.Prelude.{◌≡◌, ℕ, suc, ℤ, pos, ◌-ℤ◌, List}
use Rattle.guarded_tell.specs.declared.kernel.Kernel.{Kernel}
use Rattle.interval.specs.Boxes.{Bounds, IsInside, low_of, put_of}
use Rattle.constraint_model.specs.declared.model.FznModel.{FznModel}
use Rattle.solution_lists.specs.Solutions.{SolvesInside}
use Rattle.solution_lists.specs.Order.{value_at}
use Rattle.nogoods.specs.Nogoods.{HasNone}
use Rattle.free_search.specs.declared.ends.FreeEnd.{FreeEnd}
use Rattle.free_search.specs.declared.ends.FreeEnd.TheVariants.{Found, Refuted, GaveUp}

-- p holds of the solution, if one was found
abbrev pub IfFound : FreeEnd → (List ℤ → Type 0) → Type 0
IfFound (Found a) p = p a
IfFound Refuted p = Unit {0}
IfFound GaveUp p = Unit {0}

-- p holds, if it was refuted that there is one
abbrev pub IfRefuted : FreeEnd → Type 0 → Type 0
IfRefuted (Found a) p = Unit {0}
IfRefuted Refuted p = p
IfRefuted GaveUp p = Unit {0}

-- the box with another upper bound of a pair; it lies inside
pub record IsCutTo (space : Bounds) (pair : ℕ) (bound : ℤ) (sub : Bounds) : Type 0 where
  pub is : sub ≡ put_of space pair (low_of space pair) bound
  pub inside : IsInside sub space

-- a is a solution in the box b of the space, and none is in the box of those there with a lesser number of the variable
pub record HasLeast (model : FznModel) (kernels : List Kernel) (space b : Bounds) (var : ℕ) (a : List ℤ) : Type 0 where
  pub solves : SolvesInside model b a
  pub none : HasNone kernels space (put_of b (suc var) (low_of b (suc var)) (value_at a var -ℤ pos 1))
