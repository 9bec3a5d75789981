-- What is known of the list of a box without solutions, and of one whose first solution was found by its keys.
use Rattle.std.proofs.Common.{◌≡◌, ℤ, List, [], ◌∷◌, Option, Some, None, refl, sym, subst, arith}
use Rattle.interval.specs.Boxes.{Bounds, IsInRange, IsInside, InsideOrder}
use Rattle.constraint_model.specs.declared.model.FznModel.{FznModel}
use Rattle.constraint_model.specs.Searches.{IsSearchOf}
use Rattle.decompose.specs.declared.program.Program.{Program}
use Rattle.decompose.specs.Program.{fixed_box, extended, IsProgramOf}
use Rattle.guarded_tell.specs.declared.kernel.Kernel.{Kernel}
use Rattle.branching.specs.Tree.{SolutionsIn}
use Rattle.solution_lists.specs.Solutions.{SolvesInside, SolutionsAreListed}
use Rattle.search.specs.Ends.{head_of}

-- where no solution is in the box, none comes first
pub none_first : SolutionsAreListed → (model : FznModel) (program : Program) (b : Bounds) → IsProgramOf model program → IsSearchOf model → IsInRange b →
    IsInside b program.start → ((a : List ℤ) → SolvesInside model b a → ⊥) → (solutions : List (List ℤ)) → SolutionsIn model program.kernels b solutions → None ≡ head_of solutions
none_first are model program b f rule range inside none [] s = refl
none_first are model program b f rule range inside none (a ∷ others) s =
    absurd (none a (((are model program b (a ∷ others) f rule range inside s).each a).0 (0, omega arith, refl)))

-- the first of the box that was asked for is that of the box that is meant
pub same_first : (model : FznModel) (kernels : List Kernel) (asked b : Bounds) (a : List ℤ) → asked ≡ b →
    ((solutions : List (List ℤ)) → SolutionsIn model kernels asked solutions → head_of solutions ≡ Some a) →
    (solutions : List (List ℤ)) → SolutionsIn model kernels b solutions → Some a ≡ head_of solutions
same_first model kernels asked b a same first solutions s = sym (first solutions (subst (λ (c : Bounds). SolutionsIn model kernels c solutions) (sym same) s))

-- where no solution is in a box, none is in a box inside
pub none_inside : InsideOrder → (model : FznModel) (b outer : Bounds) → IsInside b outer → ((a : List ℤ) → SolvesInside model outer a → ⊥) → (a : List ℤ) → SolvesInside model b a → ⊥
none_inside order model b outer inside none a s = none a (record { solves = s.solves; inside = order.through (fixed_box (extended model a)) b outer s.inside inside })
