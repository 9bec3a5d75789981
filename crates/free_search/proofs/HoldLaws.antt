-- Which solutions a box holds.
use Rattle.std.proofs.Common.{ℤ, List}
use Rattle.interval.specs.Boxes.{Bounds, IsInside, InsideOrder}
use Rattle.fixpoint_laws.specs.Fixpoints.{IsGreatest, Fails}
use Rattle.constraint_model.specs.declared.model.FznModel.{FznModel}
use Rattle.decompose.specs.declared.program.Program.{Program}
use Rattle.decompose.specs.Program.{fixed_box, extended, IsProgramOf}
use Rattle.solution_lists.specs.Solutions.{SolvesInside, PointSolves}
use Rattle.nogoods.specs.Nogoods.{HasNone}
use Rattle.free_laws.specs.Steps.{NoneSolves}
use Rattle.free_search.specs.declared.ends.FreeEnd.{FreeEnd}
use Rattle.free_search.specs.declared.ends.FreeEnd.TheVariants.{Found, Refuted, GaveUp}
use Rattle.free_search.specs.Ends.{IfFound, IfRefuted}
use Rattle.free_search.specs.Free.{IsMeet, HoldsAll}

-- the greatest closed box in a box holds its solutions
pub greatest_holds : InsideOrder → PointSolves → (model : FznModel) (program : Program) (b g : Bounds) → IsProgramOf model program →
    IsInside b program.start → IsGreatest g b program.kernels → HoldsAll model b g
greatest_holds order points model program b g f inside greatest = record {
  inside = greatest.inside;
  holds = λ a solves.
      let s = (points model program b a f inside).1 solves in
      ((points model program g a f (order.through g b program.start greatest.inside inside)).0 (record {
        point = s.point;
        is_point = s.is_point;
        closed = s.closed;
        inside = greatest.greatest s.point s.closed s.inside;
        is_values = s.is_values;
      })).inside;
}

-- a box without a closed box has no solution
pub fails_none : PointSolves → (model : FznModel) (program : Program) (b : Bounds) → IsProgramOf model program → IsInside b program.start →
    Fails b program.kernels → (a : List ℤ) → SolvesInside model b a → ⊥
fails_none points model program b f inside fails a solves =
    let s = (points model program b a f inside).1 solves in fails s.point s.closed s.inside

-- what is refuted of the part of a box in the space is refuted of the box, since the space holds all solutions
pub none_in_part : InsideOrder → NoneSolves → (model : FznModel) (program : Program) (space sub met : Bounds) → IsProgramOf model program →
    HoldsAll model program.start space → IsInside sub program.start → IsMeet space sub met → HasNone program.kernels space met →
    (a : List ℤ) → SolvesInside model sub a → ⊥
none_in_part order solves_none model program space sub met f all inside is none a s =
    let point = fixed_box (extended model a) in
    let in_space = all.holds a (record { solves = s.solves; inside = order.through point sub program.start s.inside inside }) in
    solves_none model program space met f all.inside is.in_first none a (record { solves = s.solves; inside = is.holds point in_space s.inside })

pub found_wider : (end : FreeEnd) (P Q : List ℤ → Type 0) → ((a : List ℤ) → P a → Q a) → IfFound end P → IfFound end Q
found_wider (Found a) P Q h p = h a p
found_wider Refuted P Q h p = tt
found_wider GaveUp P Q h p = tt

pub refuted_so : (end : FreeEnd) (P Q : Type 0) → (P → Q) → IfRefuted end P → IfRefuted end Q
refuted_so (Found a) P Q h p = tt
refuted_so Refuted P Q h p = h p
refuted_so GaveUp P Q h p = tt
