-- What the search of a box found.
use Rattle.std.proofs.Common.{◌≡◌, ℤ, List, Option, sym, subst, ◌∙◌}
use Rattle.std.specs.Prelude.{IfSome}
use Rattle.interval.specs.Boxes.{Bounds, IsInside, InsideOrder}
use Rattle.decompose.specs.Program.{fixed_box, extended}
use Rattle.constraint_model.specs.declared.model.FznModel.{FznModel}
use Rattle.solution_lists.specs.Solutions.{SolvesInside}
use Rattle.search.specs.declared.least_turns.LeastTurns.{LeastTurns}
use Rattle.search.specs.Turns.{IsLeastTurns, FindsBetter, least_asked}
use Rattle.portfolio.specs.declared.sharing.Sharing.{Sharing}
use Rattle.portfolio.specs.Sharings.{IsBoxSearch}

-- what solves in a box solves in one around it
solves_around : InsideOrder → (model : FznModel) (b outer : Bounds) (a : List ℤ) → IsInside b outer → SolvesInside model b a → SolvesInside model outer a
solves_around order model b outer a inside s = record { solves = s.solves; inside = order.through (fixed_box (extended model a)) b outer s.inside inside }

-- a better one is a solution in the start
pub search_found : {L C : Type 0} → InsideOrder → (sharing : Sharing L C) (sub : Bounds) (before after : LeastTurns) (old : Option ℤ) → IsInside sub sharing.run.now.program.now.start →
    IsBoxSearch sharing sub before → IsLeastTurns sharing.run.now after → least_asked after ≡ least_asked before → FindsBetter sharing.run.now.model.now old before after → IsBoxSearch sharing sub after
search_found order sharing sub before after old inside is turns asked better =
    let model = sharing.run.now.model.now in
    let start = sharing.run.now.program.now.start in
    record {
      is_search = turns;
      same_box = asked ∙ is.same_box;
      solves = subst (λ (o : Option (List ℤ)). IfSome o (SolvesInside model start)) (sym better.is_last)
          (solves_around order model sub start better.solution inside (subst (λ (b : Bounds). SolvesInside model b better.solution) is.same_box better.solves));
    }
