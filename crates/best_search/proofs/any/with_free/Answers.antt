use Rattle.std.proofs.Common.{ℤ, List, Option, subst}
use Rattle.std.specs.Prelude.{IfNone}
use Rattle.solution_lists.specs.Solutions.{SolvesInside}
use Rattle.free_search.specs.declared.free.FreeSearch.{FreeSearch}
use Rattle.best_search.proofs.PlanLaws.{none_solves}
use Rattle.best_search.proofs.any.with_free.Goals as goal

pub returns-in-Ok-None : goal.returns-in-Ok-None
returns-in-Ok-None g c =
    let run = c.args.run.now in
    none_solves run.model.now run.program.now c.requires.run.program
    (subst (λ (o : Option FreeSearch). IfNone o ((a : List ℤ) → SolvesInside run.model.now run.program.now.start a → ⊥)) c.in-Ok-None.field-0-is c.in-Ok-None.ensures.none)
