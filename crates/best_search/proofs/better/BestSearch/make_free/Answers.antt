use Rattle.std.proofs.Common.{ℤ, List, Option, refl, subst}
use Rattle.std.specs.Prelude.{IfNone}
use Rattle.solution_lists.specs.Solutions.{SolvesInside}
use Rattle.free_search.specs.declared.free.FreeSearch.{FreeSearch}
use Rattle.best_search.proofs.PlanLaws.{none_at_all}
use Rattle.best_search.proofs.better.BestSearch.make_free.Goals as goal

pub returns-in-Ok-None-clause-step : goal.returns-in-Ok-None-clause-step
returns-in-Ok-None-clause-step g c =
    let run = c.args.run.now in (
      refl,
      none_at_all run.model.now run.program.now c.requires.run.program c.args.self.now.lowest
          (subst (λ (o : Option FreeSearch). IfNone o ((a : List ℤ) → SolvesInside run.model.now run.program.now.start a → ⊥)) c.in-Ok-None.field-0-is c.in-Ok-None.ensures.none),
    )
