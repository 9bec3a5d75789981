use Rattle.std.proofs.Common.{ℤ, List, Option, subst}
use Rattle.std.specs.Prelude.{IfNone}
use Rattle.solution_lists.specs.Solutions.{SolvesInside}
use Rattle.free_search.specs.declared.free.FreeSearch.{FreeSearch}
use Rattle.race.proofs.FirstLaws.{none_inside}
use Rattle.race.proofs.road.begin.Goals as goal

pub nothing-requires-clause-none : goal.nothing-requires-clause-none
nothing-requires-clause-none g c =
    let task = c.args.task.now in
    let model = task.run.now.model.now in
    let start = task.run.now.program.now.start in
    none_inside c.law_inside_order.ensures model task.sub.now start c.requires.task.inside
    (subst (λ (o : Option FreeSearch). IfNone o ((a : List ℤ) → SolvesInside model start a → ⊥)) c.in-Ok-None.field-0-is c.in-Ok-None.ensures.none)
