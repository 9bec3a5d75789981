use Rattle.std.proofs.Common.{ℤ, List, subst}
use Rattle.solution_lists.specs.Solutions.{SolvesInside}
use Rattle.free_search.specs.declared.ends.FreeEnd.{FreeEnd}
use Rattle.free_search.specs.Ends.{IfFound, IfRefuted}
use Rattle.best_search.proofs.PlanLaws.{none_solves}
use Rattle.best_search.proofs.any.by_turns.Goals as goal

pub returns-in-Ok-Found : goal.returns-in-Ok-Found
returns-in-Ok-Found g c =
    let run = c.args.run.now in
    let there : SolvesInside run.model.now run.program.now.start c.in-Ok-Found.plan =
    subst (λ (e : FreeEnd). IfFound e (SolvesInside run.model.now run.program.now.start)) c.in-Ok-Found.field-0-is c.in-Ok-Found.ensures.found in
    there.solves

pub returns-in-Ok-Refuted : goal.returns-in-Ok-Refuted
returns-in-Ok-Refuted g c =
    let run = c.args.run.now in
    none_solves run.model.now run.program.now c.requires.run.program
    (subst (λ (e : FreeEnd). IfRefuted e ((a : List ℤ) → SolvesInside run.model.now run.program.now.start a → ⊥)) c.in-Ok-Refuted.field-0-is c.in-Ok-Refuted.ensures.refuted)
