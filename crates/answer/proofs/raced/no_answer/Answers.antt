use Rattle.std.proofs.Common.{ℤ, List, refl, subst}
use Rattle.interval.specs.Boxes.{Bounds}
use Rattle.solution_lists.specs.Solutions.{SolvesInside}
use Rattle.fzn_print.specs.declared.marks.Mark.{Mark}
use Rattle.answer.proofs.ListedLaws.{is_program}
use Rattle.answer.proofs.RacedLaws.{none_inside}
use Rattle.answer.proofs.raced.no_answer.Goals as goal

pub returns : goal.returns
returns g c =
    let run = c.args.run.now in
    let is = c.requires.set_up.is_run in
    let model = run.model.now in
    none_inside c.law_inside_order.ensures c.law_every_list.ensures c.law_solutions_listed.ensures c.law_in_declaration_order.ensures model is.model (is_program model run.program.now is.program)
    c.args.options c.requires.unlimited (record { solutions = c.new.result; mark = Mark.Unsatisfiable })
    (subst (λ (b : Bounds). (a : List ℤ) → SolvesInside model b a → ⊥) is.program.start c.requires.none) c.new.ensures refl
