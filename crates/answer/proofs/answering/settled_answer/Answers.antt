use Rattle.answer.proofs.ListedLaws.{is_program}
use Rattle.answer.proofs.SettledLaws.{settled_given}
use Rattle.fzn_print.specs.declared.marks.Mark.{Mark}
use Rattle.std.proofs.Common.{refl}
use Rattle.answer.proofs.answering.settled_answer.Goals as goal

pub returns : goal.returns
returns g c =
    let run = c.args.run.now in
    let is = c.requires.set_up in
    let model = run.model.now in
    settled_given c.law_inside_order.ensures c.law_every_list.ensures c.law_solutions_listed.ensures c.law_in_declaration_order.ensures c.law_best_is_first.ensures
    model is.is_run.model (is_program model run.program.now is.is_run.program) c.args.options (record { solutions = c.in_ok-solutions.solutions; mark = Mark.Complete })
    c.requires.objective c.args.best c.requires.best c.requires.settled c.in_ok-solutions.ensures refl
