use Rattle.decompose.specs.Program.{start_of}
use Rattle.answer.proofs.ListedLaws.{is_program}
use Rattle.answer.proofs.RacedLaws.{first_by_program, raced_first_given}
use Rattle.answer.proofs.beside.first_beside.Goals as goal

pub returns : goal.returns
returns g c =
    let run = c.args.run.now in
    let is = c.requires.set_up.is_run in
    let model = run.model.now in
    raced_first_given c.law_inside_order.ensures c.law_every_list.ensures c.law_solutions_listed.ensures c.law_in_declaration_order.ensures model is.model (is_program model run.program.now is.program)
    c.args.options c.requires.unlimited (record { solutions = c.in_ok-solutions.solutions; mark = c.mark_of-mark.result }) c.requires.satisfy c.requires.first c.in_ok-first.first
    c.in_ok-solutions.ensures c.mark_of-mark.ensures
    (first_by_program model run.program.now is.program run.program.now.start (start_of model) c.in_ok-first.first is.program.start c.in_ok-first.ensures)
