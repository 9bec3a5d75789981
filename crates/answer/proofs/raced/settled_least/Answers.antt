use Rattle.std.proofs.Common.{Some, refl}
use Rattle.fzn_print.specs.declared.marks.Mark.{Mark}
use Rattle.race.specs.Leasts.{IsIncumbent}
use Rattle.decompose.specs.Program.{start_of}
use Rattle.answer.proofs.ListedLaws.{is_program}
use Rattle.answer.proofs.RacedLaws.{incumbent_by_program, least_by_program, raced_settled_given}
use Rattle.answer.proofs.raced.settled_least.Goals as goal

pub returns : goal.returns
returns g c =
    let run = c.args.run.now in
    let is = c.requires.set_up.is_run in
    let model = run.model.now in
    let best : IsIncumbent model (start_of model) c.args.best = incumbent_by_program model run.program.now is.program c.args.best c.requires.best in
    raced_settled_given c.law_inside_order.ensures c.law_every_list.ensures c.law_solutions_listed.ensures c.law_in_declaration_order.ensures model is.model (is_program model run.program.now is.program)
    c.args.options c.requires.unlimited (record { solutions = c.in_ok-solutions.solutions; mark = Mark.Complete }) c.requires.objective refl c.args.best best
    (least_by_program model run.program.now is.program (Some c.args.best.cost) c.requires.least) c.law_first_of_lists.ensures (best.first c.requires.first) c.in_ok-solutions.ensures
