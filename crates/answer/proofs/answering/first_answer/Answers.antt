use Rattle.std.proofs.Common.{subst, ◌∙◌}
use Rattle.interval.specs.Boxes.{Bounds}
use Rattle.answer.specs.Results.{AreFirstResults}
use Rattle.answer.proofs.ListedLaws.{is_program}
use Rattle.answer.proofs.PlanLaws.{is_plan, parts_in}
use Rattle.answer.proofs.GivenLaws.{first_given}
use Rattle.answer.proofs.answering.first_answer.Goals as goal

pub first_ends-requires-clause-plan : goal.first_ends-requires-clause-plan
first_ends-requires-clause-plan g c = λ lifetimes outlive.
    is_plan _ c.requires.set_up (parts_in c.args.options c.as_slice.result.now c.in_ok-parts.parts.items c.as_slice.ensures.value c.in_ok-parts.ensures) (c.law_inside_order.ensures.itself c.args.run.now.program.now.start)

pub returns : goal.returns
returns g c =
    let run = c.args.run.now in
    let is = c.requires.set_up in
    let model = run.model.now in
    first_given c.law_inside_order.ensures c.law_one_list.ensures c.law_every_list.ensures c.law_paths.ensures c.law_cuts.ensures c.law_whole_of_parts.ensures.whole c.law_solutions_listed.ensures
    c.law_in_declaration_order.ensures c.law_records_solutions.ensures model is.is_run.model.search is.is_run.model.objective (is_program model run.program.now is.is_run.program) c.args.options c.as_slice.result.now
    (parts_in c.args.options c.as_slice.result.now c.in_ok-parts.parts.items c.as_slice.ensures.value c.in_ok-parts.ensures)
    (record { solutions = c.in_ok-solutions.solutions; mark = c.mark_of-mark.result }) c.in_ok-ends.ends c.as_slice-2.result.now
    (subst (λ (b : Bounds). AreFirstResults model c.args.options c.as_slice.result.now b c.in_ok-ends.ends) is.is_run.program.start c.in_ok-ends.ensures.ends) c.requires.satisfy c.requires.first
    (c.in_ok-solutions.ensures ∙ c.first_of.ensures) c.as_slice-2.ensures c.is_open-open_part.result c.is_open-open_part.ensures.open_part c.is_open-open_part.ensures.none_open c.mark_of-mark.ensures
