use Rattle.std.proofs.Common.{ℤ, List, flat_map, get_or, Option, [], false, sym, ap, subst, ◌∙◌}
use Rattle.tree_cover.specs.declared.part.Part.{Part}
use Rattle.answer.specs.Results.{listed, least_collected}
use Rattle.answer.specs.Unfinished.{IsBestOf}
use Rattle.fzn_print.specs.declared.marks.Mark.{Mark}
use Rattle.answer.specs.Given.{mark_for, IsBestKnown}
use Rattle.answer.proofs.ListedLaws.{is_program}
use Rattle.answer.proofs.NumberLaws.{objective_of}
use Rattle.answer.proofs.PlanLaws.{parts_in}
use Rattle.answer.proofs.GivenLaws.{ends_spent, ends_nothing, best_known, whole_solve}
use Rattle.answer.proofs.answering.least_answer.Goals as goal

pub best_of-best-requires-clause-lengths : goal.best_of-best-requires-clause-lengths
best_of-best-requires-clause-lengths g c = λ k d l.
    let run = c.args.run.now in
    let is = c.requires.set_up in
    let model = run.model.now in
    objective_of model (get_or (flat_map least_collected c.in_ok-ends.ends) k d) c.requires.objective is.is_run.model.objective
    (whole_solve c.law_inside_order.ensures c.law_one_list.ensures c.law_every_list.ensures c.law_paths.ensures c.law_cuts.ensures c.law_whole_of_parts.ensures.whole c.law_solutions_listed.ensures
    c.law_in_declaration_order.ensures c.law_records_solutions.ensures model is.is_run.model.search is.is_run.model.objective (is_program model run.program.now is.is_run.program) c.args.options c.as_slice-slice.result.now
    (parts_in c.args.options c.as_slice-slice.result.now c.in_ok-parts.parts.items c.as_slice-slice.ensures.value c.in_ok-parts.ensures)
    (record { solutions = []; mark = Mark.Plain }) c.in_ok-ends.ends c.in_ok-ends.ensures.ends k d l)

pub returns-then-is_spent : goal.returns-then-is_spent
returns-then-is_spent g c =
    let run = c.args.run.now in
    let is = c.requires.set_up in
    let model = run.model.now in
    ends_spent c.law_inside_order.ensures c.law_one_list.ensures c.law_every_list.ensures c.law_paths.ensures c.law_cuts.ensures c.law_whole_of_parts.ensures.whole c.law_solutions_listed.ensures
    c.law_in_declaration_order.ensures c.law_records_solutions.ensures model is.is_run.model.search is.is_run.model.objective (is_program model run.program.now is.is_run.program) c.args.options c.as_slice-slice.result.now
    (parts_in c.args.options c.as_slice-slice.result.now c.in_ok-parts.parts.items c.as_slice-slice.ensures.value c.in_ok-parts.ensures)
    (record { solutions = c.in_ok-solutions.solutions; mark = c.mark_of-mark.result }) c.requires.objective c.in_ok-ends.ends c.as_slice.result.now c.in_ok-ends.ensures.ends c.best_of-best.result
    c.best_of-best.ensures c.in_ok-solutions.ensures c.as_slice.ensures c.if-is_spent.ensures.spent c.mark_of-mark.ensures

pub settled_answer-requires-clause-best : goal.settled_answer-requires-clause-best
settled_answer-requires-clause-best g c =
    let run = c.args.run.now in
    let is = c.requires.set_up in
    let model = run.model.now in
    let parts = parts_in c.args.options c.as_slice-slice.result.now c.in_ok-parts.parts.items c.as_slice-slice.ensures.value c.in_ok-parts.ensures in
    subst (λ (ps : List Part). IsBestKnown model c.args.options ps c.in-Some.values) c.if-is_settled.ensures.settled.one_part
    (best_known c.law_inside_order.ensures c.law_one_list.ensures c.law_every_list.ensures c.law_paths.ensures c.law_cuts.ensures c.law_whole_of_parts.ensures.whole c.law_solutions_listed.ensures
    c.law_in_declaration_order.ensures c.law_records_solutions.ensures model is.is_run.model.search is.is_run.model.objective (is_program model run.program.now is.is_run.program) c.args.options c.as_slice-slice.result.now
    parts (record { solutions = []; mark = Mark.Plain }) c.requires.objective c.in_ok-ends.ends c.as_slice.result.now c.in_ok-ends.ensures.ends c.as_slice.ensures c.if-is_spent.ensures.unspent c.in-Some.values
    (subst (λ (o : Option (List ℤ)). IsBestOf model.goal (flat_map least_collected c.in_ok-ends.ends) o) c.in-Some.is c.best_of-best.ensures))

pub optimum-requires-clause-best : goal.optimum-requires-clause-best
optimum-requires-clause-best g c = λ lifetimes outlive.
    let run = c.args.run.now in
    let is = c.requires.set_up in
    let model = run.model.now in
    let parts = parts_in c.args.options c.as_slice-slice.result.now c.in_ok-parts.parts.items c.as_slice-slice.ensures.value c.in_ok-parts.ensures in
    let known = best_known c.law_inside_order.ensures c.law_one_list.ensures c.law_every_list.ensures c.law_paths.ensures c.law_cuts.ensures c.law_whole_of_parts.ensures.whole c.law_solutions_listed.ensures
    c.law_in_declaration_order.ensures c.law_records_solutions.ensures model is.is_run.model.search is.is_run.model.objective (is_program model run.program.now is.is_run.program) c.args.options c.as_slice-slice.result.now
    parts (record { solutions = []; mark = Mark.Plain }) c.requires.objective c.in_ok-ends.ends c.as_slice.result.now c.in_ok-ends.ensures.ends c.as_slice.ensures c.if-is_spent.ensures.unspent c.in-Some.values
    (subst (λ (o : Option (List ℤ)). IsBestOf model.goal (flat_map least_collected c.in_ok-ends.ends) o) c.in-Some.is c.best_of-best.ensures) in
    record { parts = c.as_slice-slice.result.now; are = parts; known = known }

pub returns-in-None : goal.returns-in-None
returns-in-None g c =
    let run = c.args.run.now in
    let is = c.requires.set_up in
    let model = run.model.now in
    ends_nothing c.law_inside_order.ensures c.law_one_list.ensures c.law_every_list.ensures c.law_paths.ensures c.law_cuts.ensures c.law_whole_of_parts.ensures.whole c.law_solutions_listed.ensures
    c.law_in_declaration_order.ensures c.law_records_solutions.ensures model is.is_run.model.search is.is_run.model.objective (is_program model run.program.now is.is_run.program) c.args.options c.as_slice-slice.result.now
    (parts_in c.args.options c.as_slice-slice.result.now c.in_ok-parts.parts.items c.as_slice-slice.ensures.value c.in_ok-parts.ensures)
    (record { solutions = c.new.result; mark = Mark.Unsatisfiable }) c.requires.objective c.in_ok-ends.ends c.as_slice.result.now c.in_ok-ends.ensures.ends c.best_of-best.result c.best_of-best.ensures
    (c.new.ensures ∙ sym (ap listed c.in-None.is)) c.as_slice.ensures c.if-is_spent.ensures.unspent c.in-None.is
    (sym (ap (λ (xs : List (List ℤ)). mark_for false xs Mark.Complete) c.new.ensures))
