use Rattle.std.proofs.Common.{ℤ, List, length, All, flat_map, sym, ap, subst, ◌∙◌, arith}
use Rattle.interval.specs.Limits.{IsBound}
use Rattle.interval.specs.Boxes.{Bounds, IsInside}
use Rattle.constraint_model.specs.Relations.{cost_of}
use Rattle.search.specs.Costs.{IsObjectiveIn}
use Rattle.answer.specs.Cuts.{cut_to}
use Rattle.answer.specs.Results.{AreFirstResults, first_collected}
use Rattle.answer.proofs.ListedLaws.{is_program, long_start}
use Rattle.answer.proofs.ObjectiveLaws.{has_cost, within_length, cut_inside}
use Rattle.answer.proofs.NumberLaws.{objective_of, bounds_within}
use Rattle.answer.proofs.PlanLaws.{is_plan, parts_in}
use Rattle.answer.proofs.GivenLaws.{second_given}
use Rattle.answer.proofs.answering.optimum.Goals as goal

pub cut_to_value-requires-clause-objective : goal.cut_to_value-requires-clause-objective
cut_to_value-requires-clause-objective g c =
    let model = c.args.run.now.model.now in
    subst (λ (a : List ℤ). IsObjectiveIn (length a) model.goal) (sym c.as_slice.ensures) (objective_of model c.args.best c.requires.objective c.requires.set_up.is_run.model.objective c.requires.best.known.solves)

pub cut_to_value-requires-clause-long : goal.cut_to_value-requires-clause-long
cut_to_value-requires-clause-long g c =
    let model = c.args.run.now.model.now in
    let a = within_length c.args.best model.vars c.requires.best.known.solves.within in
    let l = long_start model in
    let e = ap length c.as_slice.ensures in
    let s = ap length (c.in_ok-cut.ensures ∙ c.requires.set_up.is_run.program.start) in
    omega (arith, a, l, e, s)

pub cut_to_value-requires-clause-bounds : goal.cut_to_value-requires-clause-bounds
cut_to_value-requires-clause-bounds g c =
    let model = c.args.run.now.model.now in
    subst (λ (a : List ℤ). All IsBound a) (sym c.as_slice.ensures) (bounds_within c.args.best model.vars c.requires.set_up.is_run.model.vars c.requires.best.known.solves.within)

pub parts_of-requires-clause-length : goal.parts_of-requires-clause-length
parts_of-requires-clause-length g c =
    let run = c.args.run.now in
    let cost = has_cost run.model.now.goal c.args.best c.requires.objective in
    let cut = c.cut_to_value.ensures cost.0 (ap (cost_of run.model.now.goal) c.as_slice.ensures ∙ cost.1) ∙ ap (cut_to run.model.now.goal cost.0) c.in_ok-cut.ensures in
    ap length cut ∙ (cut_inside c.law_inside_order.ensures run.model.now.goal cost.0 run.program.now.start).same_length

pub first_ends-requires-clause-plan : goal.first_ends-requires-clause-plan
first_ends-requires-clause-plan g c = λ lifetimes outlive.
    let run = c.args.run.now in
    let is = c.requires.set_up in
    let cost = has_cost run.model.now.goal c.args.best c.requires.objective in
    let cut = c.cut_to_value.ensures cost.0 (ap (cost_of run.model.now.goal) c.as_slice.ensures ∙ cost.1) ∙ ap (cut_to run.model.now.goal cost.0) c.in_ok-cut.ensures in
    is_plan _ is (parts_in c.args.options c.as_slice-2.result.now c.in_ok-parts.parts.items c.as_slice-2.ensures.value c.in_ok-parts.ensures)
    (subst (λ (b : Bounds). IsInside b run.program.now.start) (sym cut) (cut_inside c.law_inside_order.ensures run.model.now.goal cost.0 run.program.now.start))

pub returns : goal.returns
returns g c =
    let run = c.args.run.now in
    let is = c.requires.set_up in
    let model = run.model.now in
    let cost = has_cost model.goal c.args.best c.requires.objective in
    let cut = c.cut_to_value.ensures cost.0 (ap (cost_of model.goal) c.as_slice.ensures ∙ cost.1) ∙ ap (cut_to model.goal cost.0) (c.in_ok-cut.ensures ∙ is.is_run.program.start) in
    second_given c.law_inside_order.ensures c.law_one_list.ensures c.law_every_list.ensures c.law_paths.ensures c.law_cuts.ensures c.law_whole_of_parts.ensures.whole c.law_solutions_listed.ensures
    c.law_in_declaration_order.ensures c.law_records_solutions.ensures model is.is_run.model.search is.is_run.model.objective (is_program model run.program.now is.is_run.program) c.args.options c.as_slice-2.result.now
    (parts_in c.args.options c.as_slice-2.result.now c.in_ok-parts.parts.items c.as_slice-2.ensures.value c.in_ok-parts.ensures)
    (record { solutions = c.in_ok-solutions.solutions; mark = c.second_mark-mark.result }) c.requires.objective cost.0 c.args.best c.requires.best cost.1 c.in_ok-ends.ends c.as_slice-3.result.now
    (subst (λ (b : Bounds). AreFirstResults model c.args.options c.as_slice-2.result.now b c.in_ok-ends.ends) cut c.in_ok-ends.ensures.ends)
    (c.in_ok-solutions.ensures ∙ c.or_best.ensures (flat_map first_collected c.in_ok-ends.ends) c.first_of.ensures) c.as_slice-3.ensures
    c.is_open-open_part.result c.is_open-open_part.ensures.open_part c.is_open-open_part.ensures.none_open c.second_mark-mark.ensures.open_part c.second_mark-mark.ensures.none_open
