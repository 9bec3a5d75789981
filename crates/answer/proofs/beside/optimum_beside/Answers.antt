use Rattle.std.proofs.Common.{ℤ, List, length, All, Some, refl, sym, ap, subst, ◌∙◌, arith}
use Rattle.interval.specs.Limits.{IsBound}
use Rattle.interval.specs.Boxes.{Bounds, IsInside}
use Rattle.constraint_model.specs.Relations.{cost_of}
use Rattle.decompose.specs.Program.{start_of}
use Rattle.search.specs.Costs.{IsObjectiveIn}
use Rattle.fzn_print.specs.declared.marks.Mark.{Mark}
use Rattle.answer.specs.Cuts.{cut_to}
use Rattle.answer.proofs.ListedLaws.{is_program, long_start}
use Rattle.answer.proofs.ObjectiveLaws.{within_length, cut_inside}
use Rattle.answer.proofs.NumberLaws.{objective_of, bounds_within}
use Rattle.answer.proofs.RacedLaws.{first_by_program, incumbent_by_program, least_by_program, solves_in_cut, raced_optimum_given}
use Rattle.answer.proofs.beside.optimum_beside.Goals as goal

pub cut_to_value-requires-clause-objective : goal.cut_to_value-requires-clause-objective
cut_to_value-requires-clause-objective g c =
    let model = c.args.run.now.model.now in
    subst (λ (a : List ℤ). IsObjectiveIn (length a) model.goal) (sym c.as_slice.ensures)
    (objective_of model c.args.best.now.values c.requires.objective c.requires.set_up.is_run.model.objective c.requires.best.solves.solves)

pub cut_to_value-requires-clause-long : goal.cut_to_value-requires-clause-long
cut_to_value-requires-clause-long g c =
    let model = c.args.run.now.model.now in
    let a = within_length c.args.best.now.values model.vars c.requires.best.solves.solves.within in
    let l = long_start model in
    let e = ap length c.as_slice.ensures in
    let s = ap length (c.in_ok-cut.ensures ∙ c.requires.set_up.is_run.program.start) in
    omega (arith, a, l, e, s)

pub cut_to_value-requires-clause-bounds : goal.cut_to_value-requires-clause-bounds
cut_to_value-requires-clause-bounds g c =
    let model = c.args.run.now.model.now in
    subst (λ (a : List ℤ). All IsBound a) (sym c.as_slice.ensures) (bounds_within c.args.best.now.values model.vars c.requires.set_up.is_run.model.vars c.requires.best.solves.solves.within)

pub first_in_box-requires-clause-inside : goal.first_in_box-requires-clause-inside
first_in_box-requires-clause-inside g c = λ lifetimes outlive.
    let run = c.args.run.now in
    let cost = c.args.best.now.cost in
    let cut = c.cut_to_value.ensures cost (ap (cost_of run.model.now.goal) c.as_slice.ensures ∙ c.requires.best.costs) ∙ ap (cut_to run.model.now.goal cost) c.in_ok-cut.ensures in
    subst (λ (b : Bounds). IsInside b run.program.now.start) (sym cut) (cut_inside c.law_inside_order.ensures run.model.now.goal cost run.program.now.start)

pub first_in_box-requires-clause-known : goal.first_in_box-requires-clause-known
first_in_box-requires-clause-known g c = λ lifetimes outlive.
    let run = c.args.run.now in
    let is = c.requires.set_up.is_run in
    let model = run.model.now in
    let cost = c.args.best.now.cost in
    let cut = c.cut_to_value.ensures cost (ap (cost_of model.goal) c.as_slice.ensures ∙ c.requires.best.costs) ∙ ap (cut_to model.goal cost) c.in_ok-cut.ensures in
    solves_in_cut c.law_inside_order.ensures model is.model run.program.now is.program c.args.best.now c.cut_to_value.new.b c.requires.best cut

pub returns : goal.returns
returns g c =
    let run = c.args.run.now in
    let is = c.requires.set_up.is_run in
    let model = run.model.now in
    let cost = c.args.best.now.cost in
    let cut = c.cut_to_value.ensures cost (ap (cost_of model.goal) c.as_slice.ensures ∙ c.requires.best.costs) ∙ ap (cut_to model.goal cost) (c.in_ok-cut.ensures ∙ is.program.start) in
    raced_optimum_given c.law_inside_order.ensures c.law_every_list.ensures c.law_solutions_listed.ensures c.law_in_declaration_order.ensures model is.model (is_program model run.program.now is.program)
    c.args.options c.requires.unlimited (record { solutions = c.in_ok-solutions.solutions; mark = Mark.Complete }) c.requires.objective refl c.args.best.now
    (incumbent_by_program model run.program.now is.program c.args.best.now c.requires.best) (least_by_program model run.program.now is.program (Some cost) c.requires.least)
    c.in_ok-first.first (first_by_program model run.program.now is.program c.cut_to_value.new.b (cut_to model.goal cost (start_of model)) c.in_ok-first.first cut c.in_ok-first.ensures) c.in_ok-solutions.ensures
