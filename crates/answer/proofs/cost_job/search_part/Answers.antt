use Rattle.std.proofs.Common.{Option, subst}
use Rattle.interval.specs.Boxes.{Bounds}
use Rattle.subproblem_walk.specs.declared.cutter.Subproblem.{Subproblem}
use Rattle.subproblem_walk.specs.Walks.{box_of}
use Rattle.portfolio.specs.Told.{TellsCosts}
use Rattle.answer.specs.Places.{PartLeadsTo}
use Rattle.answer.specs.Plans.{model_of, kernels_in}
use Rattle.answer.proofs.TellingCosts.{costs_of_nothing, costs_of_part}
use Rattle.answer.proofs.cost_job.search_part.Goals as goal

pub returns-in-None-clause-told : goal.returns-in-None-clause-told
returns-in-None-clause-told g c =
    let plan = c.args.job.now.plan.now in
    costs_of_nothing plan c.requires.fits.plan c.law_paths.ensures c.args.place
    (subst (λ (f : Option Subproblem). PartLeadsTo (model_of plan) (kernels_in plan) plan.parts.now plan.start.now c.args.place (box_of f)) c.in-None.is c.in_ok-subproblem.ensures.path) _ tt

pub returns-in_ok-told-in-Some-clause-told : goal.returns-in_ok-told-in-Some-clause-told
returns-in_ok-told-in-Some-clause-told g c =
    let plan = c.args.job.now.plan.now in
    costs_of_part plan c.requires.fits.plan c.law_paths.ensures c.args.place c.in-Some.found.boxes.current c.in_ok-told-in-Some.told
    (subst (λ (f : Option Subproblem). PartLeadsTo (model_of plan) (kernels_in plan) plan.parts.now plan.start.now c.args.place (box_of f)) c.in-Some.is c.in_ok-subproblem.ensures.path)
    (subst (λ (b : Bounds). TellsCosts (model_of plan) plan.run.now.program.now.start b c.in_ok-told-in-Some.told) c.current.ensures c.in_ok-told-in-Some.ensures.told) c.requires.fits.whole
