use Rattle.std.proofs.Common.{◌+◌, Option, subst}
use Rattle.std.specs.Prelude.{IfSome}
use Rattle.interval.specs.Boxes.{IsInside}
use Rattle.best_bound.specs.Seats.{numbers_seen}
use Rattle.subproblem_walk.specs.declared.cutter.Subproblem.{Subproblem}
use Rattle.subproblem_walk.specs.Walks.{StandsUnder, box_of, IsMadeFrom}
use Rattle.answer.specs.Places.{PartLeadsTo}
use Rattle.answer.specs.Plans.{model_of, kernels_in}
use Rattle.answer.proofs.JobLaws.{kept_inside, kept_around, taken_back}
use Rattle.answer.proofs.TellingHeads.{part_of_nothing, part_of_end}
use Rattle.answer.proofs.head_job.search_there.Goals as goal

pub returns-in-None-clause-told : goal.returns-in-None-clause-told
returns-in-None-clause-told g c =
    let plan = c.args.job.now.plan.now in
    part_of_nothing plan c.requires.fits.plan c.law_paths.ensures c.args.place
    (subst (λ (f : Option Subproblem). PartLeadsTo (model_of plan) (kernels_in plan) plan.parts.now plan.start.now c.args.place (box_of f)) c.in-None.is c.in_ok-subproblem.ensures.path)

pub run_first_from-requires-clause-inside : goal.run_first_from-requires-clause-inside
run_first_from-requires-clause-inside g c = λ ks o. subst (λ (f : Option Subproblem). IfSome (box_of f) (λ b. IsInside b c.args.job.now.plan.now.run.now.program.now.start)) c.in-Some.is c.in_ok-subproblem.ensures.inside

pub run_first_from-requires-clause-made : goal.run_first_from-requires-clause-made
run_first_from-requires-clause-made g c = λ ks b. subst (IsMadeFrom (kernels_in c.args.job.now.plan.now)) c.in-Some.is c.in_ok-subproblem.ensures.made

pub run_first_from-requires-clause-searcher : goal.run_first_from-requires-clause-searcher
run_first_from-requires-clause-searcher g c = λ ks b. kept_inside (kernels_in c.args.job.now.plan.now) c.args.job.now.plan.now.run.now.lanes c.in-Some.found.boxes.current c.args.job.now.plan.now.run.now.program.now.start c.args.own.now.kept (subst (λ (f : Option Subproblem). IfSome (box_of f) (λ b. IsInside b c.args.job.now.plan.now.run.now.program.now.start)) c.in-Some.is c.in_ok-subproblem.ensures.inside) c.requires.owns.kept

pub returns-in_ok-over-in-Some-clause-owns : goal.returns-in_ok-over-in-Some-clause-owns
returns-in_ok-over-in-Some-clause-owns g c =
    let plan = c.args.job.now.plan.now in
    record {
      walk =
          c.take_back.ensures.walk (model_of plan) (kernels_in plan) plan.start.now c.subproblem.ensures.walk
          (taken_back plan c.requires.fits.plan c.subproblem.new.walk c.in-Some.found c.in_ok-over-in-Some.over.boxes
          (subst (StandsUnder (model_of plan) (kernels_in plan) plan.start.now c.subproblem.new.walk) c.in-Some.is c.in_ok-subproblem.ensures.under)
          (subst (λ (f : Option Subproblem). IfSome (box_of f) (λ b. IsInside b plan.run.now.program.now.start)) c.in-Some.is c.in_ok-subproblem.ensures.inside) c.in_ok-over-in-Some.ensures.over.0 c.in_ok-over-in-Some.ensures.over.1);
      kept = kept_around (kernels_in plan) plan.run.now.lanes c.in-Some.found.boxes.current plan.run.now.program.now.start c.run_first_from.new.kept (subst (λ (f : Option Subproblem). IfSome (box_of f) (λ b. IsInside b c.args.job.now.plan.now.run.now.program.now.start)) c.in-Some.is c.in_ok-subproblem.ensures.inside) c.run_first_from.ensures.searcher;
    }

pub returns-in_ok-over-in-Some-clause-told : goal.returns-in_ok-over-in-Some-clause-told
returns-in_ok-over-in-Some-clause-told g c =
    let plan = c.args.job.now.plan.now in
    part_of_end plan c.requires.fits.plan c.law_one_list.ensures c.law_paths.ensures c.args.place (c.args.place + 1) (numbers_seen c.run_first_from.new.seat) c.in-Some.found.boxes.current
    c.in_ok-over-in-Some.over.end c.told_by.result
    (subst (λ (f : Option Subproblem). PartLeadsTo (model_of plan) (kernels_in plan) plan.parts.now plan.start.now c.args.place (box_of f)) c.in-Some.is c.in_ok-subproblem.ensures.path)
    c.in_ok-over-in-Some.ensures.end c.told_by.ensures
