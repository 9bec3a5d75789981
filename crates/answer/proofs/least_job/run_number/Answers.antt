use Rattle.std.proofs.Common.{Option, subst, ◌∙◌}
use Rattle.best_bound.specs.Seats.{costs_seen, costs_posted}
use Rattle.std.specs.Prelude.{IfSome}
use Rattle.interval.specs.Boxes.{IsInside}
use Rattle.subproblem_walk.specs.declared.cutter.Subproblem.{Subproblem}
use Rattle.subproblem_walk.specs.Walks.{StandsUnder, box_of, IsMadeFrom}
use Rattle.answer.specs.Places.{PartLeadsBelow}
use Rattle.answer.specs.Plans.{model_of, kernels_in}
use Rattle.answer.proofs.JobLaws.{kept_inside, kept_around, taken_back}
use Rattle.answer.proofs.LeastRunLists.{least_runs_seen}
use Rattle.answer.proofs.LeastJobLaws.{least_run_some}
use Rattle.answer.proofs.BeatenLaws.{least_run_past, looked_at, least_posted, seen_before, found_leads}
use Rattle.answer.proofs.least_job.run_number.Goals as goal

pub returns-in-None : goal.returns-in-None
returns-in-None g c =
    let plan = c.args.job.now.plan.now in
    record {
      seat = record { plan = c.requires.fits.plan; seat_of = c.seen-best.ensures.seat; objective = c.requires.fits.objective; sole = λ one. c.seen-best.ensures.parts ∙ c.requires.fits.sole one };
      parts = λ n h. c.seen-best.ensures.parts ∙ h;
      kept = record { walk = c.subproblem_below.ensures.walk; kept = c.requires.owns.kept };
      run = λ runs h. least_run_past c.law_more_posted.ensures c.law_costs_fall.ensures c.law_finds_least.ensures c.law_inside_order.ensures c.law_paths.ensures c.law_cuts.ensures plan c.requires.fits.plan
          c.requires.fits.objective c.len-length.ensures.in_range (costs_seen c.seen-best.new.seat) (costs_posted c.seen-best.new.seat) c.args.number c.seen-best.result runs c.requires.number
          (looked_at c.seen-best.result (costs_seen c.seen-best.new.seat) c.seen-best.ensures.least)
          (λ one. least_posted c.seen-best.result (costs_seen c.seen-best.new.seat) (costs_posted c.seen-best.new.seat) c.seen-best.ensures.least c.seen-best.ensures.not_above
          (c.seen-best.ensures.all (c.seen-best.ensures.parts ∙ c.requires.fits.sole one)))
          (subst (λ (f : Option Subproblem). PartLeadsBelow (model_of plan) (kernels_in plan) plan.parts.now plan.start.now c.args.number c.seen-best.result (box_of f)) c.in-None.is c.in_ok-subproblem_below.ensures.path)
          (least_runs_seen c.law_more_posted.ensures (model_of plan) plan.options plan.parts.now plan.start.now (costs_seen c.args.seat.now) (costs_seen c.seen-best.new.seat) (costs_posted c.args.seat.now)
          (costs_posted c.seen-best.new.seat) runs (seen_before c.seen-best.result (costs_seen c.args.seat.now) (costs_seen c.seen-best.new.seat) c.seen-best.ensures.seen) c.seen-best.ensures.posted h);
    }

pub run_least_from-requires-clause-inside : goal.run_least_from-requires-clause-inside
run_least_from-requires-clause-inside g c = λ ks o. subst (λ (f : Option Subproblem). IfSome (box_of f) (λ b. IsInside b c.args.job.now.plan.now.run.now.program.now.start)) c.in-Some.is c.in_ok-subproblem_below.ensures.inside

pub run_least_from-requires-clause-made : goal.run_least_from-requires-clause-made
run_least_from-requires-clause-made g c = λ ks b. subst (IsMadeFrom (kernels_in c.args.job.now.plan.now)) c.in-Some.is c.in_ok-subproblem_below.ensures.made

pub run_least_from-requires-clause-searcher : goal.run_least_from-requires-clause-searcher
run_least_from-requires-clause-searcher g c = λ ks b. kept_inside (kernels_in c.args.job.now.plan.now) c.args.job.now.plan.now.run.now.lanes c.in-Some.found.boxes.current c.args.job.now.plan.now.run.now.program.now.start c.args.own.now.kept (subst (λ (f : Option Subproblem). IfSome (box_of f) (λ b. IsInside b c.args.job.now.plan.now.run.now.program.now.start)) c.in-Some.is c.in_ok-subproblem_below.ensures.inside) c.requires.owns.kept

pub returns-in_ok-over-in-Some : goal.returns-in_ok-over-in-Some
returns-in_ok-over-in-Some g c =
    let plan = c.args.job.now.plan.now in
    record {
      seat = record {
        plan = c.requires.fits.plan;
        seat_of = c.run_least_from.ensures.seat;
        objective = c.requires.fits.objective;
        sole = λ one. c.run_least_from.ensures.parts ∙ c.seen-best.ensures.parts ∙ c.requires.fits.sole one;
      };
      parts = λ n h. c.run_least_from.ensures.parts ∙ c.seen-best.ensures.parts ∙ h;
      kept = record {
        walk =
            c.take_back.ensures.walk (model_of plan) (kernels_in plan) plan.start.now c.subproblem_below.ensures.walk
            (taken_back plan c.requires.fits.plan c.subproblem_below.new.walk c.in-Some.found c.in_ok-over-in-Some.over.boxes
            (subst (StandsUnder (model_of plan) (kernels_in plan) plan.start.now c.subproblem_below.new.walk) c.in-Some.is c.in_ok-subproblem_below.ensures.under)
            (subst (λ (f : Option Subproblem). IfSome (box_of f) (λ b. IsInside b plan.run.now.program.now.start)) c.in-Some.is c.in_ok-subproblem_below.ensures.inside) c.in_ok-over-in-Some.ensures.over.0 c.in_ok-over-in-Some.ensures.over.1);
        kept = kept_around (kernels_in plan) plan.run.now.lanes c.in-Some.found.boxes.current plan.run.now.program.now.start c.run_least_from.new.kept (subst (λ (f : Option Subproblem). IfSome (box_of f) (λ b. IsInside b c.args.job.now.plan.now.run.now.program.now.start)) c.in-Some.is c.in_ok-subproblem_below.ensures.inside) c.run_least_from.ensures.searcher;
      };
      run = λ runs h. least_run_some c.law_more_posted.ensures c.law_costs_fall.ensures plan c.requires.fits.plan c.requires.fits.objective
          (costs_seen c.seen-best.new.seat) (costs_seen c.run_least_from.new.seat) (costs_posted c.seen-best.new.seat) (costs_posted c.run_least_from.new.seat) c.args.number c.in-Some.found.boxes.current
          c.in_ok-over-in-Some.over.end runs c.seen-best.result
          (found_leads (model_of plan) (kernels_in plan) plan.parts.now plan.start.now c.args.number c.seen-best.result c.in-Some.found.boxes.current
          (subst (λ (f : Option Subproblem). PartLeadsBelow (model_of plan) (kernels_in plan) plan.parts.now plan.start.now c.args.number c.seen-best.result (box_of f)) c.in-Some.is c.in_ok-subproblem_below.ensures.path))
          (subst (λ (f : Option Subproblem). IfSome (box_of f) (λ b. IsInside b c.args.job.now.plan.now.run.now.program.now.start)) c.in-Some.is c.in_ok-subproblem_below.ensures.inside) c.len-length-in-Some.ensures.in_range c.run_least_from.ensures.kept c.in_ok-over-in-Some.ensures.least
          (looked_at c.seen-best.result (costs_seen c.seen-best.new.seat) c.seen-best.ensures.least)
          (λ one. least_posted c.seen-best.result (costs_seen c.seen-best.new.seat) (costs_posted c.seen-best.new.seat) c.seen-best.ensures.least c.seen-best.ensures.not_above
          (c.seen-best.ensures.all (c.seen-best.ensures.parts ∙ c.requires.fits.sole one)))
          c.in_ok-over-in-Some.ensures.end (λ one least. c.in_ok-over-in-Some.ensures.alone (c.seen-best.ensures.parts ∙ c.requires.fits.sole one) c.seen-best.result least)
          (least_runs_seen c.law_more_posted.ensures (model_of plan) plan.options plan.parts.now plan.start.now (costs_seen c.args.seat.now) (costs_seen c.seen-best.new.seat) (costs_posted c.args.seat.now)
          (costs_posted c.seen-best.new.seat) runs (seen_before c.seen-best.result (costs_seen c.args.seat.now) (costs_seen c.seen-best.new.seat) c.seen-best.ensures.seen) c.seen-best.ensures.posted h);
    }
