use Rattle.std.proofs.Common.{List, Option, Some, subst, ◌∙◌}
use Rattle.guarded_tell.specs.declared.kernel.Kernel.{Kernel}
use Rattle.branching.specs.Tree.{SolutionsIn}
use Rattle.best_bound.specs.Seats.{numbers_seen, numbers_posted}
use Rattle.std.specs.Prelude.{IfSome}
use Rattle.interval.specs.Boxes.{IsInside}
use Rattle.subproblem_walk.specs.declared.cutter.Subproblem.{Subproblem}
use Rattle.subproblem_walk.specs.Walks.{StandsUnder, box_of, IsMadeFrom}
use Rattle.answer.specs.Places.{PartLeadsTo}
use Rattle.answer.specs.Plans.{model_of, kernels_in}
use Rattle.answer.proofs.JobLaws.{kept_inside, kept_around, taken_back, plan_leads, first_run_none, first_run_some}
use Rattle.answer.proofs.first_job.run_there.Goals as goal

pub run_first_from-requires-clause-solution : goal.run_first_from-requires-clause-solution
run_first_from-requires-clause-solution g c = λ lifetimes outlive solutions listed some.
    let plan = c.args.job.now.plan.now in
    (c.requires.numbers c.args.number).1 (record {
      sub = c.in-Some.found.boxes.current;
      leads = plan_leads plan c.requires.fits.0 c.args.number (Some c.in-Some.found.boxes.current)
          (subst (λ (f : Option Subproblem). PartLeadsTo (model_of plan) (kernels_in plan) plan.parts.now plan.start.now c.args.number (box_of f)) c.in-Some.is c.in_ok-subproblem.ensures.path);
      solutions = solutions;
      listed = subst (λ (ks : List Kernel). SolutionsIn (model_of plan) ks c.in-Some.found.boxes.current solutions) c.requires.fits.0.run.program.kernels listed;
      some = some;
    })

pub returns-in-None : goal.returns-in-None
returns-in-None g c =
    let plan = c.args.job.now.plan.now in
    record {
      seat = c.requires.fits;
      parts = λ n h. h;
      kept = record { walk = c.subproblem.ensures.walk; kept = c.requires.owns.kept };
      run = λ runs h. first_run_none plan c.requires.fits.0 (numbers_seen c.args.seat.now) (numbers_posted c.args.seat.now) c.args.number runs
          (subst (λ (f : Option Subproblem). PartLeadsTo (model_of plan) (kernels_in plan) plan.parts.now plan.start.now c.args.number (box_of f)) c.in-None.is c.in_ok-subproblem.ensures.path) h;
    }

pub run_first_from-requires-clause-inside : goal.run_first_from-requires-clause-inside
run_first_from-requires-clause-inside g c = λ ks o. subst (λ (f : Option Subproblem). IfSome (box_of f) (λ b. IsInside b c.args.job.now.plan.now.run.now.program.now.start)) c.in-Some.is c.in_ok-subproblem.ensures.inside

pub run_first_from-requires-clause-made : goal.run_first_from-requires-clause-made
run_first_from-requires-clause-made g c = λ ks b. subst (IsMadeFrom (kernels_in c.args.job.now.plan.now)) c.in-Some.is c.in_ok-subproblem.ensures.made

pub run_first_from-requires-clause-searcher : goal.run_first_from-requires-clause-searcher
run_first_from-requires-clause-searcher g c = λ ks b. kept_inside (kernels_in c.args.job.now.plan.now) c.args.job.now.plan.now.run.now.lanes c.in-Some.found.boxes.current c.args.job.now.plan.now.run.now.program.now.start c.args.own.now.kept (subst (λ (f : Option Subproblem). IfSome (box_of f) (λ b. IsInside b c.args.job.now.plan.now.run.now.program.now.start)) c.in-Some.is c.in_ok-subproblem.ensures.inside) c.requires.owns.kept

pub returns-in_ok-over-in-Some : goal.returns-in_ok-over-in-Some
returns-in_ok-over-in-Some g c =
    let plan = c.args.job.now.plan.now in
    record {
      seat = (c.requires.fits.0, c.run_first_from.ensures.seat);
      parts = λ n h. c.run_first_from.ensures.parts ∙ h;
      kept = record {
        walk =
            c.take_back.ensures.walk (model_of plan) (kernels_in plan) plan.start.now c.subproblem.ensures.walk
            (taken_back plan c.requires.fits.0 c.subproblem.new.walk c.in-Some.found c.in_ok-over-in-Some.over.boxes
            (subst (StandsUnder (model_of plan) (kernels_in plan) plan.start.now c.subproblem.new.walk) c.in-Some.is c.in_ok-subproblem.ensures.under)
            (subst (λ (f : Option Subproblem). IfSome (box_of f) (λ b. IsInside b plan.run.now.program.now.start)) c.in-Some.is c.in_ok-subproblem.ensures.inside) c.in_ok-over-in-Some.ensures.over.0 c.in_ok-over-in-Some.ensures.over.1);
        kept = kept_around (kernels_in plan) plan.run.now.lanes c.in-Some.found.boxes.current plan.run.now.program.now.start c.run_first_from.new.kept (subst (λ (f : Option Subproblem). IfSome (box_of f) (λ b. IsInside b c.args.job.now.plan.now.run.now.program.now.start)) c.in-Some.is c.in_ok-subproblem.ensures.inside) c.run_first_from.ensures.searcher;
      };
      run = λ runs h. first_run_some plan c.requires.fits.0 (numbers_seen c.args.seat.now) (numbers_seen c.run_first_from.new.seat) (numbers_posted c.args.seat.now) (numbers_posted c.run_first_from.new.seat)
          c.args.number c.in-Some.found.boxes.current c.in_ok-over-in-Some.over.end runs
          (subst (λ (f : Option Subproblem). PartLeadsTo (model_of plan) (kernels_in plan) plan.parts.now plan.start.now c.args.number (box_of f)) c.in-Some.is c.in_ok-subproblem.ensures.path)
          c.run_first_from.ensures.seen c.in_ok-over-in-Some.ensures.end c.in_ok-over-in-Some.ensures.posts h;
    }
