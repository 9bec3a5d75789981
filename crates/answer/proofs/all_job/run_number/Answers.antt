use Rattle.std.proofs.Common.{ℤ, Option, List, [], ◌∷◌, ◌++◌, sym, subst}
use Rattle.std.specs.Prelude.{IfSome}
use Rattle.interval.specs.Boxes.{IsInside}
use Rattle.subproblem_walk.specs.declared.cutter.Subproblem.{Subproblem}
use Rattle.subproblem_walk.specs.Walks.{StandsUnder, box_of, IsMadeFrom}
use Rattle.search.specs.declared.ends.AllEnd.{AllEnd}
use Rattle.answer.specs.Runs.{AreAllRuns}
use Rattle.answer.specs.Places.{PartLeadsTo}
use Rattle.answer.specs.Plans.{model_of, kernels_in}
use Rattle.answer.proofs.JobLaws.{kept_inside, kept_around, taken_back, all_run_none, all_run_some}
use Rattle.answer.proofs.all_job.run_number.Goals as goal

pub returns-in-None : goal.returns-in-None
returns-in-None g c =
    let plan = c.args.job.now.plan.now in
    record {
      seat = c.requires.plan;
      parts = λ n h. tt;
      kept = record { walk = c.subproblem.ensures.walk; kept = c.requires.owns.kept };
      run = λ runs h. subst (λ (xs : List (List ℤ)). AreAllRuns (model_of plan) plan.options plan.parts.now plan.start.now (runs ++ (c.args.number, AllEnd.Done xs) ∷ [])) (sym c.new.ensures)
          (all_run_none plan c.requires.plan c.args.number runs (subst (λ (f : Option Subproblem). PartLeadsTo (model_of plan) (kernels_in plan) plan.parts.now plan.start.now c.args.number (box_of f)) c.in-None.is c.in_ok-subproblem.ensures.path) h);
    }

pub run_all_from-requires-clause-inside : goal.run_all_from-requires-clause-inside
run_all_from-requires-clause-inside g c = λ ks o. subst (λ (f : Option Subproblem). IfSome (box_of f) (λ b. IsInside b c.args.job.now.plan.now.run.now.program.now.start)) c.in-Some.is c.in_ok-subproblem.ensures.inside

pub run_all_from-requires-clause-made : goal.run_all_from-requires-clause-made
run_all_from-requires-clause-made g c = λ ks b. subst (IsMadeFrom (kernels_in c.args.job.now.plan.now)) c.in-Some.is c.in_ok-subproblem.ensures.made

pub run_all_from-requires-clause-searcher : goal.run_all_from-requires-clause-searcher
run_all_from-requires-clause-searcher g c = λ ks b. kept_inside (kernels_in c.args.job.now.plan.now) c.args.job.now.plan.now.run.now.lanes c.in-Some.found.boxes.current c.args.job.now.plan.now.run.now.program.now.start c.args.own.now.kept (subst (λ (f : Option Subproblem). IfSome (box_of f) (λ b. IsInside b c.args.job.now.plan.now.run.now.program.now.start)) c.in-Some.is c.in_ok-subproblem.ensures.inside) c.requires.owns.kept

pub returns-in_ok-over-in-Some : goal.returns-in_ok-over-in-Some
returns-in_ok-over-in-Some g c =
    let plan = c.args.job.now.plan.now in
    record {
      seat = c.requires.plan;
      parts = λ n h. tt;
      kept = record {
        walk =
            c.take_back.ensures.walk (model_of plan) (kernels_in plan) plan.start.now c.subproblem.ensures.walk
            (taken_back plan c.requires.plan c.subproblem.new.walk c.in-Some.found c.in_ok-over-in-Some.over.boxes
            (subst (StandsUnder (model_of plan) (kernels_in plan) plan.start.now c.subproblem.new.walk) c.in-Some.is c.in_ok-subproblem.ensures.under)
            (subst (λ (f : Option Subproblem). IfSome (box_of f) (λ b. IsInside b plan.run.now.program.now.start)) c.in-Some.is c.in_ok-subproblem.ensures.inside) c.in_ok-over-in-Some.ensures.over.0 c.in_ok-over-in-Some.ensures.over.1);
        kept = kept_around (kernels_in plan) plan.run.now.lanes c.in-Some.found.boxes.current plan.run.now.program.now.start c.run_all_from.new.kept (subst (λ (f : Option Subproblem). IfSome (box_of f) (λ b. IsInside b c.args.job.now.plan.now.run.now.program.now.start)) c.in-Some.is c.in_ok-subproblem.ensures.inside) c.run_all_from.ensures.searcher;
      };
      run = λ runs h. all_run_some plan c.requires.plan c.args.number c.in-Some.found.boxes.current c.in_ok-over-in-Some.over.end runs
          (subst (λ (f : Option Subproblem). PartLeadsTo (model_of plan) (kernels_in plan) plan.parts.now plan.start.now c.args.number (box_of f)) c.in-Some.is c.in_ok-subproblem.ensures.path)
          c.in_ok-over-in-Some.ensures.end h;
    }
