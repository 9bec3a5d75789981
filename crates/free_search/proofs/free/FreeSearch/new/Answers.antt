use Rattle.std.proofs.Common.{Option, subst}
use Rattle.std.specs.Prelude.{IfSome, IfNone}
use Rattle.interval.specs.Boxes.{Bounds}
use Rattle.fixpoint_laws.specs.Fixpoints.{IsGreatest, Fails}
use Rattle.free_search.proofs.HoldLaws.{greatest_holds, fails_none}
use Rattle.free_search.proofs.free.FreeSearch.new.Goals as goal

pub returns-in_ok-guide-in-Some-clause-some : goal.returns-in_ok-guide-in-Some-clause-some
returns-in_ok-guide-in-Some-clause-some g c =
    let run = c.args.run.now in
    let start = run.program.now.start in
    let greatest : IsGreatest c.in-Some.space start run.program.now.kernels =
    subst (λ (o : Option Bounds). IfSome o (λ b. IsGreatest b start run.program.now.kernels)) c.in-Some.is c.in_ok-space.ensures.some in
    record {
      space = greatest_holds c.law_inside_order.ensures c.law_point_solves.ensures run.model.now run.program.now start c.in-Some.space
          c.requires.program (c.law_inside_order.ensures.itself start) greatest;
      serves = c.in_ok-learner-in-Some.ensures run.program.now.kernels;
    }

pub returns-in-None-clause-none : goal.returns-in-None-clause-none
returns-in-None-clause-none g c =
    let run = c.args.run.now in
    let start = run.program.now.start in
    let fails : Fails start run.program.now.kernels =
    subst (λ (o : Option Bounds). IfNone o (Fails start run.program.now.kernels)) c.in-None.is c.in_ok-space.ensures.none in
    fails_none c.law_point_solves.ensures run.model.now run.program.now start c.requires.program (c.law_inside_order.ensures.itself start) fails
