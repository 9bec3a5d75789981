use Rattle.std.proofs.Common.{suc, ℤ, List, Option, ◌∙◌, ap, subst}
use Rattle.std.specs.Prelude.{pos, ◌-ℤ◌, IfSome}
use Rattle.interval.specs.Boxes.{Bounds, low_of, put_of}
use Rattle.solution_lists.specs.Solutions.{SolvesInside}
use Rattle.solution_lists.specs.Order.{value_at}
use Rattle.nogoods.specs.Nogoods.{HasNone}
use Rattle.free_search.specs.declared.ends.FreeEnd.{FreeEnd}
use Rattle.free_search.specs.Ends.{IfFound, IfRefuted, IsCutTo}
use Rattle.free_search.proofs.KeyLaws.{solves_wider}
use Rattle.free_search.proofs.least.least_value.Goals as goal

pub loop-preserved : goal.loop-preserved
loop-preserved g c =
    let cut : IsCutTo c.args.base.now (suc c.args.var) (value_at c.as_slice-in-loop.result.now c.args.var -ℤ pos 1) c.in-Some.sub =
    subst (λ (o : Option Bounds). IfSome o (IsCutTo c.args.base.now (suc c.args.var) (value_at c.as_slice-in-loop.result.now c.args.var -ℤ pos 1))) c.in-Some.is c.in_ok-sub.ensures in
    let solves : SolvesInside c.args.run.now.model.now c.in-Some.sub c.in-Found.point =
    subst (λ (e : FreeEnd). IfFound e (SolvesInside c.args.run.now.model.now c.in-Some.sub)) c.in-Found.is c.in_ok-point.ensures.found in
    record {
      best = solves_wider c.law_inside_order.ensures c.args.run.now.model.now c.in-Some.sub c.args.base.now c.in-Found.point cut.inside solves;
      serves = c.in_ok-point.ensures.serves;
    }

pub returns-in-Refuted-clause-least : goal.returns-in-Refuted-clause-least
returns-in-Refuted-clause-least g c =
    let cut : IsCutTo c.args.base.now (suc c.args.var) (value_at c.as_slice-in-loop.result.now c.args.var -ℤ pos 1) c.in-Some.sub =
    subst (λ (o : Option Bounds). IfSome o (IsCutTo c.args.base.now (suc c.args.var) (value_at c.as_slice-in-loop.result.now c.args.var -ℤ pos 1))) c.in-Some.is c.in_ok-sub.ensures in
    let none : HasNone c.args.run.now.program.now.kernels c.args.space.now c.in-Some.sub =
    subst (λ (e : FreeEnd). IfRefuted e (HasNone c.args.run.now.program.now.kernels c.args.space.now c.in-Some.sub)) c.in-Refuted.is c.in_ok-point.ensures.refuted in
    record {
      solves = c.loop.invariant.best;
      none = subst (HasNone c.args.run.now.program.now.kernels c.args.space.now)
          (cut.is ∙ ap (λ (a : List ℤ). put_of c.args.base.now (suc c.args.var) (low_of c.args.base.now (suc c.args.var)) (value_at a c.args.var -ℤ pos 1)) c.as_slice-in-loop.ensures) none;
    }

pub run_free-requires-clause-assumed : goal.run_free-requires-clause-assumed
run_free-requires-clause-assumed g c = λ ks b.
    let cut : IsCutTo c.args.base.now (suc c.args.var) (value_at c.as_slice-in-loop.result.now c.args.var -ℤ pos 1) c.in-Some.sub =
    subst (λ (o : Option Bounds). IfSome o (IsCutTo c.args.base.now (suc c.args.var) (value_at c.as_slice-in-loop.result.now c.args.var -ℤ pos 1))) c.in-Some.is c.in_ok-sub.ensures in
    c.law_inside_order.ensures.through c.in-Some.sub c.args.base.now c.args.space.now cut.inside c.requires.base
