use Rattle.std.proofs.Common.{Option, subst, sym, ◌∙◌}
use Rattle.std.specs.Prelude.{IfSome, IfNone}
use Rattle.interval.specs.Boxes.{Bounds}
use Rattle.fixpoint_laws.specs.Fixpoints.{IsGreatest, Fails}
use Rattle.free_search.specs.declared.searcher.Searcher.{Searcher}
use Rattle.free_search.proofs.HoldLaws.{greatest_holds, fails_none}
use Rattle.free_search.proofs.free.FreeSearch.narrow.Goals as goal

pub returns-in_ok-narrowed-in-Some-clause-some : goal.returns-in_ok-narrowed-in-Some-clause-some
returns-in_ok-narrowed-in-Some-clause-some g c =
    let run = c.args.run.now in
    let b = c.args.b.now in
    let greatest : IsGreatest c.in-Some.settled.boxes.current b run.program.now.kernels =
    subst (λ (o : Option Searcher). IfSome o (λ s. IsGreatest s.boxes.current b run.program.now.kernels)) c.in-Some.is c.in_ok-settled.ensures.some in
    greatest_holds c.law_inside_order.ensures c.law_point_solves.ensures run.model.now run.program.now b c.in_ok-narrowed-in-Some.narrowed
    c.requires.run.program c.requires.inside
    (subst (λ (x : Bounds). IsGreatest x b run.program.now.kernels) (sym (c.in_ok-narrowed-in-Some.ensures ∙ c.current.ensures)) greatest)

pub returns-in-None-clause-none : goal.returns-in-None-clause-none
returns-in-None-clause-none g c =
    let run = c.args.run.now in
    let b = c.args.b.now in
    let fails : Fails b run.program.now.kernels =
    subst (λ (o : Option Searcher). IfNone o (Fails b run.program.now.kernels)) c.in-None.is c.in_ok-settled.ensures.none in
    fails_none c.law_point_solves.ensures run.model.now run.program.now b c.requires.run.program c.requires.inside fails
