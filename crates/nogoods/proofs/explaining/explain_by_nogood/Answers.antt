use Rattle.std.proofs.Common.{List, length, sym, subst, arith}
use Rattle.std.specs.List.{All}
use Rattle.std.proofs.lemmas.Result.{on_ok_weaker}
use Rattle.guarded_tell.specs.Words.{Tell}
use Rattle.literals.specs.Literals.{IsPlaced}
use Rattle.nogoods.specs.Nogoods.{IsNogood}
use Rattle.nogoods.proofs.explaining.explain_by_nogood.Goals as goal

pub resolve_by-requires-clause-reason : goal.resolve_by-requires-clause-reason
resolve_by-requires-clause-reason c =
    let what = c.args.what.now in
    let kept = c.requires.what.nogoods c.args.number c.index-what-number.result (omega arith) in
    subst (λ (ts : List Tell). All (IsPlaced (length what.space.now)) ts) (sym c.as_slice-reason.ensures.value) kept.placed

pub returns-clause-nogood : goal.returns-clause-nogood
returns-clause-nogood c =
    let what = c.args.what.now in
    let kept = c.requires.what.nogoods c.args.number c.index-what-number.result (omega arith) in
    on_ok_weaker c.resolve_by.result
    (λ law. law what.kernels.now (subst (λ (ts : List Tell). IsNogood what.kernels.now what.space.now ts) (sym c.as_slice-reason.ensures.value) kept.holds))
    c.resolve_by.ensures.nogood
