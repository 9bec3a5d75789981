use Rattle.std.proofs.Common.{List, length, sym, subst}
use Rattle.std.specs.List.{All}
use Rattle.std.proofs.lemmas.Result.{on_ok_weaker}
use Rattle.guarded_tell.specs.Words.{Tell}
use Rattle.literals.specs.Literals.{IsPlaced}
use Rattle.nogoods.specs.declared.store.Nogood.{Nogood}
use Rattle.nogoods.specs.Nogoods.{IsNogood}
use Rattle.nogoods.specs.Learnings.{IsKept}
use Rattle.nogoods.proofs.learner.Learner.make_of.Goals as goal

pub begin_by-requires : goal.begin_by-requires
begin_by-requires c =
    let k : IsKept c.args.kernels.now c.args.space.now c.index.result.now =
    subst (λ (n : Nogood). IsKept c.args.kernels.now c.args.space.now n) (sym c.index.ensures)
    (c.requires.serves.nogoods c.args.number c.index.result.now c.requires.number) in
    subst (λ (ts : List Tell). All (IsPlaced (length c.args.space.now)) ts) (sym c.as_slice.ensures.value) k.placed

pub returns-clause-nogood : goal.returns-clause-nogood
returns-clause-nogood c =
    let k : IsKept c.args.kernels.now c.args.space.now c.index.result.now =
    subst (λ (n : Nogood). IsKept c.args.kernels.now c.args.space.now n) (sym c.index.ensures)
    (c.requires.serves.nogoods c.args.number c.index.result.now c.requires.number) in
    on_ok_weaker c.analyze.result (λ goes. goes (c.in_ok-begin_by.ensures.nogood c.args.kernels.now
    (subst (λ (ts : List Tell). IsNogood c.args.kernels.now c.args.space.now ts) (sym c.as_slice.ensures.value) k.holds))) c.analyze.ensures.nogood
