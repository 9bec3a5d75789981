use Rattle.std.proofs.Common.{length, sym, subst, ℕ}
use Rattle.literals.specs.Literals.{IsPlaced}
use Rattle.std.specs.List.{All}
use Rattle.guarded_tell.specs.Words.{Keeps}
use Rattle.nogoods.proofs.NogoodLaws.{but_one_at}
use Rattle.nogoods.proofs.resolving.resolve_by.Goals as goal

pub meet_others-requires-clause-placed : goal.meet_others-requires-clause-placed
meet_others-requires-clause-placed c = c.take.ensures.placed (length c.args.space.now) c.requires.placed

pub returns-clause-nogood : goal.returns-clause-nogood
returns-clause-nogood c = λ kernels reason nogood p s m.
    let a = c.in_ok-meet_others.ensures.met p s.inside m in
    let o = but_one_at c.law_literals.ensures kernels c.args.space.now p c.args.reason.now c.in-Some.own c.at-sought.result
    (subst (λ (n : ℕ). All (IsPlaced n) c.args.reason.now) (sym s.inside.same_length) c.requires.reason) c.in-Some.ensures.0 reason s a.1 in
    let sought : Keeps p c.at-sought.result = c.law_literals.ensures.tighter p _ c.at-sought.result (c.in-Some.ensures.1 c.at-sought.result) o in
    nogood p s (c.take.ensures.less c.at-sought.result p a.0 (subst (Keeps p) (c.at-sought.ensures c.at-sought.result) sought))
