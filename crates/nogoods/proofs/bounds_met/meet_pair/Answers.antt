use Rattle.std.proofs.Common.{subst}
use Rattle.std.proofs.lemmas.Result.{on_ok_weaker}
use Rattle.guarded_tell.specs.Words.{Keeps}
use Rattle.nogoods.proofs.bounds_met.meet_pair.Goals as goal

pub returns-clause-met : goal.returns-clause-met
returns-clause-met c = on_ok_weaker c.meet_unless-2.result
    (λ second p i m.
    let s = second p i m in
    let f = c.in_ok-meet_unless.ensures.met p i s.0 in
    record { others = f.0; low = subst (Keeps p) c.low_at.ensures.value f.1; high = subst (Keeps p) c.high_at.ensures.value s.1 })
    c.meet_unless-2.ensures.met
