use Rattle.std.proofs.Common.{◌<◌, length, sym, subst, ℕ}
use Rattle.std.proofs.lemmas.Result.{on_ok_weaker}
use Rattle.guarded_tell.specs.Words.{Keeps}
use Rattle.nogoods.proofs.NogoodLaws.{never_both}
use Rattle.nogoods.proofs.first.begin.Goals as goal

pub returns-clause-nogood : goal.returns-clause-nogood
returns-clause-nogood c = on_ok_weaker c.meet_unless-2.result
    (λ second kernels p s m.
    let other = second p s.inside m in
    let one = c.in_ok-meet_unless.ensures.met p s.inside other.0 in
    let within : c.args.t.var < length p = subst (λ (n : ℕ). c.args.t.var < n) (sym s.inside.same_length) c.requires.placed.0 in
    never_both p c.args.t within s.is_point one.1 (subst (Keeps p) c.opposite.ensures other.1))
    c.meet_unless-2.ensures.met
