use Rattle.std.proofs.Common.{◌<◌, length, arith}
use Rattle.std.proofs.lemmas.Result.{on_ok_weaker}
use Rattle.nogoods.proofs.first.begin_by.Goals as goal

pub returns-clause-nogood : goal.returns-clause-nogood
returns-clause-nogood c = on_ok_weaker c.meet_others.result
    (λ met kernels n p s m. n p s (λ k d h. (met p s.inside m).1 k d h (λ e. let l : k < length c.args.reason.now = h in absurd (omega arith)))) c.meet_others.ensures.met
