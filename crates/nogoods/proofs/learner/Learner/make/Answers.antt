use Rattle.std.proofs.lemmas.Result.{on_ok_weaker}
use Rattle.nogoods.proofs.learner.Learner.make.Goals as goal

pub returns-clause-nogood : goal.returns-clause-nogood
returns-clause-nogood c = on_ok_weaker c.analyze.result (λ goes. goes (c.in_ok-begin.ensures.nogood c.args.kernels.now)) c.analyze.ensures.nogood
