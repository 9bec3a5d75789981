use Rattle.std.proofs.Common.{arith}
use Rattle.std.proofs.lemmas.List.Elements.{Contains-get_or}
use Rattle.std.proofs.lemmas.Result.{on_ok_weaker}
use Rattle.nogoods.proofs.explaining.explain_by_kernel.Goals as goal

pub returns-clause-nogood : goal.returns-clause-nogood
returns-clause-nogood c = on_ok_weaker c.resolve.result
    (λ law. law c.args.what.now.kernels.now (Contains-get_or c.args.what.now.kernels.now c.args.number _ (omega arith))) c.resolve.ensures.nogood
