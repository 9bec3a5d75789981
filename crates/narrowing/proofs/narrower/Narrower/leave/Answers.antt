use Rattle.std.proofs.lemmas.Result.{on_ok_weaker}
use Rattle.narrowing.proofs.RestNoting.{layers_left}
use Rattle.narrowing.proofs.narrower.Narrower.leave.Goals as goal

pub returns-in-Alone-clause-let_rest : goal.returns-in-Alone-clause-let_rest
returns-in-Alone-clause-let_rest c = on_ok_weaker c.leave.result
    (λ left. layers_left c.args.self.now c.in-Alone.alone c.in-Alone.is c.leave.new.self.asking.rests left) c.leave.ensures.left
