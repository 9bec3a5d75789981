use Rattle.narrowing.proofs.RestNoting.{went_back}
use Rattle.narrowing.proofs.narrower.Narrower.back.Goals as goal

pub returns-in-Alone-clause-rests : goal.returns-in-Alone-clause-rests
returns-in-Alone-clause-rests c = λ kernels stack left h.
    (went_back c.args.self.now c.in-Alone.alone c.in-Alone.is c.back.new.self.asking.rests c.back.ensures.open c.back.ensures.alert kernels stack left h).1

pub returns-in-Alone-clause-let_rest : goal.returns-in-Alone-clause-let_rest
returns-in-Alone-clause-let_rest c = λ kernels stack left h.
    (went_back c.args.self.now c.in-Alone.alone c.in-Alone.is c.back.new.self.asking.rests c.back.ensures.open c.back.ensures.alert kernels stack left h).0
