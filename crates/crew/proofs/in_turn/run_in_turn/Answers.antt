use Rattle.crew.specs.Crews.{workers_of}
use Rattle.crew.proofs.InTurn.{ends_in_turn}
use Rattle.crew.proofs.in_turn.run_in_turn.Goals as goal

pub returns-in-Ok-clause-ends : goal.returns-in-Ok-clause-ends
returns-in-Ok-clause-ends g c =
    let all = c.in-Ok.ensures.run in
    ends_in_turn (g.J.Job.stands c.args.work.now.job.now) c.args.work.now.count (workers_of c.args.crew.now) c.run_each-ran.new.seat c.run_each-ran.new.worker.ends all.length_is all.stand
