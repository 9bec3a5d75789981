use Rattle.answer.specs.Plans.{model_of}
use Rattle.answer.specs.Portfolios.{TellsHead}
use Rattle.answer.proofs.TellingRuns.{runs_tell_joined}
use Rattle.answer.proofs.head_job.HeadJobJobFoundSeatOwnFirstTold.join_back.Goals as goal

pub returns-clause-stands : goal.returns-clause-stands
returns-clause-stands g c = λ runs others h k.
    let plan = c.args.self.now.plan.now in
    runs_tell_joined (TellsHead (model_of plan) plan.parts.now plan.start.now) runs others h k
