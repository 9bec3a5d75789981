use Rattle.answer.specs.Plans.{model_of}
use Rattle.answer.specs.Portfolios.{TellsCost}
use Rattle.answer.proofs.TellingRuns.{runs_tell_joined}
use Rattle.answer.proofs.cost_job.CostJobJobBestSeatOwnCostTold.join_back.Goals as goal

pub returns-clause-stands : goal.returns-clause-stands
returns-clause-stands g c = λ runs others h k.
    let plan = c.args.self.now.plan.now in
    runs_tell_joined (TellsCost (model_of plan) plan.parts.now plan.start.now) runs others h k
