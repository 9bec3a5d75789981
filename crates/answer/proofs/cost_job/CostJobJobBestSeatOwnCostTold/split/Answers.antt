use Rattle.answer.specs.Plans.{model_of}
use Rattle.answer.specs.Portfolios.{TellsCost}
use Rattle.answer.proofs.TellingRuns.{no_runs_tell}
use Rattle.answer.proofs.cost_job.CostJobJobBestSeatOwnCostTold.split.Goals as goal

pub returns-clause-new_stands : goal.returns-clause-new_stands
returns-clause-new_stands g c = λ runs h.
    let plan = c.args.self.now.plan.now in
    no_runs_tell (TellsCost (model_of plan) plan.parts.now plan.start.now)
