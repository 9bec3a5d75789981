use Rattle.answer.specs.Plans.{model_of}
use Rattle.answer.specs.Jobs.{numbers_of}
use Rattle.answer.specs.Portfolios.{TellsCost}
use Rattle.answer.proofs.TellingRuns.{no_runs_tell, ends_tell}
use Rattle.answer.proofs.cost_job.ends_of.Goals as goal

pub run_all-requires-clause-none : goal.run_all-requires-clause-none
run_all-requires-clause-none g c = λ lifetimes outlive.
    let plan = c.args.plan.now in
    no_runs_tell (TellsCost (model_of plan) plan.parts.now plan.start.now)

pub returns-clause-ends : goal.returns-clause-ends
returns-clause-ends g c =
    let plan = c.args.plan.now in
    let made = c.in_ok-ends.ensures.ends in
    ends_tell (TellsCost (model_of plan) plan.parts.now plan.start.now) (numbers_of plan) made.runs c.in_ok-ends.ends made.in_order made.stand
