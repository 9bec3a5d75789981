use Rattle.answer.specs.Plans.{model_of}
use Rattle.answer.specs.Results.{IsAllResult}
use Rattle.answer.proofs.RunLists.{results_of}
use Rattle.answer.proofs.all_job.all_ends.Goals as goal

pub returns-clause-ends : goal.returns-clause-ends
returns-clause-ends g c =
    let plan = c.args.plan.now in
    let made = c.in_ok-ends.ensures.ends in
    results_of (model_of plan) plan.parts.now plan.start.now (IsAllResult (model_of plan) plan.options) made.runs c.in_ok-ends.ends made.in_order made.stand.each
