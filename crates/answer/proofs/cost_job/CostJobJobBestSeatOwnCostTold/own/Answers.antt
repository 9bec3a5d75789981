use Rattle.std.proofs.Common.{length}
use Rattle.answer.specs.Plans.{model_of, kernels_in}
use Rattle.answer.proofs.cost_job.CostJobJobBestSeatOwnCostTold.own.Goals as goal

pub returns : goal.returns
returns g c =
    let plan = c.args.self.now.plan.now in
    c.new-own.ensures (model_of plan) (kernels_in plan) plan.start.now plan.run.now.lanes (length plan.run.now.program.now.start)
