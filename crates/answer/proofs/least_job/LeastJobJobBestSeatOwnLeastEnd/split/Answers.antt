use Rattle.best_bound.specs.Seats.{costs_seen, costs_posted}
use Rattle.answer.specs.Plans.{model_of}
use Rattle.answer.proofs.LeastRunLists.{no_least_runs}
use Rattle.answer.proofs.least_job.LeastJobJobBestSeatOwnLeastEnd.split.Goals as goal

pub returns-clause-new_stands : goal.returns-clause-new_stands
returns-clause-new_stands g c = λ runs h.
    let plan = c.args.self.now.plan.now in
    no_least_runs (model_of plan) plan.options plan.parts.now plan.start.now (costs_seen c.split.result) (costs_posted c.split.result) c.split.ensures.new_posted
