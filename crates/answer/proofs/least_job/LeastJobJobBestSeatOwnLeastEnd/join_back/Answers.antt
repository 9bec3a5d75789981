use Rattle.std.proofs.Common.{ℤ, List, ◌++◌, sym, subst}
use Rattle.best_bound.specs.Seats.{costs_seen, costs_posted}
use Rattle.answer.specs.Plans.{model_of}
use Rattle.answer.specs.Runs.{AreLeastRuns}
use Rattle.answer.proofs.LeastRunLists.{least_runs_joined}
use Rattle.answer.proofs.least_job.LeastJobJobBestSeatOwnLeastEnd.join_back.Goals as goal

pub returns-clause-stands : goal.returns-clause-stands
returns-clause-stands g c = λ runs others h k.
    let plan = c.args.self.now.plan.now in
    subst (λ (posted : List ℤ). AreLeastRuns (model_of plan) plan.options plan.parts.now plan.start.now (costs_seen c.join_back.new.seat) posted (runs ++ others)) (sym c.join_back.ensures.posted)
    (subst (λ (seen : List ℤ). AreLeastRuns (model_of plan) plan.options plan.parts.now plan.start.now seen (costs_posted c.args.seat.now ++ costs_posted c.args.other) (runs ++ others)) (sym c.join_back.ensures.seen)
    (least_runs_joined c.law_more_posted.ensures (model_of plan) plan.options plan.parts.now plan.start.now c.requires.may_split (costs_seen c.args.seat.now) (costs_seen c.args.other) (costs_posted c.args.seat.now) (costs_posted c.args.other) runs others h k))
