use Rattle.std.proofs.Common.{ℕ, List, ◌++◌, sym, subst}
use Rattle.best_bound.specs.Seats.{numbers_seen, numbers_posted}
use Rattle.answer.specs.Plans.{model_of}
use Rattle.answer.specs.Runs.{AreFirstRuns}
use Rattle.answer.proofs.RunLists.{first_runs_joined}
use Rattle.answer.proofs.first_job.FirstJobJobFoundSeatOwnFirstEnd.join_back.Goals as goal

pub returns-clause-stands : goal.returns-clause-stands
returns-clause-stands g c = λ runs others h k.
    let plan = c.args.self.now.plan.now in
    subst (λ (posted : List ℕ). AreFirstRuns (model_of plan) plan.options plan.parts.now plan.start.now (numbers_seen c.join_back.new.seat) posted (runs ++ others)) (sym c.join_back.ensures.posted)
    (subst (λ (seen : List ℕ). AreFirstRuns (model_of plan) plan.options plan.parts.now plan.start.now seen (numbers_posted c.args.seat.now ++ numbers_posted c.args.other) (runs ++ others)) (sym c.join_back.ensures.seen)
    (first_runs_joined (model_of plan) plan.options plan.parts.now plan.start.now (numbers_seen c.args.seat.now) (numbers_seen c.args.other) (numbers_posted c.args.seat.now) (numbers_posted c.args.other) runs others h k))
