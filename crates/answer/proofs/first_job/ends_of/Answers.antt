use Rattle.std.proofs.Common.{◌∙◌}
use Rattle.best_bound.specs.Seats.{numbers_seen, numbers_posted}
use Rattle.answer.specs.Plans.{model_of}
use Rattle.answer.proofs.JobLaws.{seen_was_posted}
use Rattle.answer.proofs.RunLists.{first_results}
use Rattle.answer.proofs.first_job.ends_of.Goals as goal

pub returns-clause-ends : goal.returns-clause-ends
returns-clause-ends g c =
    let plan = c.args.plan.now in
    let made = c.in_ok-ends.ensures.ends in
    first_results (model_of plan) plan.options plan.parts.now plan.start.now (numbers_seen c.run_all.new.seat) (numbers_posted c.run_all.new.seat) made.runs c.in_ok-ends.ends made.stand
    (seen_was_posted c.seen.result (numbers_seen c.run_all.new.seat) (numbers_seen c.seen.new.seat) (numbers_posted c.run_all.new.seat) (numbers_posted c.seen.new.seat)
    c.seen.ensures.seen c.seen.ensures.posted (c.seen.ensures.all (c.seen.ensures.parts ∙ c.run_all.ensures.parts)))
    made.in_order
