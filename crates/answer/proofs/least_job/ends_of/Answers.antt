use Rattle.std.proofs.Common.{subst, ◌∙◌}
use Rattle.interval.specs.Boxes.{Bounds}
use Rattle.best_bound.specs.Seats.{costs_seen, costs_posted}
use Rattle.answer.specs.Plans.{model_of}
use Rattle.answer.specs.Runs.{AreLeastRuns}
use Rattle.answer.proofs.ListedLaws.{is_program}
use Rattle.answer.proofs.JobLaws.{seen_was_posted}
use Rattle.answer.proofs.LeastRunLists.{no_least_runs}
use Rattle.answer.proofs.CoverLaws.{whole_ends}
use Rattle.answer.proofs.least_job.ends_of.Goals as goal

pub run_all-requires-clause-none : goal.run_all-requires-clause-none
run_all-requires-clause-none g c κs within =
    let plan = c.args.plan.now in
    no_least_runs (model_of plan) plan.options plan.parts.now plan.start.now (costs_seen c.in_ok-best.seat) (costs_posted c.in_ok-best.seat) c.in_ok-best.ensures.posted

pub returns-clause-ends : goal.returns-clause-ends
returns-clause-ends g c =
    let plan = c.args.plan.now in
    let is = c.requires.plan in
    let made = c.in_ok-ends.ensures.ends in
    whole_ends c.law_inside_order.ensures c.law_one_list.ensures c.law_every_list.ensures c.law_paths.ensures c.law_cuts.ensures c.law_whole_of_parts.ensures.whole c.law_solutions_listed.ensures (model_of plan) is.run.model.search
    (is_program (model_of plan) plan.run.now.program.now is.run.program) plan.options plan.parts.now (record { each = is.parts; cover = c.requires.cover }) c.law_counting.ensures (costs_seen c.run_all.new.seat) (costs_posted c.run_all.new.seat) made.runs c.in_ok-ends.ends
    (subst (λ (b : Bounds). AreLeastRuns (model_of plan) plan.options plan.parts.now b (costs_seen c.run_all.new.seat) (costs_posted c.run_all.new.seat) made.runs) c.requires.start made.stand)
    (seen_was_posted c.seen.result (costs_seen c.run_all.new.seat) (costs_seen c.seen.new.seat) (costs_posted c.run_all.new.seat) (costs_posted c.seen.new.seat)
    c.seen.ensures.seen c.seen.ensures.posted (c.seen.ensures.all (c.seen.ensures.parts ∙ c.run_all.ensures.parts)))
    made.in_order made.in_turn
