use Rattle.std.proofs.Common.{◌∙◌}
use Rattle.best_bound.specs.Seats.{numbers_seen, numbers_posted}
use Rattle.answer.specs.Plans.{model_of}
use Rattle.answer.proofs.RunLists.{first_runs_kept}
use Rattle.answer.proofs.JobLaws.{first_run_cut}
use Rattle.answer.proofs.first_job.run_number.Goals as goal

pub returns-in-Some-clause-run : goal.returns-in-Some-clause-run
returns-in-Some-clause-run g c =
    let plan = c.args.job.now.plan.now in
    record {
      seat = (c.requires.fits.0, c.lesser_seen.ensures.seat);
      parts = λ n h. c.lesser_seen.ensures.parts ∙ h;
      kept = c.requires.owns;
      run = λ runs h. first_run_cut plan c.requires.fits.0 c.law_inside_order.ensures c.law_paths.ensures c.len-length.ensures.in_range (numbers_seen c.args.seat.now) (numbers_seen c.lesser_seen.new.seat)
          (numbers_posted c.args.seat.now) (numbers_posted c.lesser_seen.new.seat) c.args.number c.in-Some.lesser runs c.requires.number c.in-Some.ensures.below c.in-Some.ensures.least.0
          c.lesser_seen.ensures.seen c.lesser_seen.ensures.posted h;
    }

pub returns-clause-run : goal.returns-clause-run
returns-clause-run g c =
    let plan = c.args.job.now.plan.now in
    record {
      seat = c.run_there.ensures.seat;
      parts = λ n h. c.run_there.ensures.parts n (c.lesser_seen.ensures.parts ∙ h);
      kept = c.run_there.ensures.kept;
      run = λ runs h. c.run_there.ensures.run runs (first_runs_kept (model_of plan) plan.options plan.parts.now plan.start.now (numbers_seen c.args.seat.now) (numbers_seen c.lesser_seen.new.seat)
          (numbers_posted c.args.seat.now) (numbers_posted c.lesser_seen.new.seat) runs c.lesser_seen.ensures.seen c.lesser_seen.ensures.posted h);
    }
