use Rattle.std.proofs.Common.{◌≡◌, ℕ, suc, ◌-◌, sym, subst, ◌∙◌}
use Rattle.answer.specs.Plans.{model_of}
use Rattle.answer.specs.Portfolios.{TellsHead}
use Rattle.answer.proofs.TellingRuns.{run_more_tells, told_run, behind_is}
use Rattle.answer.proofs.head_job.run_number.Goals as goal

pub returns-then-number-eq0 : goal.returns-then-number-eq0
returns-then-number-eq0 g c =
    let plan = c.args.job.now.plan.now in
    let fits = c.requires.fits in
    let zero_is : 0 ≡ c.args.number = sym c.if-number-eq0.true in
    record {
      seat = record { plan = fits.plan; known = fits.known; seat_of = c.run_free.ensures.seat };
      parts = λ n h. c.run_free.ensures.parts ∙ h;
      kept = c.requires.owns;
      run = λ runs h. run_more_tells (TellsHead (model_of plan) plan.parts.now plan.start.now) runs c.args.number c.run_free.result h
          (subst (λ (n : ℕ). TellsHead (model_of plan) plan.parts.now plan.start.now n c.run_free.result) zero_is c.run_free.ensures.told);
    }

pub returns : goal.returns
returns g c =
    let plan = c.args.job.now.plan.now in
    let fits = c.requires.fits in
    let behind : suc (c.args.number - 1) ≡ c.args.number = behind_is c.args.number c.if-number-eq0.false in
    record {
      seat = record { plan = fits.plan; known = fits.known; seat_of = c.run_part.ensures.seat };
      parts = λ n h. c.run_part.ensures.parts ∙ h;
      kept = c.run_part.ensures.owns;
      run = λ runs h. told_run (TellsHead (model_of plan) plan.parts.now plan.start.now) runs c.args.number (c.args.number - 1) c.run_part.result behind h c.run_part.ensures.told;
    }
