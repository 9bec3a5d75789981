use Rattle.std.proofs.Common.{◌∷◌, ◌++◌, [], refl, sym, ◌∙◌, arith}
use Rattle.crew.proofs.Made.{on_err, of_err}
use Rattle.crew.proofs.InTurn.{of_ok, of_not_err, run_more, some_in_turn}
use Rattle.crew.proofs.in_turn.run_next.Goals as goal

pub returns-in_err-end-clause-made : goal.returns-in_err-end-clause-made
returns-in_err-end-clause-made g c = λ kept.
    let before = c.requires.run in
    on_err _ _ (some_in_turn (g.J.Job.stands c.args.work.now.job.now) (g.J.Job.count c.args.work.now.job.now) c.run.new.arg3 c.args.worker.now.ends
    (omega (arith, before.length_is, c.requires.below))
    (of_err _ _ _ c.in_err-end.was (kept _ _ _ _ _ _ c.requires.below before.own c.requires.fits c.run.ensures _ before.stand)))

pub returns-then-is_err-clause-made : goal.returns-then-is_err-clause-made
returns-then-is_err-clause-made g c = λ kept.
    let before = c.requires.run in
    let is = c.requires.does _ _ _ _ _ _ c.requires.below before.own c.requires.fits c.run.ensures in
    let more = run_more (g.J.Job.stands c.args.work.now.job.now) c.run.new.arg3 c.args.number c.args.worker.now.ends (c.args.worker.now.ends ++ c.in_ok-end.end ∷ []) c.in_ok-end.end
    before.length_is refl (of_ok _ _ _ c.in_ok-end.was (is.run _ before.stand)) in
    some_in_turn (g.J.Job.stands c.args.work.now.job.now) (g.J.Job.count c.args.work.now.job.now) c.run.new.arg3 (c.args.worker.now.ends ++ c.in_ok-end.end ∷ [])
    (omega (arith, more.0, c.requires.below)) more.1

pub returns-clause-run : goal.returns-clause-run
returns-clause-run g c =
    let before = c.requires.run in
    let is = c.requires.does _ _ _ _ _ _ c.requires.below before.own c.requires.fits c.run.ensures in
    let more = run_more (g.J.Job.stands c.args.work.now.job.now) c.run.new.arg3 c.args.number c.args.worker.now.ends c.push.new.self c.in_ok-end.end
    before.length_is (of_not_err c.push.result _ (sym c.is_err.ensures.value ∙ c.if-is_err.false) c.push.ensures.pushed) (of_ok _ _ _ c.in_ok-end.was (is.run _ before.stand)) in
    record {
      own = of_ok _ _ _ c.in_ok-end.was is.kept;
      length_is = more.0;
      stand = more.1;
    }
