use Rattle.std.proofs.Common.{length, ap, sym, ◌∙◌}
use Rattle.std.proofs.lemmas.Result.{IfOk-weaker}
use Rattle.free_search.proofs.FreeLaws.{placed_for}
use Rattle.free_search.proofs.node.node.Goals as goal

pub bearing-requires : goal.bearing-requires
bearing-requires g c =
    placed_for c.args.task.now.run.now.program.now.kernels c.args.task.now.space.now c.current.result.now c.args.learner.now c.requires.serves
    (sym c.requires.count ∙ sym c.in_ok-is_fixed.ensures.count ∙ sym (ap length c.current.ensures))

pub fail-requires-in-Failed-clause-serves : goal.fail-requires-in-Failed-clause-serves
fail-requires-in-Failed-clause-serves g c = c.bearing.ensures.serves c.args.task.now.run.now.program.now.kernels c.args.task.now.space.now c.requires.serves

pub returns-in_ok-tell-in-Told-clause-serves : goal.returns-in_ok-tell-in-Told-clause-serves
returns-in_ok-tell-in-Told-clause-serves g c = c.bearing.ensures.serves c.args.task.now.run.now.program.now.kernels c.args.task.now.space.now c.requires.serves

pub returns-in-Quiet-clause-serves : goal.returns-in-Quiet-clause-serves
returns-in-Quiet-clause-serves g c =
    let serves = c.bearing.ensures.serves c.args.task.now.run.now.program.now.kernels c.args.task.now.space.now c.requires.serves in
    IfOk-weaker c.settle.result _ _ (λ end count. serves) c.settle.ensures.count
