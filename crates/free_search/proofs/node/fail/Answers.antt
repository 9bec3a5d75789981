use Rattle.std.proofs.Common.{sym}
use Rattle.free_search.proofs.FreeLaws.{placed_for}
use Rattle.free_search.proofs.node.fail.Goals as goal

pub refutes-requires : goal.refutes-requires
refutes-requires g c =
    placed_for c.args.task.now.run.now.program.now.kernels c.args.task.now.space.now c.args.task.now.sub.now c.learn-learned.new.learner c.learn-learned.ensures
    (sym c.requires.task.assumed.same_length)

pub returns-then-refutes-clause-refuted : goal.returns-then-refutes-clause-refuted
returns-then-refutes-clause-refuted g c =
    c.if-refutes.ensures c.args.task.now.run.now.program.now.kernels c.args.task.now.space.now c.learn-learned.ensures c.requires.task.assumed.same_length

pub returns-clause-serves : goal.returns-clause-serves
returns-clause-serves g c = c.back_to.ensures c.args.task.now.run.now.program.now.kernels c.args.task.now.space.now c.learn-learned.ensures
