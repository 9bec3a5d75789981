use Rattle.free_search.proofs.run.round.Goals as goal

pub nodes-requires-clause-serves : goal.nodes-requires-clause-serves
nodes-requires-clause-serves g c κs within =
    c.begin_anew.ensures c.args.task.now.run.now.program.now.kernels c.args.task.now.space.now
    (c.forget.ensures c.args.task.now.run.now.program.now.kernels c.args.task.now.space.now c.requires.serves)
