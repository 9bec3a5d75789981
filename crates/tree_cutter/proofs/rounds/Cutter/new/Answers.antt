use Rattle.tree_cutter.proofs.rounds.Cutter.new.Goals as goal

pub returns : goal.returns
returns c = c.new-walk.ensures c.args.tree.now.model.now c.args.tree.now.program.now.kernels c.args.tree.now.start.now
