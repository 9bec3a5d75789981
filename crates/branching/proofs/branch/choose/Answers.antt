use Rattle.branching.proofs.branch.choose.Goals as goal

pub branch_from-requires-clause-front : goal.branch_from-requires-clause-front
branch_from-requires-clause-front c = c.first.ensures c.args.model.now c.args.b.now
