use Rattle.subproblem_walk.proofs.cutter.keep_or_part.Goals as goal

pub branch_from-requires-clause-front : goal.branch_from-requires-clause-front
branch_from-requires-clause-front c = c.first.ensures c.args.model.now c.args.closed.now
