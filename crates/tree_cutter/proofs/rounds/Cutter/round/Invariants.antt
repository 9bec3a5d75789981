use Rattle.subproblem_walk.specs.Walks.{IsWalkFrom}
use Rattle.tree_cutter.proofs.rounds.Cutter.round.Given as goal

abbrev pub invariant-loop : goal.invariant-loop
invariant-loop l = IsWalkFrom l.tree.model.now l.tree.program.now.kernels l.tree.start.now l.self.walk
