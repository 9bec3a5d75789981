use Rattle.subproblem_walk.proofs.walk.+lead.Given as goal

abbrev pub decreases-lead : goal.decreases-lead
decreases-lead l = l.address.depth
