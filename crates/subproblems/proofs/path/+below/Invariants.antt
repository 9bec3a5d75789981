use Rattle.subproblems.proofs.path.+below.Given as goal

abbrev pub decreases-below : goal.decreases-below
decreases-below l = l.depth
