use Rattle.reasons.proofs.elements.first_spare.Given as goal

abbrev pub decreases-loop-first : goal.decreases-loop-first
decreases-loop-first l = l.first
