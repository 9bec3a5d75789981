use Rattle.fixpoint_tests.proofs.trees.+tree.Given as goal

abbrev pub decreases-tree : goal.decreases-tree
decreases-tree l = l.levels
