-- A new walk is one from any start.
use Rattle.search_tests.proofs.paths.assert_walk.Goals as goal

pub loop-depth-init : goal.loop-depth-init
loop-depth-init g c = c.new-walk.ensures _ _ _
