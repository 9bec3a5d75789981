-- A new walk is one from any start.
use Rattle.search_tests.proofs.paths.assert_below.Goals as goal

pub loop-number-init : goal.loop-number-init
loop-number-init g c = c.new-walk.ensures _ _ _
