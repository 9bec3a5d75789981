use Rattle.fixpoint_tests.proofs.SmallSums.{overlapping}
use Rattle.fixpoint_tests.proofs.lanes.overlapping.Goals as goal

pub returns : goal.returns
returns c = overlapping c.in_ok-vec.field-0.items c.new.result c.in_ok-one.one c.in_ok-two.two c.in_ok-vec.ensures.items c.new.ensures.items c.in_ok-one.ensures.items c.in_ok-two.ensures.items
