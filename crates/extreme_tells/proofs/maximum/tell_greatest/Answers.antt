-- Two lists of tells are heard one after the other.
use Rattle.std.proofs.Common.{suc, arith}
use Rattle.extreme_tells.proofs.maximum.tell_greatest.Goals as goal

pub reach_of-reach-requires-clause-variables : goal.reach_of-reach-requires-clause-variables
reach_of-reach-requires-clause-variables g c = record { each = λ i h. c.requires.variables.each (suc i) (omega arith) }
