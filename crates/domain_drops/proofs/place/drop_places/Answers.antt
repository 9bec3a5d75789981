use Rattle.std.proofs.Common.{suc, arith}
use Rattle.domain_drops.proofs.place.drop_places.Goals as goal

pub drop_passing-requires-clause-ready : goal.drop_passing-requires-clause-ready
drop_passing-requires-clause-ready g c = (c.requires.short, record { each = λ i h. c.requires.variables.each (suc i) (omega arith) })
