use Rattle.crew.specs.Slots.{AreEmpty}
use Rattle.crew.proofs.ends.empty_slots.Given as goal

abbrev pub invariant-loop : goal.invariant-loop
invariant-loop g l = AreEmpty l.counter l.slots.items
