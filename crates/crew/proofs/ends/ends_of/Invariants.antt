use Rattle.crew.specs.Slots.{AreFilledWith}
use Rattle.crew.proofs.ends.ends_of.Given as goal

abbrev pub invariant-loop-slot : goal.invariant-loop-slot
invariant-loop-slot g l = AreFilledWith l.yielded l.ends
