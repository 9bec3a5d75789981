use Rattle.std.proofs.Common.{take}
use Rattle.moved_fixpoint.specs.Asked.{AreAsked}
use Rattle.moved_fixpoint.proofs.running.ask_told.Given as goal

abbrev pub invariant-loop-t : goal.invariant-loop-t
invariant-loop-t l = AreAsked l.masks l.rests l.b l.by_side (take l.t-index l.told) l.initial.asked l.asked
