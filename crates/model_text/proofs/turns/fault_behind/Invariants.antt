use Rattle.std.proofs.Common.{length, ◌-◌}
use Rattle.model_text.specs.Turns.{HasFaultBefore}
use Rattle.model_text.proofs.TurnLaws.{TurnLaws}
use Rattle.model_text.proofs.turns.fault_behind.Given as goal

abbrev pub invariant-loop-at : goal.invariant-loop-at
invariant-loop-at l = TurnLaws × HasFaultBefore l.text l.at l.kind l.place

abbrev pub decreases-loop-at : goal.decreases-loop-at
decreases-loop-at l = length l.text - l.at
