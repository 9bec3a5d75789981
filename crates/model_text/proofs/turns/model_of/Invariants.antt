use Rattle.std.proofs.Common.{length, ◌-◌}
use Rattle.model_text.specs.Turns.{IsTakenTo}
use Rattle.model_text.proofs.TurnLaws.{TurnLaws}
use Rattle.model_text.proofs.turns.model_of.Given as goal

abbrev pub invariant-loop-at : goal.invariant-loop-at
invariant-loop-at l = TurnLaws × IsTakenTo l.text l.at l.resolver

abbrev pub decreases-loop-at : goal.decreases-loop-at
decreases-loop-at l = length l.text - l.at
