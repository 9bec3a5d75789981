use Rattle.std.proofs.Common.{◌≡◌}
use Rattle.decompose.proofs.places.Places.add_operands.Given as goal

-- contracts see the places as they were
abbrev pub invariant-loop-operand : goal.invariant-loop-operand
invariant-loop-operand l = l.self ≡ l.fn.self
