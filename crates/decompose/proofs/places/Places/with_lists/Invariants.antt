use Rattle.std.proofs.Common.{◌≡◌}
use Rattle.decompose.proofs.places.Places.with_lists.Given as goal

-- contracts see the places as they were
abbrev pub invariant-loop-constraint : goal.invariant-loop-constraint
invariant-loop-constraint l = l.places ≡ l.fn.self
