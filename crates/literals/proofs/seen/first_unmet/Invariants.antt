use Rattle.std.specs.List.{AllWithin}
use Rattle.tells.specs.Words.{Keeps}
use Rattle.literals.proofs.seen.first_unmet.Given as goal

abbrev pub invariant-loop-place : goal.invariant-loop-place
invariant-loop-place l = AllWithin (Keeps l.b) l.literals l.from l.place
