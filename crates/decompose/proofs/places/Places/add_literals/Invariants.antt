use Rattle.std.proofs.Common.{◌≡◌, ◌++◌, map, take}
use Rattle.decompose.specs.Rows.{literal_at}
use Rattle.decompose.proofs.places.Places.add_literals.Given as goal

-- the literals of the booleans so far stand behind those that stood before
abbrev pub invariant-loop-boolean : goal.invariant-loop-boolean
invariant-loop-boolean l = l.literals.items ≡ l.fn.literals.items ++ map (literal_at l.self.numbering l.positive) (take l.boolean-index l.booleans)
