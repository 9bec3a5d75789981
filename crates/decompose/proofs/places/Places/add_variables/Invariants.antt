use Rattle.std.proofs.Common.{◌≡◌, ◌++◌, map, take}
use Rattle.decompose.specs.Kernels.{variable_of}
use Rattle.decompose.proofs.places.Places.add_variables.Given as goal

-- the variables of the terms so far stand behind those that stood before
abbrev pub invariant-loop-term : goal.invariant-loop-term
invariant-loop-term l = l.variables.items ≡ l.fn.variables.items ++ map (variable_of l.self.numbering) (take l.term-index l.terms)
