use Rattle.std.proofs.Common.{◌≡◌, ◌++◌, map, take}
use Rattle.decompose.specs.Kernels.{number_of}
use Rattle.decompose.proofs.coefficients.add_numbers.Given as goal

-- the numbers of the terms so far stand behind those that stood before
abbrev pub invariant-loop-term : goal.invariant-loop-term
invariant-loop-term l = l.numbers.items ≡ l.fn.numbers.items ++ map number_of (take l.term-index l.terms)
