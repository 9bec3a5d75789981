use Rattle.std.proofs.Common.{◌≡◌, [], take}
use Rattle.decompose.proofs.constants.known_arrays.Given as goal

-- the arrays so far
abbrev pub invariant-loop-terms : goal.invariant-loop-terms
invariant-loop-terms l = l.found ≡ record { numbers = []; arrays = take l.terms-index l.arrays }
