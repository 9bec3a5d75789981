-- A place is the same as it is read in 64 bits.
use Rattle.std.proofs.Common.{arith}
use Rattle.std.proofs.lemmas.Int.{ints, clamps}
use Rattle.extreme_tells.specs.Extremes.{member_limit}
use Rattle.element_tells.proofs.element.wider.Goals as goal

pub returns-clause-first : goal.returns-clause-first
unfolding member_limit
returns-clause-first c = omega (arith, ints, clamps)

pub returns-clause-last : goal.returns-clause-last
unfolding member_limit
returns-clause-last c = omega (arith, ints, clamps)
