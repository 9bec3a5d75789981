-- The greatest remainder is one less than the greatest divisor, and all of these fit.
use Rattle.std.proofs.Common.{arith}
use Rattle.std.proofs.lemmas.Int.{ints, clamps}
use Rattle.interval.specs.Limits.{bound_limit, largest_number}
use Rattle.arithmetic_tells.specs.Remainder.{least_remainder, greatest_remainder}
use Rattle.arithmetic_tells.proofs.remainder.reach_of.Goals as goal

pub returns-clause-least : goal.returns-clause-least
unfolding least_remainder bound_limit largest_number
returns-clause-least c =
    let value = c.size_of-most.ensures.value in
    let in_range = c.size_of-most.ensures.in_range in
    let inner = c.min.ensures.value in
    let outer = c.max.ensures.value in
    omega (arith, ints, clamps)

pub returns-clause-greatest : goal.returns-clause-greatest
unfolding greatest_remainder bound_limit largest_number
returns-clause-greatest c =
    let value = c.size_of-most.ensures.value in
    let in_range = c.size_of-most.ensures.in_range in
    let inner = c.max-2.ensures.value in
    let outer = c.min-2.ensures.value in
    omega (arith, ints, clamps)
