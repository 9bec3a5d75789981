-- Clamping in i128 at the two bounds, which fit i64.
use Rattle.std.proofs.Common.{arith}
use Rattle.std.proofs.lemmas.Int.{ints, clamps}
use Rattle.interval.specs.Limits.{bound_limit, largest_number, clamp_of}
use Rattle.interval.proofs.bounds.clamp_bound.Goals as goal

pub returns-clause-value : goal.returns-clause-value
unfolding clamp_of bound_limit largest_number
returns-clause-value c = let e = c.clamp.ensures.value in omega (arith, ints, clamps)

pub returns-clause-in_range : goal.returns-clause-in_range
unfolding bound_limit largest_number
returns-clause-in_range c = let e = c.clamp.ensures.value in omega (arith, ints, clamps)

pub returns-clause-same : goal.returns-clause-same
unfolding bound_limit largest_number
returns-clause-same c = λ h. let e = c.clamp.ensures.value in omega (arith, ints, clamps)

pub returns-clause-greatest : goal.returns-clause-greatest
unfolding bound_limit largest_number
returns-clause-greatest c = λ h. let e = c.clamp.ensures.value in omega (arith, ints, clamps)

pub returns-clause-least : goal.returns-clause-least
unfolding bound_limit largest_number
returns-clause-least c = λ h. let e = c.clamp.ensures.value in omega (arith, ints, clamps)
