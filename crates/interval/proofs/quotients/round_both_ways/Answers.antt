-- The rest is nearer to zero than the divisor, which fits 64 bits.
use Rattle.std.proofs.Common.{arith}
use Rattle.std.proofs.lemmas.Int.{ints}
use Rattle.interval.specs.Limits.{dividend_limit}
use Rattle.interval.proofs.quotients.round_both_ways.Goals as goal

pub raised-requires-clause-rest_in_range : goal.raised-requires-clause-rest_in_range
unfolding dividend_limit
raised-requires-clause-rest_in_range c = let s = c.divided_short-parts.ensures.parts.small in omega (arith, ints)
