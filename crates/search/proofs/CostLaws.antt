-- Costs are numbers of a model.
use Rattle.std.proofs.Common.{ℤ, neg_ℤ, arith}
use Rattle.std.proofs.lemmas.Int.{ints}
use Rattle.interval.specs.Limits.{IsNumber}

pub number_of_negated : (z : ℤ) → IsNumber (neg_ℤ z) → IsNumber z
number_of_negated z h = omega (arith, ints, h)
