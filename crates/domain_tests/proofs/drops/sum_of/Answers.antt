-- The lists are those of the two terms.
use Rattle.std.proofs.Common.{◌∙◌, arith}
use Rattle.std.proofs.lemmas.Int.{ints}
use Rattle.interval.specs.Limits.{largest_number}
use Rattle.domain_tests.proofs.Examples.{linear_made}
use Rattle.domain_tests.proofs.drops.sum_of.Goals as goal

pub equal-requires-clause-linear : goal.equal-requires-clause-linear
unfolding largest_number
equal-requires-clause-linear c =
    let first = c.requires.first in
    let second = c.requires.second in
    let limit = c.requires.limit in
    linear_made _ _ _ _ _ _ _
    (c.from_list.ensures ∙ c.in_ok-coeffs.ensures ∙ c.in_ok-vec.ensures.items)
    (c.from_list-2.ensures ∙ c.in_ok-vars.ensures ∙ c.in_ok-vec-2.ensures.items)
    (omega (arith, ints)) (omega (arith, ints)) (omega (arith, ints))
