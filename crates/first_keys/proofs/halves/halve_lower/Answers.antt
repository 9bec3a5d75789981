use Rattle.std.proofs.Common.{arith}
use Rattle.std.proofs.lemmas.Int.{ints}
use Rattle.interval.specs.Limits.{bound_limit, largest_number}
use Rattle.first_keys.proofs.HalfLaws.{lower_halves, lower_nearer}
use Rattle.first_keys.proofs.halves.halve_lower.Goals as goal

pub overflow_add-result : goal.overflow_add-result
unfolding bound_limit largest_number
overflow_add-result c = omega (arith, ints)

pub returns-clause-halves : goal.returns-clause-halves
unfolding bound_limit largest_number
returns-clause-halves c =
    lower_halves c.args.low c.args.high c.middle_below-middle.result _ c.requires.low c.requires.high (omega (arith, ints)) (omega (arith, ints))
    (omega (arith, ints)) (omega (arith, ints)) (omega (arith, ints)) (omega (arith, ints))

pub returns-clause-nearer : goal.returns-clause-nearer
unfolding bound_limit largest_number
returns-clause-nearer c =
    lower_nearer c.args.low c.args.high c.args.value c.middle_below-middle.result _ (omega (arith, ints)) (omega (arith, ints)) (omega (arith, ints)) (omega (arith, ints))
    (omega (arith, ints)) (omega (arith, ints)) (omega (arith, ints)) (omega (arith, ints))
