use Rattle.std.proofs.Common.{arith}
use Rattle.std.specs.Prelude.{pos, ◌-ℤ◌}
use Rattle.std.proofs.lemmas.Int.{ints}
use Rattle.interval.specs.Limits.{bound_limit, largest_number}
use Rattle.first_keys.proofs.HalfLaws.{upper_halves, upper_nearer}
use Rattle.first_keys.proofs.halves.halve_upper.Goals as goal

pub overflow_sub-result : goal.overflow_sub-result
unfolding bound_limit largest_number
overflow_sub-result c = omega (arith, ints)

pub returns-clause-halves : goal.returns-clause-halves
unfolding bound_limit largest_number
returns-clause-halves c =
    upper_halves c.args.low c.args.high (pos 0 -ℤ c.middle_below-middle.result) _ c.requires.low c.requires.high (omega (arith, ints)) (omega (arith, ints))
    (omega (arith, ints)) (omega (arith, ints)) (omega (arith, ints)) (omega (arith, ints))

pub returns-clause-nearer : goal.returns-clause-nearer
unfolding bound_limit largest_number
returns-clause-nearer c =
    upper_nearer c.args.low c.args.high c.args.value (pos 0 -ℤ c.middle_below-middle.result) _ (omega (arith, ints)) (omega (arith, ints)) (omega (arith, ints)) (omega (arith, ints))
    (omega (arith, ints)) (omega (arith, ints)) (omega (arith, ints)) (omega (arith, ints))
