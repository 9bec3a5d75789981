use Rattle.interval.proofs.QuotientLaws.{may_divide, coded_parts, wide_quotient_fits, wide_bits}
use Rattle.interval.proofs.quotients.divided_wide.Goals as goal
use mir.Syntax.{w128}

pub nonzero_div-result : goal.nonzero_div-result
nonzero_div-result c =
    may_divide w128 c.args.a c.args.b c.ranges.a c.ranges.b (wide_quotient_fits c.args.a c.args.b c.requires.dividend) c.requires.divisor (wide_bits c.args.b c.ranges.b c.requires.divisor)

pub nonzero_rem-result : goal.nonzero_rem-result
nonzero_rem-result c =
    may_divide w128 c.args.a c.args.b c.ranges.a c.ranges.b (wide_quotient_fits c.args.a c.args.b c.requires.dividend) c.requires.divisor (wide_bits c.args.b c.ranges.b c.requires.divisor)

pub returns-clause-parts : goal.returns-clause-parts
returns-clause-parts c =
    coded_parts w128 c.args.a c.args.b c.ranges.a c.ranges.b (wide_quotient_fits c.args.a c.args.b c.requires.dividend) c.requires.divisor (wide_bits c.args.b c.ranges.b c.requires.divisor)
