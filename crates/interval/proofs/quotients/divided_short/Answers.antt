-- The quotient and the rest in 64 bits, which 128 bits hold as well.
use Rattle.std.proofs.Common.{◌≤◌, ℤ, sym, subst, unsigned_abs, to_z, of_z, arith}
use Rattle.interval.specs.Limits.{dividend_limit}
use Rattle.interval.specs.Quotients.{AreParts}
use Rattle.interval.proofs.QuotientLaws.{coded_quotient, coded_rest, may_divide, coded_parts, coded_small, short_quotient_fits, short_bits, short_back, rest_back, short_is_lower}
use Rattle.interval.proofs.quotients.divided_short.Goals as goal
use mir.Syntax.{w64, w128}

pub nonzero_div-result : goal.nonzero_div-result
nonzero_div-result c =
    may_divide w64 c.args.a c.args.b c.ranges.a c.ranges.b (short_quotient_fits c.args.a c.args.b c.requires.dividend) c.requires.divisor (short_bits c.args.b c.ranges.b c.requires.divisor)

pub nonzero_rem-result : goal.nonzero_rem-result
nonzero_rem-result c =
    may_divide w64 c.args.a c.args.b c.ranges.a c.ranges.b (short_quotient_fits c.args.a c.args.b c.requires.dividend) c.requires.divisor (short_bits c.args.b c.ranges.b c.requires.divisor)

pub returns-clause-parts : goal.returns-clause-parts
returns-clause-parts c =
    let fits = short_quotient_fits c.args.a c.args.b c.requires.dividend in
    let bits = short_bits c.args.b c.ranges.b c.requires.divisor in
    let q = coded_quotient w64 c.args.a c.args.b in
    let r = coded_rest w64 c.args.a c.args.b in
    let parts = coded_parts w64 c.args.a c.args.b c.ranges.a c.ranges.b fits c.requires.divisor bits in
    let small = coded_small w64 c.args.a c.args.b c.ranges.a c.ranges.b fits c.requires.divisor bits in
    let dividend = c.requires.dividend in
    let quotient = short_back q (omega arith) in
    let rest = rest_back r c.args.b c.ranges.b parts.small in
    let P : ℤ → ℤ → Type 0 = λ y z. AreParts c.args.a c.args.b y z in
    subst (λ (y : ℤ). P y (to_z w128 (of_z w128 r))) (sym quotient) (subst (P q) (sym rest) parts)

pub returns-clause-in_range : goal.returns-clause-in_range
returns-clause-in_range c =
    let fits = short_quotient_fits c.args.a c.args.b c.requires.dividend in
    let bits = short_bits c.args.b c.ranges.b c.requires.divisor in
    let q = coded_quotient w64 c.args.a c.args.b in
    let small = coded_small w64 c.args.a c.args.b c.ranges.a c.ranges.b fits c.requires.divisor bits in
    let dividend = c.requires.dividend in
    let quotient = short_back q (omega arith) in
    let N : ℤ → Type 0 = λ z. unsigned_abs z ≤ dividend_limit in
    subst N (sym quotient) (let lower = short_is_lower in omega arith)
