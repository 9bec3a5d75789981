-- The quotient is the floor, less one where the rest has the other sign than the divisor.
use Rattle.std.proofs.Common.{◌∙◌, ℤ, ◌*ℤ◌, ◌+ℤ◌, ◌<◌, unsigned_abs, refl, arith}
use Rattle.std.proofs.lemmas.Int.{ints}
use Rattle.interval.specs.Limits.{dividend_limit}
use Rattle.interval.specs.Quotients.{AreParts}
use Rattle.interval.proofs.QuotientLaws.{wide_back, wide_one_less, floor_kept_above, floor_kept_below, floor_lowered_above, floor_lowered_below}
use Rattle.interval.proofs.quotients.lowered.Goals as goal

pub overflow_sub-result : goal.overflow_sub-result
unfolding dividend_limit
overflow_sub-result c = omega (arith, ints, c.requires.in_range)

pub overflow_sub-result-then-parts-gt0 : goal.overflow_sub-result-then-parts-gt0
unfolding dividend_limit
overflow_sub-result-then-parts-gt0 c = omega (arith, ints, c.requires.in_range)

parts_of : (q r b : ℤ) → unsigned_abs r < unsigned_abs b → AreParts (q *ℤ b +ℤ r) b q r
parts_of q r b h = record { whole = refl; small = h }

pub returns-then-parts-lt0-clause-value : goal.returns-then-parts-lt0-clause-value
returns-then-parts-lt0-clause-value c =
    let q = c.args.parts.quotient in
    let r = c.args.parts.rest in
    let n = c.requires.divisor in
    wide_one_less q c.requires.in_range ∙ floor_lowered_above (q *ℤ c.args.b +ℤ r) c.args.b q r (parts_of q r c.args.b c.requires.small) (omega (arith, ints, c.if-b-gt0.true)) (omega (arith, ints, c.if-parts-lt0.true))

pub returns-else-parts-lt0-clause-value : goal.returns-else-parts-lt0-clause-value
returns-else-parts-lt0-clause-value c =
    let q = c.args.parts.quotient in
    let r = c.args.parts.rest in
    let n = c.requires.divisor in
    wide_back q c.requires.in_range ∙ floor_kept_above (q *ℤ c.args.b +ℤ r) c.args.b q r (parts_of q r c.args.b c.requires.small) (omega (arith, ints, c.if-b-gt0.true)) (omega (arith, ints, c.if-parts-lt0.false))

pub returns-then-parts-gt0-clause-value : goal.returns-then-parts-gt0-clause-value
returns-then-parts-gt0-clause-value c =
    let q = c.args.parts.quotient in
    let r = c.args.parts.rest in
    let n = c.requires.divisor in
    wide_one_less q c.requires.in_range ∙ floor_lowered_below (q *ℤ c.args.b +ℤ r) c.args.b q r (parts_of q r c.args.b c.requires.small) (omega (arith, ints, c.if-b-gt0.false)) (omega (arith, ints, c.if-parts-gt0.true))

pub returns-else-parts-gt0-clause-value : goal.returns-else-parts-gt0-clause-value
returns-else-parts-gt0-clause-value c =
    let q = c.args.parts.quotient in
    let r = c.args.parts.rest in
    let n = c.requires.divisor in
    wide_back q c.requires.in_range ∙ floor_kept_below (q *ℤ c.args.b +ℤ r) c.args.b q r (parts_of q r c.args.b c.requires.small) (omega (arith, ints, c.if-b-gt0.false)) (omega (arith, ints, c.if-parts-gt0.false))
