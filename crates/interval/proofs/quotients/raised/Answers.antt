-- The ceiling is minus the floor of the opposite, whose parts are the opposite ones.
use Rattle.std.proofs.Common.{◌≡◌, ◌∙◌, ap, ℤ, neg_ℤ, ◌*ℤ◌, ◌+ℤ◌, arith}
use Rattle.std.proofs.lemmas.Int.{ints, to_z-of_z}
use Rattle.interval.specs.Limits.{dividend_limit}
use Rattle.interval.specs.Quotients.{floor_of, ceiling_of}
use Rattle.interval.proofs.QuotientLaws.{opposite_times}
use Rattle.interval.proofs.quotients.raised.Goals as goal
use mir.Syntax.{w128}

opposite_whole : (q r b : ℤ) → (neg_ℤ q *ℤ b) +ℤ neg_ℤ r ≡ neg_ℤ ((q *ℤ b) +ℤ r)
opposite_whole q r b = let e = opposite_times q b in omega (arith, ints)

pub overflow_sub-result : goal.overflow_sub-result
unfolding dividend_limit
overflow_sub-result c = omega (arith, ints, c.lowered.ensures.in_range)

pub returns : goal.returns
unfolding ceiling_of dividend_limit
returns c =
    let q = c.args.parts.quotient in
    let r = c.args.parts.rest in
    let b = c.args.b in
    let is : c.lowered.result ≡ floor_of (neg_ℤ ((q *ℤ b) +ℤ r)) b =
    c.lowered.ensures.value
    ∙ (λ i. floor_of ((c.opposite.ensures.quotient i *ℤ to_z-of_z w128 b c.ranges.b i) +ℤ c.opposite.ensures.rest i) (to_z-of_z w128 b c.ranges.b i))
    ∙ ap (λ (z : ℤ). floor_of z b) (opposite_whole q r b) in
    let e = ap neg_ℤ is in
    let s = c.lowered.ensures.in_range in
    omega (arith, ints)
