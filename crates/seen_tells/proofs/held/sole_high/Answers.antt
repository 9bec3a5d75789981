-- The bound as the code forms it.
use Rattle.std.proofs.Common.{◌∙◌, ◌+ℤ◌, ℤ, FitsSigned, subst, rules, arith}
use Rattle.std.proofs.lemmas.Int.{ints, to_z-of_z}
use mir.Syntax.{w64}
use Rattle.tells.specs.declared.tell.Side.TheVariants.{High}
use Rattle.interval.specs.Limits.{IsBound, bound_limit, largest_number}
use Rattle.interval.specs.Boxes.{low_of}
use Rattle.short_tells.proofs.GrowthLaws.{high_told}
use Rattle.seen_tells.proofs.held.sole_high.Goals as goal

pub raised-bound-requires : goal.raised-bound-requires
unfolding bound_limit largest_number
raised-bound-requires c =
    let p = c.low.ensures.in_range in let value = c.low.ensures.value in
    let q = c.requires.in_range in let h = c.requires.narrows in let s = c.requires.slack in let r = c.ranges.slack in
    omega (arith, ints)

pub returns-clause-one : goal.returns-clause-one
returns-clause-one c =
    let b = c.args.b.now in
    let v = c.args.var in
    let low_fits : FitsSigned w64 c.low.result = search rules in
    let fits : FitsSigned w64 c.raised-bound.result = search rules in
    let bound = to_z-of_z w64 c.raised-bound.result fits ∙ c.raised-bound.ensures ∙ (λ i. (to_z-of_z w64 c.low.result low_fits ∙ c.low.ensures.value) i +ℤ to_z-of_z w64 c.args.slack c.ranges.slack i) in
    let s = c.requires.slack in
    high_told c.law_clamp_order.ensures b v (low_of b v +ℤ c.args.slack)
    (subst (λ (z : ℤ). IsBound z) c.low.ensures.value c.low.ensures.in_range) c.requires.in_range (omega (arith, ints)) c.requires.narrows
    c.one.result.tell (c.one.ensures.tell ∙ (λ i. record { var = v; side = High; bound = bound i }))
