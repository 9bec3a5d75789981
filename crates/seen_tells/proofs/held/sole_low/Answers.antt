-- The bound as the code forms it.
use Rattle.std.proofs.Common.{◌∙◌, ◌-ℤ◌, ℤ, FitsSigned, subst, rules, arith}
use Rattle.std.proofs.lemmas.Int.{ints, to_z-of_z}
use mir.Syntax.{w64}
use Rattle.tells.specs.declared.tell.Side.TheVariants.{Low}
use Rattle.interval.specs.Limits.{IsBound, bound_limit, largest_number}
use Rattle.interval.specs.Boxes.{high_of}
use Rattle.short_tells.proofs.GrowthLaws.{low_told}
use Rattle.seen_tells.proofs.held.sole_low.Goals as goal

pub lowered-bound-requires : goal.lowered-bound-requires
unfolding bound_limit largest_number
lowered-bound-requires c =
    let p = c.high.ensures.in_range in let value = c.high.ensures.value in
    let q = c.requires.in_range in let h = c.requires.narrows in let s = c.requires.slack in let r = c.ranges.slack in
    omega (arith, ints)

pub returns-clause-one : goal.returns-clause-one
returns-clause-one c =
    let b = c.args.b.now in
    let v = c.args.var in
    let high_fits : FitsSigned w64 c.high.result = search rules in
    let fits : FitsSigned w64 c.lowered-bound.result = search rules in
    let bound = to_z-of_z w64 c.lowered-bound.result fits ∙ c.lowered-bound.ensures ∙ (λ i. (to_z-of_z w64 c.high.result high_fits ∙ c.high.ensures.value) i -ℤ to_z-of_z w64 c.args.slack c.ranges.slack i) in
    let s = c.requires.slack in
    low_told c.law_clamp_order.ensures b v (high_of b v -ℤ c.args.slack)
    c.requires.in_range (subst (λ (z : ℤ). IsBound z) c.high.ensures.value c.high.ensures.in_range) c.requires.narrows (omega (arith, ints))
    c.one.result.tell (c.one.ensures.tell ∙ (λ i. record { var = v; side = Low; bound = bound i }))
