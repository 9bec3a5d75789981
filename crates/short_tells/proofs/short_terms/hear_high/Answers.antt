-- The bound lies inside the variable's bounds, so that it narrows.
use Rattle.std.proofs.Common.{◌≡◌, ◌+ℤ◌, List, FitsSigned, to_z, of_z, refl, sym, subst, ◌∙◌, arith, rules}
use Rattle.std.proofs.lemmas.Int.{ints, to_z-of_z}
use mir.Syntax.{w64}
use Rattle.tells.specs.declared.tell.Side.TheVariants.{High}
use Rattle.tells.specs.declared.tell.Tell.{Tell}
use Rattle.interval.specs.Boxes.{low_of, high_of}
use Rattle.interval.specs.Quotients.{floor_of}
use Rattle.tells.specs.Hearing.{MayHearAll, HearsAll}
use Rattle.small_sums.proofs.ShortLaws.{bound_of}
use Rattle.small_sums.proofs.SlightLaws.{bound_read}
use Rattle.short_tells.proofs.GrowthLaws.{steps_above, steps_inside, high_told, high_value}
use Rattle.short_tells.proofs.short_terms.hear_high.Goals as goal

pub hear-requires : goal.hear-requires
hear-requires g c =
    let b = c.args.b.now in
    let x = c.args.var in
    let low = bound_of c.low-low.result (low_of b x) c.low-low.ensures.in_range c.low-low.ensures.value in
    let high = bound_of c.high-high.result (high_of b x) c.high-high.ensures.in_range c.high-high.ensures.value in
    let quotients = c.law_quotient_order.ensures in
    let n = floor_of c.args.slack c.args.size in
    let above = steps_above quotients c.args.size c.args.slack (low_of b x) (high_of b x) c.requires.size c.requires.above_zero c.requires.wide in
    let inside = steps_inside quotients c.args.size c.args.slack (low_of b x) (high_of b x) c.requires.size c.requires.above_zero c.requires.wide in
    let f : FitsSigned w64 c.steps.result = search rules in
    let steps : to_z w64 (of_z w64 c.steps.result) ≡ n = to_z-of_z w64 c.steps.result f ∙ c.steps.ensures.value ∙ (λ i. floor_of (to_z-of_z w64 c.args.slack c.ranges.slack i) (to_z-of_z w64 c.args.size c.ranges.size i)) in
    let read = bound_read c.low-low.result (low_of b x) c.low-low.ensures.in_range c.low-low.ensures.value in
    let value : to_z w64 (of_z w64 (to_z w64 (of_z w64 c.low-low.result) +ℤ to_z w64 (of_z w64 c.steps.result))) ≡ low_of b x +ℤ n =
    (λ i. to_z w64 (of_z w64 (read i +ℤ steps i))) ∙ high_value (low_of b x) (high_of b x) n low high above inside in
    let told = high_told c.law_clamp_order.ensures b x (low_of b x +ℤ n) low high (omega (arith, ints)) (omega (arith, ints)) _ (λ i. record { var = x; side = High; bound = value i }) in
    let P : List Tell → Type 0 = λ ts. MayHearAll g.H.Hear.can_hear g.H.Hear.hears c.args.h.now ts in
    (subst P told c.requires.hearer).0

pub returns : goal.returns
returns g c =
    let b = c.args.b.now in
    let x = c.args.var in
    let low = bound_of c.low-low.result (low_of b x) c.low-low.ensures.in_range c.low-low.ensures.value in
    let high = bound_of c.high-high.result (high_of b x) c.high-high.ensures.in_range c.high-high.ensures.value in
    let quotients = c.law_quotient_order.ensures in
    let n = floor_of c.args.slack c.args.size in
    let above = steps_above quotients c.args.size c.args.slack (low_of b x) (high_of b x) c.requires.size c.requires.above_zero c.requires.wide in
    let inside = steps_inside quotients c.args.size c.args.slack (low_of b x) (high_of b x) c.requires.size c.requires.above_zero c.requires.wide in
    let f : FitsSigned w64 c.steps.result = search rules in
    let steps : to_z w64 (of_z w64 c.steps.result) ≡ n = to_z-of_z w64 c.steps.result f ∙ c.steps.ensures.value ∙ (λ i. floor_of (to_z-of_z w64 c.args.slack c.ranges.slack i) (to_z-of_z w64 c.args.size c.ranges.size i)) in
    let read = bound_read c.low-low.result (low_of b x) c.low-low.ensures.in_range c.low-low.ensures.value in
    let value : to_z w64 (of_z w64 (to_z w64 (of_z w64 c.low-low.result) +ℤ to_z w64 (of_z w64 c.steps.result))) ≡ low_of b x +ℤ n =
    (λ i. to_z w64 (of_z w64 (read i +ℤ steps i))) ∙ high_value (low_of b x) (high_of b x) n low high above inside in
    let told = high_told c.law_clamp_order.ensures b x (low_of b x +ℤ n) low high (omega (arith, ints)) (omega (arith, ints)) _ (λ i. record { var = x; side = High; bound = value i }) in
    let P : List Tell → Type 0 = λ ts. HearsAll g.H.Hear.hears c.args.h.now ts c.hear.new.self in
    subst P (sym told) (c.hear.new.self, c.hear.ensures, refl)
