-- The tell of a term by the sign of its coefficient.
use Rattle.std.proofs.Common.{List, ℤ, pos, ◌-ℤ◌, ◌*ℤ◌, ◌≤ℤ◌, ◌<ℤ◌, sym, subst, ◌∙◌, arith}
use Rattle.std.proofs.lemmas.Int.{ints, to_z-of_z}
use mir.Syntax.{w64}
use Rattle.tells.specs.declared.tell.Tell.{Tell}
use Rattle.tells.specs.Hearing.{MayHearAll, HearsAll}
use Rattle.tell_laws.specs.Narrowing.{narrowing}
use Rattle.interval.specs.Boxes.{low_of, high_of}
use Rattle.small_sums.specs.Short.{growth_limit}
use Rattle.short_tells.proofs.GrowthLaws.{growth_above, growth_below}
use Rattle.sum_tells.proofs.ProductLaws.{coded_number}
use Rattle.short_tells.proofs.ShortTellLaws.{rise_above, rise_below, coded_opposite}
use Rattle.short_tells.proofs.short_terms.narrow_rise_by.Goals as goal

pub narrow_high-requires-clause-hearer : goal.narrow_high-requires-clause-hearer
narrow_high-requires-clause-hearer g c =
    let number = coded_number c.args.term.0 c.requires.coefficient in
    let sign : pos 0 <ℤ c.args.term.0 = omega (arith, ints, c.if-term-gt0.true, number) in
    let P : List Tell → Type 0 = λ ts. MayHearAll g.H.Hear.can_hear g.H.Hear.hears c.args.h.now (narrowing c.args.b.now ts) in
    subst P (rise_above c.law_quotient_order.ensures c.args.b.now c.args.term.0 c.args.term.1 c.requires.proper c.args.slack _ _ (to_z-of_z w64 c.args.slack c.ranges.slack) sign number) c.requires.hearer

pub returns-then-term-gt0 : goal.returns-then-term-gt0
returns-then-term-gt0 g c =
    let number = coded_number c.args.term.0 c.requires.coefficient in
    let sign : pos 0 <ℤ c.args.term.0 = omega (arith, ints, c.if-term-gt0.true, number) in
    let P : List Tell → Type 0 = λ ts. HearsAll g.H.Hear.hears c.args.h.now (narrowing c.args.b.now ts) c.narrow_high.new.h in
    subst P (sym (rise_above c.law_quotient_order.ensures c.args.b.now c.args.term.0 c.args.term.1 c.requires.proper c.args.slack _ _ (to_z-of_z w64 c.args.slack c.ranges.slack) sign number)) c.narrow_high.ensures

pub narrow_low-requires-clause-size : goal.narrow_low-requires-clause-size
narrow_low-requires-clause-size g c =
    let number = coded_number c.args.term.0 c.requires.coefficient in
    let sign : c.args.term.0 <ℤ pos 0 = omega (arith, ints, c.if-term-lt0.true, number) in
    let size = coded_opposite c.args.term.0 c.opposite.result c.requires.coefficient c.opposite.ensures in
    omega (arith, ints)

pub narrow_low-requires-clause-hearer : goal.narrow_low-requires-clause-hearer
narrow_low-requires-clause-hearer g c =
    let number = coded_number c.args.term.0 c.requires.coefficient in
    let sign : c.args.term.0 <ℤ pos 0 = omega (arith, ints, c.if-term-lt0.true, number) in
    let size = coded_opposite c.args.term.0 c.opposite.result c.requires.coefficient c.opposite.ensures in
    let P : List Tell → Type 0 = λ ts. MayHearAll g.H.Hear.can_hear g.H.Hear.hears c.args.h.now (narrowing c.args.b.now ts) in
    subst P (rise_below c.law_quotient_order.ensures c.args.b.now c.args.term.0 c.args.term.1 c.requires.proper c.args.slack _ _ (to_z-of_z w64 c.args.slack c.ranges.slack) sign size) c.requires.hearer

pub returns-then-term-lt0 : goal.returns-then-term-lt0
returns-then-term-lt0 g c =
    let number = coded_number c.args.term.0 c.requires.coefficient in
    let sign : c.args.term.0 <ℤ pos 0 = omega (arith, ints, c.if-term-lt0.true, number) in
    let size = coded_opposite c.args.term.0 c.opposite.result c.requires.coefficient c.opposite.ensures in
    let P : List Tell → Type 0 = λ ts. HearsAll g.H.Hear.hears c.args.h.now (narrowing c.args.b.now ts) c.narrow_low.new.h in
    subst P (sym (rise_below c.law_quotient_order.ensures c.args.b.now c.args.term.0 c.args.term.1 c.requires.proper c.args.slack _ _ (to_z-of_z w64 c.args.slack c.ranges.slack) sign size)) c.narrow_low.ensures

pub narrow_high-requires-clause-growth : goal.narrow_high-requires-clause-growth
narrow_high-requires-clause-growth g c =
    let b = c.args.b.now in
    let x = c.args.term.1 in
    let number = coded_number c.args.term.0 c.requires.coefficient in
    let sign : pos 0 <ℤ c.args.term.0 = omega (arith, ints, c.if-term-gt0.true, number) in
    let P : ℤ → Type 0 = λ z. z ≤ℤ pos growth_limit in
    subst P (growth_above b c.args.term.0 x c.requires.proper sign ∙ (λ i. (high_of b x -ℤ low_of b x) *ℤ sym number i)) c.requires.growth.short

pub narrow_low-requires-clause-growth : goal.narrow_low-requires-clause-growth
narrow_low-requires-clause-growth g c =
    let b = c.args.b.now in
    let x = c.args.term.1 in
    let number = coded_number c.args.term.0 c.requires.coefficient in
    let sign : c.args.term.0 <ℤ pos 0 = omega (arith, ints, c.if-term-lt0.true, number) in
    let size = coded_opposite c.args.term.0 c.opposite.result c.requires.coefficient c.opposite.ensures in
    let P : ℤ → Type 0 = λ z. z ≤ℤ pos growth_limit in
    subst P (growth_below b c.args.term.0 x c.requires.proper sign ∙ (λ i. (high_of b x -ℤ low_of b x) *ℤ sym size i)) c.requires.growth.short
