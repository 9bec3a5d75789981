-- The products lie as far apart as the bounds, times the coefficient's size.
use Rattle.std.proofs.Common.{ℤ, pos, ◌-ℤ◌, ◌*ℤ◌, ◌≤ℤ◌, ◌<ℤ◌, FitsSigned, sym, subst, ◌∙◌, rules, arith}
use Rattle.std.proofs.lemmas.Int.{ints, to_z-of_z}
use mir.Syntax.{w64}
use Rattle.small_sums.specs.Short.{growth_limit}
use Rattle.sum_tells.proofs.ProductLaws.{coded_number}
use Rattle.short_tells.proofs.ShortTellLaws.{coded_opposite}
use Rattle.short_tells.proofs.GrowthLaws.{apart_above, apart_below}
use Rattle.short_tells.proofs.short_terms.growth.Goals as goal

pub span-requires-clause-short : goal.span-requires-clause-short
span-requires-clause-short c =
    let number = coded_number c.args.coeff c.requires.coefficient in
    let sign : c.args.coeff <ℤ pos 0 = omega (arith, ints, c.if-coeff-lt0.true, number) in
    let size = coded_opposite c.args.coeff c.opposite.result c.requires.coefficient c.opposite.ensures in
    let P : ℤ → Type 0 = λ z. z ≤ℤ pos growth_limit in
    subst P (apart_below c.args.coeff c.args.low c.args.high sign c.requires.proper
    ∙ (λ i. (sym (to_z-of_z w64 c.args.high c.ranges.high) i -ℤ sym (to_z-of_z w64 c.args.low c.ranges.low) i) *ℤ sym size i)) c.requires.short

pub span-requires-else-coeff-lt0-clause-short : goal.span-requires-else-coeff-lt0-clause-short
span-requires-else-coeff-lt0-clause-short c =
    let number = coded_number c.args.coeff c.requires.coefficient in
    let sign : pos 0 ≤ℤ c.args.coeff = omega (arith, ints, c.if-coeff-lt0.false, number) in
    let P : ℤ → Type 0 = λ z. z ≤ℤ pos growth_limit in
    subst P (apart_above c.args.coeff c.args.low c.args.high sign c.requires.proper
    ∙ (λ i. (sym (to_z-of_z w64 c.args.high c.ranges.high) i -ℤ sym (to_z-of_z w64 c.args.low c.ranges.low) i) *ℤ sym number i)) c.requires.short

pub returns-then-coeff-lt0 : goal.returns-then-coeff-lt0
returns-then-coeff-lt0 c =
    let number = coded_number c.args.coeff c.requires.coefficient in
    let sign : c.args.coeff <ℤ pos 0 = omega (arith, ints, c.if-coeff-lt0.true, number) in
    let size = coded_opposite c.args.coeff c.opposite.result c.requires.coefficient c.opposite.ensures in
    let f : FitsSigned w64 c.span.result = search rules in
    to_z-of_z w64 c.span.result f ∙ c.span.ensures
    ∙ (λ i. (to_z-of_z w64 c.args.high c.ranges.high i -ℤ to_z-of_z w64 c.args.low c.ranges.low i) *ℤ size i)
    ∙ sym (apart_below c.args.coeff c.args.low c.args.high sign c.requires.proper)

pub returns-else-coeff-lt0 : goal.returns-else-coeff-lt0
returns-else-coeff-lt0 c =
    let number = coded_number c.args.coeff c.requires.coefficient in
    let sign : pos 0 ≤ℤ c.args.coeff = omega (arith, ints, c.if-coeff-lt0.false, number) in
    let f : FitsSigned w64 c.span-else-coeff-lt0.result = search rules in
    to_z-of_z w64 c.span-else-coeff-lt0.result f ∙ c.span-else-coeff-lt0.ensures
    ∙ (λ i. (to_z-of_z w64 c.args.high c.ranges.high i -ℤ to_z-of_z w64 c.args.low c.ranges.low i) *ℤ number i)
    ∙ sym (apart_above c.args.coeff c.args.low c.args.high sign c.requires.proper)
