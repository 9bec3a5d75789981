-- The product is exact.
use Rattle.std.proofs.Common.{ℤ, ◌≤◌, unsigned_abs, sym, subst, ◌∙◌, FitsSigned, rules, arith}
use Rattle.std.proofs.lemmas.Int.{ints, to_z-of_z}
use mir.Syntax.{w64}
use Rattle.small_sums.specs.Short.{growth_limit}
use Rattle.short_tells.proofs.GrowthLaws.{coded_span, span_short}
use Rattle.short_tells.proofs.short_terms.span.Goals as goal

pub short_product-requires : goal.short_product-requires
short_product-requires c =
    let w : FitsSigned w64 c.width.result = search rules in
    let P : ℤ → Type 0 = λ z. unsigned_abs z ≤ growth_limit in
    subst P (sym (coded_span c.width.result c.args.low c.args.high c.args.size w c.ranges.low c.ranges.high c.ranges.size c.width.ensures))
    (span_short _ c.args.size (omega (arith, ints)) c.requires.size c.requires.short)

pub returns : goal.returns
returns c =
    let w : FitsSigned w64 c.width.result = search rules in
    let p : FitsSigned w64 c.short_product.result = search rules in
    to_z-of_z w64 c.short_product.result p ∙ c.short_product.ensures
    ∙ coded_span c.width.result c.args.low c.args.high c.args.size w c.ranges.low c.ranges.high c.ranges.size c.width.ensures
