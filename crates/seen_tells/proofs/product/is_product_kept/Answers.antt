-- The products are those of the bounds.
use Rattle.std.proofs.Common.{◌≡◌, ℤ, subst, ◌*ℤ◌, ◌∙◌, to_z, of_z, FitsSigned, rules, arith}
use Rattle.std.proofs.lemmas.Bool.{OnTrue_from}
use Rattle.std.proofs.lemmas.Int.{ints, to_z-of_z}
use mir.Syntax.{w64}
use Rattle.interval.specs.Boxes.{low_of, high_of}
use Rattle.interval.specs.Limits.{IsBound}
use Rattle.std.specs.List.{All}
use Rattle.guarded_tell.specs.Words.{Keeps}
use Rattle.arithmetic_tells.specs.Times.{product_tells}
use Rattle.seen_tells.proofs.NaturalLaws.{read, product_kept}
use Rattle.seen_tells.proofs.product.is_product_kept.Goals as goal

pub returns-then-product-low : goal.returns-then-product-low
returns-then-product-low c =
    let low = read c.low.result (search rules) ∙ c.low.ensures.value in
    let low-2 = read c.low-2.result (search rules) ∙ c.low-2.ensures.value in
    let high = read c.high-then-product-low.result (search rules) ∙ c.high-then-product-low.ensures.value in
    let high-2 = read c.high-then-product-low-2.result (search rules) ∙ c.high-then-product-low-2.ensures.value in
    let z_low_fits : FitsSigned w64 c.low-3.result = search rules in
    let z_high_fits : FitsSigned w64 c.high.result = search rules in
    let from_fits : FitsSigned w64 c.product.result = search rules in
    let to_fits : FitsSigned w64 c.product-then-product-low.result = search rules in
    let z_low = to_z-of_z w64 c.low-3.result z_low_fits ∙ c.low-3.ensures.value in
    let z_high = to_z-of_z w64 c.high.result z_high_fits ∙ c.high.ensures.value in
    let from : to_z w64 (of_z w64 c.product.result) ≡ low_of c.args.b.now c.args.x *ℤ low_of c.args.b.now c.args.y =
    to_z-of_z w64 c.product.result from_fits ∙ c.product.ensures ∙ (λ i. (low i *ℤ low-2 i)) in
    let to : to_z w64 (of_z w64 c.product-then-product-low.result) ≡ high_of c.args.b.now c.args.x *ℤ high_of c.args.b.now c.args.y =
    to_z-of_z w64 c.product-then-product-low.result to_fits ∙ c.product-then-product-low.ensures ∙ (λ i. (high i *ℤ high-2 i)) in
    let first = c.if-product-low.true in
    let P : ℤ → Type 0 = λ n. IsBound n in
    OnTrue_from _ (All (Keeps c.args.b.now) (product_tells c.args.x c.args.y c.args.z c.args.b.now)) (λ e.
    product_kept c.args.b.now c.args.x c.args.y c.args.z c.requires.natural c.law_clamp_order.ensures
    (subst P c.low-3.ensures.value c.low-3.ensures.in_range) (subst P c.high.ensures.value c.high.ensures.in_range) (omega (arith, ints)) (omega (arith, ints)))
