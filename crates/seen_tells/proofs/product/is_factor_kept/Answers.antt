-- The products are those of the bounds.
use Rattle.std.proofs.Common.{◌≡◌, ◌*ℤ◌, ◌∙◌, to_z, of_z, FitsSigned, rules, arith}
use Rattle.std.proofs.lemmas.Bool.{OnTrue_from}
use Rattle.std.proofs.lemmas.Int.{ints, to_z-of_z}
use mir.Syntax.{w64}
use Rattle.interval.specs.Boxes.{low_of, high_of}
use Rattle.std.specs.List.{All}
use Rattle.guarded_tell.specs.Words.{Keeps}
use Rattle.arithmetic_tells.specs.Times.{factor_tells}
use Rattle.seen_tells.proofs.NaturalLaws.{read, factor_kept}
use Rattle.seen_tells.proofs.product.is_factor_kept.Goals as goal

pub returns-then-low-product : goal.returns-then-low-product
returns-then-low-product c =
    let low-2 = read c.low-2.result (search rules) ∙ c.low-2.ensures.value in
    let high = read c.high.result (search rules) ∙ c.high.ensures.value in
    let high-then = read c.high-then-low-product.result (search rules) ∙ c.high-then-low-product.ensures.value in
    let low-then = read c.low-then-low-product.result (search rules) ∙ c.low-then-low-product.ensures.value in
    let z_low_fits : FitsSigned w64 c.low.result = search rules in
    let z_high_fits : FitsSigned w64 c.high-then-low-product-2.result = search rules in
    let from_fits : FitsSigned w64 c.product.result = search rules in
    let to_fits : FitsSigned w64 c.product-then-low-product.result = search rules in
    let z_low = to_z-of_z w64 c.low.result z_low_fits ∙ c.low.ensures.value in
    let z_high = to_z-of_z w64 c.high-then-low-product-2.result z_high_fits ∙ c.high-then-low-product-2.ensures.value in
    let from : to_z w64 (of_z w64 c.product.result) ≡ low_of c.args.b.now c.args.x *ℤ high_of c.args.b.now c.args.y =
    to_z-of_z w64 c.product.result from_fits ∙ c.product.ensures ∙ (λ i. (low-2 i *ℤ high i)) in
    let to : to_z w64 (of_z w64 c.product-then-low-product.result) ≡ high_of c.args.b.now c.args.x *ℤ low_of c.args.b.now c.args.y =
    to_z-of_z w64 c.product-then-low-product.result to_fits ∙ c.product-then-low-product.ensures ∙ (λ i. (high-then i *ℤ low-then i)) in
    let first = c.if-low-product.true in
    OnTrue_from _ (All (Keeps c.args.b.now) (factor_tells c.args.x c.args.y c.args.z c.args.b.now)) (λ e.
    factor_kept c.args.b.now c.args.x c.args.y c.args.z c.requires.natural c.law_clamp_order.ensures c.law_quotient_order.ensures (omega (arith, ints)) (omega (arith, ints)))
