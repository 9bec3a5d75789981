-- The product is exact.
use Rattle.std.proofs.Common.{◌≡◌, ◌*ℤ◌, ◌∙◌, FitsSigned, arith, rules}
use Rattle.std.proofs.lemmas.Bool.{OnTrue_from}
use Rattle.std.proofs.lemmas.Int.{ints, clamps, to_z-of_z}
use mir.Syntax.{w64, w128}
use Rattle.arithmetic_tells.specs.Products.{IsUnderOne}
use Rattle.arithmetic_tells.proofs.products.is_under_one.Goals as goal

pub returns-then-z-product : goal.returns-then-z-product
returns-then-z-product c =
    let f : FitsSigned w128 c.product.result = search rules in
    let g : FitsSigned w64 c.args.y.1 = search rules in
    let exact : c.product.result ≡ c.args.factor *ℤ c.args.y.1 =
    c.product.ensures ∙ (λ i. to_z-of_z w64 c.args.factor c.ranges.factor i *ℤ to_z-of_z w64 c.args.y.1 g i) in
    OnTrue_from _ (IsUnderOne c.args.z c.args.factor c.args.y) (λ e. omega (arith, ints, clamps, exact, e))

pub returns-else-z-product : goal.returns-else-z-product
returns-else-z-product c =
    let f : FitsSigned w128 c.product-else-z-product.result = search rules in
    let g : FitsSigned w64 c.args.y.0 = search rules in
    let exact : c.product-else-z-product.result ≡ c.args.factor *ℤ c.args.y.0 =
    c.product-else-z-product.ensures ∙ (λ i. to_z-of_z w64 c.args.factor c.ranges.factor i *ℤ to_z-of_z w64 c.args.y.0 g i) in
    OnTrue_from _ (IsUnderOne c.args.z c.args.factor c.args.y) (λ e. omega (arith, ints, clamps, exact, e))
