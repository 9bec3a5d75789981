-- The product is exact.
use Rattle.std.proofs.Common.{◌≡◌, ◌*ℤ◌, ◌∙◌, FitsSigned, arith, rules}
use Rattle.std.proofs.lemmas.Bool.{OnTrue_from}
use Rattle.std.proofs.lemmas.Int.{ints, clamps, to_z-of_z}
use mir.Syntax.{w64, w128}
use Rattle.arithmetic_tells.specs.Products.{IsOverOne}
use Rattle.arithmetic_tells.proofs.products.is_over_one.Goals as goal

pub returns-then-product-z : goal.returns-then-product-z
returns-then-product-z c =
    let f : FitsSigned w128 c.product.result = search rules in
    let g : FitsSigned w64 c.args.y.0 = search rules in
    let exact : c.product.result ≡ c.args.factor *ℤ c.args.y.0 =
    c.product.ensures ∙ (λ i. to_z-of_z w64 c.args.factor c.ranges.factor i *ℤ to_z-of_z w64 c.args.y.0 g i) in
    OnTrue_from _ (IsOverOne c.args.z c.args.factor c.args.y) (λ e. omega (arith, ints, clamps, exact, e))

pub returns-else-product-z : goal.returns-else-product-z
returns-else-product-z c =
    let f : FitsSigned w128 c.product-else-product-z.result = search rules in
    let g : FitsSigned w64 c.args.y.1 = search rules in
    let exact : c.product-else-product-z.result ≡ c.args.factor *ℤ c.args.y.1 =
    c.product-else-product-z.ensures ∙ (λ i. to_z-of_z w64 c.args.factor c.ranges.factor i *ℤ to_z-of_z w64 c.args.y.1 g i) in
    OnTrue_from _ (IsOverOne c.args.z c.args.factor c.args.y) (λ e. omega (arith, ints, clamps, exact, e))
