-- One after the other.
use Rattle.std.proofs.Common.{[], refl}
use Rattle.tell_laws.specs.Narrowing.{narrowing}
use Rattle.seen_tells.proofs.NaturalLaws.{least_product_tells, few_of_product}
use Rattle.seen_tells.proofs.product.few_products.Goals as goal

pub returns : goal.returns
returns c =
    few_of_product c.args.b.now c.args.x c.args.y c.args.z c.requires.natural _
    (c.with_greatest_product.ensures (narrowing c.args.b.now (least_product_tells c.args.b.now c.args.x c.args.y c.args.z c.requires.natural)) (c.with_least_product-seen.ensures [] (refl, refl)))
