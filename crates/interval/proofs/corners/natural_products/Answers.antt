-- The products of the lows and of the highs are exact, and are the corners.
use Rattle.std.proofs.Common.{◌*ℤ◌, rules}
use Rattle.interval.specs.Corners.{least_product, greatest_product}
use Rattle.interval.proofs.NaturalCorners.{natural_least, natural_greatest, same_wide}
use Rattle.interval.proofs.corners.natural_products.Goals as goal

pub returns-clause-least : goal.returns-clause-least
returns-clause-least c =
    same_wide (λ a b. a *ℤ b) c.product.result c.args.x.0 c.args.y.0 (least_product c.args.x c.args.y) (search rules) (search rules) (search rules) c.product.ensures
    (natural_least c.args.x c.args.y c.requires.x_above_zero c.requires.x_order c.requires.y_above_zero c.requires.y_order)

pub returns-clause-greatest : goal.returns-clause-greatest
returns-clause-greatest c =
    same_wide (λ a b. a *ℤ b) c.product-2.result c.args.x.1 c.args.y.1 (greatest_product c.args.x c.args.y) (search rules) (search rules) (search rules) c.product-2.ensures
    (natural_greatest c.args.x c.args.y c.requires.x_above_zero c.requires.x_order c.requires.y_above_zero c.requires.y_order)
