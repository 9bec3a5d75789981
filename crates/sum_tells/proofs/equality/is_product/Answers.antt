use Rattle.sum_tells.proofs.EqualityCode.{coded_is_product}
use Rattle.sum_tells.proofs.equality.is_product.Goals as goal

pub returns-then-coeff-ne0 : goal.returns-then-coeff-ne0
returns-then-coeff-ne0 c =
    coded_is_product c.args.coeff c.args.z c.args.product c.is_same.result c.requires.coefficient c.requires.number c.ranges.product c.if-coeff-ne0.true c.is_same.ensures
