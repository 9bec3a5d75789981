-- A coefficient that is 1 or -1 isn't 0.
use Rattle.std.proofs.Common.{◌∙◌}
use Rattle.std.proofs.lemmas.Int.{to_z-of_z}
use mir.Syntax.{w64}
use Rattle.sum_tells.specs.Equality.{is_same}
use Rattle.sum_tells.proofs.EqualityCode.{is_product_at}
use Rattle.kernel_visits.proofs.UnitLaws.{unit_product, not_zero}
use Rattle.kernel_visits.proofs.differences.is_product.Goals as goal

pub returns : goal.returns
returns c =
    c.is_same.ensures
    ∙ (λ i. is_same (unit_product c.args.coeff c.args.value c.requires.unit c.requires.bound i) (to_z-of_z w64 c.args.product c.ranges.product i))
    ∙ is_product_at c.args.coeff c.args.value c.args.product (not_zero c.args.coeff c.requires.unit)
