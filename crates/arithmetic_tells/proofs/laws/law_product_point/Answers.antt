use Rattle.std.proofs.Common.{[], ◌∷◌, arith}
use Rattle.arithmetic_tells.proofs.TimesLaws.{times_closed_holds, times_holds_closed}
use Rattle.arithmetic_tells.proofs.PointLaws.{fixed_at}
use Rattle.arithmetic_tells.proofs.laws.law_product_point.Goals as goal

pub returns : goal.returns
returns c = λ x y z b variables point numbers.
    let fixed = fixed_at b (x ∷ y ∷ z ∷ []) variables point numbers in (
      times_closed_holds c.law_quotient_order.ensures c.law_clamp_order.ensures b x y z (fixed 0 (omega arith)) (fixed 1 (omega arith)) (fixed 2 (omega arith)),
      times_holds_closed c.law_quotient_order.ensures c.law_clamp_order.ensures b x y z (fixed 0 (omega arith)) (fixed 1 (omega arith)) (fixed 2 (omega arith)),
    )
