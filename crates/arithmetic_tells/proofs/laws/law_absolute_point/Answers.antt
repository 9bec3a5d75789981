use Rattle.std.proofs.Common.{arith}
use Rattle.arithmetic_tells.proofs.AbsoluteLaws.{abs_closed_holds, abs_holds_closed}
use Rattle.arithmetic_tells.proofs.laws.law_absolute_point.Goals as goal

pub returns : goal.returns
returns c = λ x y b variables point numbers.
    let p = variables.each 0 (omega arith) in
    let q = variables.each 1 (omega arith) in (
      abs_closed_holds c.law_clamp_order.ensures b x y (point x p) (point y q) (numbers x p) (numbers y q),
      abs_holds_closed c.law_clamp_order.ensures b x y (point x p) (point y q) (numbers x p) (numbers y q),
    )
