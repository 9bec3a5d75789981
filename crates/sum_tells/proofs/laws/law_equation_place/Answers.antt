use Rattle.std.proofs.Common.{length}
use Rattle.sum_tells.proofs.EqualityPlace.{eq_placed}
use Rattle.sum_tells.proofs.laws.law_equation_place.Goals as goal

pub returns : goal.returns
returns c = λ l coeffs vars limit same b variables i d h.
    let p = eq_placed c.law_clamp_order.ensures (length b) l coeffs vars limit b same variables i d h in
    (p.named, p.in_box, p.bound)
