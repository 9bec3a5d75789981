use Rattle.set_tells.proofs.InSetLaws.{in_set_monotone}
use Rattle.set_tells.proofs.laws.law_in_set_monotone.Goals as goal

pub returns : goal.returns
returns c = λ l x ranges is outer inner variables range proper inside closed. in_set_monotone c.law_clamp_order.ensures inner outer l x ranges is proper inside closed
