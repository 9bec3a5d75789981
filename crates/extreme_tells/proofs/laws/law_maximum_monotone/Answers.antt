use Rattle.extreme_tells.proofs.MaximumLaws.{max_monotone}
use Rattle.extreme_tells.proofs.laws.law_maximum_monotone.Goals as goal

pub returns : goal.returns
returns c = λ m xs outer inner variables range proper inside closed. max_monotone c.law_clamp_order.ensures m inner outer xs variables range proper inside closed
