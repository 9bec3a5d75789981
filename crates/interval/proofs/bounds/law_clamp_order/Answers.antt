use Rattle.interval.proofs.ClampLaws.{clamp_order}
use Rattle.interval.proofs.bounds.law_clamp_order.Goals as goal

pub returns : goal.returns
returns c = clamp_order
