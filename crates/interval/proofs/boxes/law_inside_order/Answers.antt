use Rattle.interval.proofs.BoxLaws.{inside_order}
use Rattle.interval.proofs.boxes.law_inside_order.Goals as goal

pub returns : goal.returns
returns c = inside_order
