use Rattle.interval.proofs.QuotientLaws.{quotient_order}
use Rattle.interval.proofs.quotients.law_quotient_order.Goals as goal

pub returns : goal.returns
returns c = quotient_order
