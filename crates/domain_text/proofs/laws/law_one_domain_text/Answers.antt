use Rattle.domain_text.proofs.OneLaws.{one_text}
use Rattle.domain_text.proofs.laws.law_one_domain_text.Goals as goal

pub returns : goal.returns
returns c = one_text c.law_inside_mix_order.ensures
