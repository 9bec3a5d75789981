use Rattle.domain_drops.proofs.LocalLaws.{drops_local}
use Rattle.domain_drops.proofs.laws.law_drop_local.Goals as goal

pub returns : goal.returns
returns c = λ k m n agree. drops_local m n k agree
