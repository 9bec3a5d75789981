use Rattle.bit_domain.proofs.MemberLaws.{members_bounded, members_fewer, members_same}
use Rattle.bit_domain.proofs.laws.law_members.Goals as goal

pub returns-clause-bounded : goal.returns-clause-bounded
returns-clause-bounded c = members_bounded

pub returns-clause-fewer : goal.returns-clause-fewer
returns-clause-fewer c = members_fewer

pub returns-clause-same : goal.returns-clause-same
returns-clause-same c = members_same
