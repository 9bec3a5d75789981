-- The least member is taken out.
use Rattle.bit_domain.proofs.MemberLaws.{members_some, cleared_less, cleared_inside}
use Rattle.bit_domain.proofs.bits.part_least.Goals as goal

pub returns-clause-members : goal.returns-clause-members
returns-clause-members c = members_some c.args.set c.least-member.result c.least-member.ensures

pub returns-clause-fewer : goal.returns-clause-fewer
returns-clause-fewer c = cleared_less c.args.set c.least-member.result c.least-member.ensures

pub returns-clause-others : goal.returns-clause-others
returns-clause-others c = cleared_inside c.args.set c.least-member.result
