use Rattle.std.proofs.Common.{◌∙◌, refl}
use Rattle.domain_tests.proofs.Examples.{membership_made}
use Rattle.domain_tests.proofs.drops.membership.Goals as goal

pub returns : goal.returns
returns c = membership_made _ c.in_ok-ranges.ranges refl (c.in_ok-ranges.ensures ∙ c.in_ok-vec.ensures.items)
