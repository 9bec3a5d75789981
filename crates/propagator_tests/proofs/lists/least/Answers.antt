use Rattle.std.proofs.Common.{◌∙◌}
use Rattle.propagator_tests.proofs.Examples.{least_made}
use Rattle.propagator_tests.proofs.lists.least.Goals as goal

pub returns : goal.returns
returns c = least_made c.in_ok-xs.xs (c.in_ok-xs.ensures ∙ c.in_ok-vec.ensures.items)
