use Rattle.std.proofs.Common.{◌∙◌}
use Rattle.propagator_tests.proofs.Examples.{different_made}
use Rattle.propagator_tests.proofs.global_constraints.different.Goals as goal

pub returns : goal.returns
returns c = different_made c.in_ok-xs.xs (c.in_ok-xs.ensures ∙ c.in_ok-vec.ensures.items)
