use Rattle.std.proofs.Common.{◌∙◌}
use Rattle.propagator_tests.proofs.Examples.{twice_made}
use Rattle.propagator_tests.proofs.global_constraints.different_from_itself.Goals as goal

pub returns : goal.returns
returns c = twice_made c.in_ok-xs.xs (c.in_ok-xs.ensures ∙ c.in_ok-vec.ensures.items)
