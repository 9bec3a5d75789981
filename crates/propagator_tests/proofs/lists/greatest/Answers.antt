use Rattle.std.proofs.Common.{◌∙◌}
use Rattle.propagator_tests.proofs.Examples.{greatest_made}
use Rattle.propagator_tests.proofs.lists.greatest.Goals as goal

pub returns : goal.returns
returns c = greatest_made c.in_ok-xs.xs (c.in_ok-xs.ensures ∙ c.in_ok-vec.ensures.items)
