use Rattle.std.proofs.Common.{◌∙◌}
use Rattle.propagator_tests.proofs.Examples.{two_tasks_made}
use Rattle.propagator_tests.proofs.global_constraints.two_tasks.Goals as goal

pub returns : goal.returns
returns c =
    two_tasks_made c.in_ok-starts.starts c.in_ok-durations.durations c.in_ok-usages.usages
    (c.in_ok-starts.ensures ∙ c.in_ok-vec.ensures.items) (c.in_ok-durations.ensures ∙ c.in_ok-vec-2.ensures.items) (c.in_ok-usages.ensures ∙ c.in_ok-vec-3.ensures.items)
