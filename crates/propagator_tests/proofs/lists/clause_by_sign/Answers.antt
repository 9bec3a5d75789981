use Rattle.std.proofs.Common.{◌∙◌}
use Rattle.propagator_tests.proofs.Examples.{signed_clause_made}
use Rattle.propagator_tests.proofs.lists.clause_by_sign.Goals as goal

pub returns : goal.returns
returns c = signed_clause_made c.by_sign.result c.in_ok-positives.positives c.in_ok-negatives.negatives c.by_sign.ensures (c.in_ok-positives.ensures ∙ c.in_ok-vec.ensures.items) (c.in_ok-negatives.ensures ∙ c.in_ok-vec-2.ensures.items)
