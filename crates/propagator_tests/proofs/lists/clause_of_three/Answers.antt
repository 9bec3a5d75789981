use Rattle.std.proofs.Common.{◌∙◌}
use Rattle.propagator_tests.proofs.Examples.{clause_of_three_made}
use Rattle.propagator_tests.proofs.lists.clause_of_three.Goals as goal

pub returns : goal.returns
returns c = clause_of_three_made c.from_list.result (c.from_list.ensures ∙ c.in_ok-lits.ensures ∙ c.in_ok-vec.ensures.items)
