use Rattle.solution_lists.proofs.LeastLaws.{least_comes_first}
use Rattle.solution_lists.proofs.law_least_first.Goals as goal

pub returns : goal.returns
returns c = least_comes_first c.law_inside_order.ensures c.law_solutions_listed.ensures c.law_in_declaration_order.ensures
