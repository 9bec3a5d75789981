use Rattle.answer.proofs.SettledLaws.{best_is_first}
use Rattle.answer.proofs.laws.law_best_is_first.Goals as goal

pub returns : goal.returns
returns c = best_is_first c.law_some_program.ensures c.law_inside_order.ensures c.law_first_of_lists.ensures c.law_last_is_first.ensures
