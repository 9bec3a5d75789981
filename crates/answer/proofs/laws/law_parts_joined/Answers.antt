use Rattle.answer.proofs.JoinsLaws.{join_laws}
use Rattle.answer.proofs.laws.law_parts_joined.Goals as goal

pub returns : goal.returns
returns c = join_laws c.law_inside_order.ensures c.law_some_program.ensures c.law_whole_of_parts.ensures.whole c.law_whole_of_parts.ensures.least c.law_every_list.ensures c.law_solutions_listed.ensures c.law_in_declaration_order.ensures
