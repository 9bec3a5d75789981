use Rattle.answer.proofs.GivesLaws.{answer_solves}
use Rattle.answer.proofs.laws.law_answers_solve.Goals as goal

pub returns : goal.returns
returns c = λ model options answer form h.
    answer_solves c.law_inside_order.ensures c.law_paths.ensures c.law_cuts.ensures c.law_solutions_listed.ensures c.law_in_declaration_order.ensures c.law_records_solutions.ensures
    model form (c.law_some_program.ensures model form) options answer h
