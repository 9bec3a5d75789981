use Rattle.model_text.proofs.TextLaws.{some_text, one_model, one_fault, never_both}
use Rattle.model_text.proofs.laws.law_one_text.Goals as goal

pub returns-clause-some : goal.returns-clause-some
returns-clause-some c = some_text c.law_one_reading.ensures.lexes_or_faults c.law_one_reading-2.ensures.reads_or_faults c.law_one_model.ensures.some

pub returns-clause-one_model : goal.returns-clause-one_model
returns-clause-one_model c = one_model (record {
  lexing = c.law_one_reading.ensures.one_list;
  lex_fault = c.law_one_reading.ensures.one_fault;
  lex_never = c.law_one_reading.ensures.never_both;
  parsing = c.law_one_reading-2.ensures.one_list;
  parse_fault = c.law_one_reading-2.ensures.one_fault;
  parse_never = c.law_one_reading-2.ensures.never_both;
  model = c.law_one_model.ensures.one_model;
  fault = c.law_one_model.ensures.one_fault;
  never = c.law_one_model.ensures.never_both;
})

pub returns-clause-one_fault : goal.returns-clause-one_fault
returns-clause-one_fault c = one_fault (record {
  lexing = c.law_one_reading.ensures.one_list;
  lex_fault = c.law_one_reading.ensures.one_fault;
  lex_never = c.law_one_reading.ensures.never_both;
  parsing = c.law_one_reading-2.ensures.one_list;
  parse_fault = c.law_one_reading-2.ensures.one_fault;
  parse_never = c.law_one_reading-2.ensures.never_both;
  model = c.law_one_model.ensures.one_model;
  fault = c.law_one_model.ensures.one_fault;
  never = c.law_one_model.ensures.never_both;
})

pub returns-clause-never_both : goal.returns-clause-never_both
returns-clause-never_both c = never_both (record {
  lexing = c.law_one_reading.ensures.one_list;
  lex_fault = c.law_one_reading.ensures.one_fault;
  lex_never = c.law_one_reading.ensures.never_both;
  parsing = c.law_one_reading-2.ensures.one_list;
  parse_fault = c.law_one_reading-2.ensures.one_fault;
  parse_never = c.law_one_reading-2.ensures.never_both;
  model = c.law_one_model.ensures.one_model;
  fault = c.law_one_model.ensures.one_fault;
  never = c.law_one_model.ensures.never_both;
})
