use Rattle.fzn_lexer.proofs.Cuts.{reading, one_list, one_fault, never_both}
use Rattle.fzn_lexer.proofs.law_one_reading.Goals as goal

pub returns-clause-lexes_or_faults : goal.returns-clause-lexes_or_faults
returns-clause-lexes_or_faults c = reading

pub returns-clause-one_list : goal.returns-clause-one_list
returns-clause-one_list c = one_list

pub returns-clause-one_fault : goal.returns-clause-one_fault
returns-clause-one_fault c = one_fault

pub returns-clause-never_both : goal.returns-clause-never_both
returns-clause-never_both c = never_both
