use Rattle.fzn_model.proofs.OneModel.{one_model, one_fault, never_both}
use Rattle.fzn_model.proofs.SomeModel.{some_model}
use Rattle.fzn_model.proofs.resolving.law_one_model.Goals as goal

pub returns-clause-some : goal.returns-clause-some
returns-clause-some c = some_model

pub returns-clause-one_model : goal.returns-clause-one_model
returns-clause-one_model c = one_model

pub returns-clause-one_fault : goal.returns-clause-one_fault
returns-clause-one_fault c = one_fault

pub returns-clause-never_both : goal.returns-clause-never_both
returns-clause-never_both c = never_both
