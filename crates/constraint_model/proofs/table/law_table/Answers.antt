use Rattle.constraint_model.proofs.NameLaws.{names_found}
use Rattle.constraint_model.proofs.RowLaws.{letters_those}
use Rattle.constraint_model.proofs.table.law_table.Goals as goal

pub returns : goal.returns
returns c = record { names = names_found; letters = letters_those }
