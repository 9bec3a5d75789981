use Rattle.fzn_lexer.proofs.Cuts.{lie, rise}
use Rattle.fzn_lexer.proofs.law_tokens_lie_in_text.Goals as goal

pub returns-clause-lie : goal.returns-clause-lie
returns-clause-lie c = lie

pub returns-clause-rise : goal.returns-clause-rise
returns-clause-rise c = rise
