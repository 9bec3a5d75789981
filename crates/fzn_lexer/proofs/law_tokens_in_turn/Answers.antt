use Rattle.fzn_lexer.proofs.Turns.{nothing, joined, whole, one_rest, fault}
use Rattle.fzn_lexer.proofs.law_tokens_in_turn.Goals as goal

pub returns-clause-nothing : goal.returns-clause-nothing
returns-clause-nothing c = nothing

pub returns-clause-joined : goal.returns-clause-joined
returns-clause-joined c = joined

pub returns-clause-whole : goal.returns-clause-whole
returns-clause-whole c = whole

pub returns-clause-fault : goal.returns-clause-fault
returns-clause-fault c = fault

pub returns-clause-one_rest : goal.returns-clause-one_rest
returns-clause-one_rest c = one_rest
