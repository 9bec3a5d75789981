use Rattle.std.proofs.Common.{List, length, ◌-◌}
use Rattle.fzn_lexer.specs.declared.Token.{Token}
use Rattle.fzn_lexer.specs.Lexing.{LexesTo}
use Rattle.model_text.proofs.TurnLaws.{TurnLaws}
use Rattle.model_text.proofs.turns.pass_tokens.Given as goal

abbrev pub invariant-loop-at : goal.invariant-loop-at
invariant-loop-at l = TurnLaws × ((ts : List Token) × LexesTo l.text l.fn.from l.at ts)

abbrev pub decreases-loop-at : goal.decreases-loop-at
decreases-loop-at l = length l.text - l.at
