use Rattle.std.proofs.Common.{[], ◌-◌, length}
use Rattle.fzn_lexer.specs.Lexing.{LexesTo}
use Rattle.fzn_lexer.proofs.next_token.Given as goal

-- no token was passed
abbrev pub invariant-loop-at : goal.invariant-loop-at
invariant-loop-at l = LexesTo l.text l.fn.from l.at []

abbrev pub decreases-loop-at : goal.decreases-loop-at
decreases-loop-at l = length l.text - l.at
