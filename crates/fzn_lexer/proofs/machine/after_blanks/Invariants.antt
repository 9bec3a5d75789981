use Rattle.std.proofs.Common.{[]}
use Rattle.fzn_lexer.specs.Lexing.{LexesTo}
use Rattle.fzn_lexer.proofs.machine.after_blanks.Given as goal

-- blanks alone were passed
abbrev pub invariant-loop-at : goal.invariant-loop-at
invariant-loop-at l = LexesTo l.text l.fn.from l.at []
