use Rattle.std.proofs.Common.{length, ◌-◌, ◌≤◌}
use Rattle.fzn_lexer.proofs.Cuts.{Reads}
use Rattle.fzn_lexer.proofs.lex.Given as goal

abbrev pub invariant-loop-at : goal.invariant-loop-at
invariant-loop-at l = record { within : l.at ≤ length l.text; read : Reads l.text l.at l.tokens.items }

abbrev pub decreases-loop-at : goal.decreases-loop-at
decreases-loop-at l = length l.text - l.at
