use Rattle.std.proofs.Common.{◌≡◌}
use Rattle.fzn_lexer.specs.Machine.{found_on, comment}
use Rattle.fzn_lexer.specs.declared.machine.State.TheVariants.{InComment}
use Rattle.fzn_lexer.proofs.machine.comment_end.Given as goal

-- what is found is the same from each byte of the comment
abbrev pub invariant-loop-at : goal.invariant-loop-at
invariant-loop-at l = found_on comment InComment l.at l.text ≡ found_on comment InComment l.fn.from l.text
