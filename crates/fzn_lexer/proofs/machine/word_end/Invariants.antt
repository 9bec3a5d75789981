use Rattle.std.proofs.Common.{◌≡◌}
use Rattle.fzn_lexer.specs.Machine.{found_on, word}
use Rattle.fzn_lexer.specs.declared.machine.State.TheVariants.{InWord}
use Rattle.fzn_lexer.proofs.machine.word_end.Given as goal

-- what is found is the same from each byte of the word
abbrev pub invariant-loop-at : goal.invariant-loop-at
invariant-loop-at l = found_on word InWord l.at l.text ≡ found_on word InWord l.fn.from l.text
