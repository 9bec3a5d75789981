use Rattle.std.proofs.Common.{◌≡◌}
use Rattle.fzn_lexer.specs.Machine.{found_on, int}
use Rattle.fzn_lexer.specs.declared.machine.State.TheVariants.{Digits}
use Rattle.fzn_lexer.proofs.machine.digits_end.Given as goal

-- what is found is the same from each digit
abbrev pub invariant-loop-at : goal.invariant-loop-at
invariant-loop-at l = found_on int Digits l.at l.text ≡ found_on int Digits l.fn.from l.text
