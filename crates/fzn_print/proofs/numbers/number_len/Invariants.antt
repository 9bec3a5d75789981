use Rattle.std.proofs.Common.{◌≡◌, ◌<◌, ℕ, true, get_or}
use Rattle.fzn_print.specs.Lines.{is_number_byte}
use Rattle.fzn_print.proofs.numbers.number_len.Given as goal

-- each byte so far may stand in a number
abbrev pub invariant-loop-len : goal.invariant-loop-len
invariant-loop-len l = (k : ℕ) → k < l.len → is_number_byte (get_or l.rest k 0) ≡ true
