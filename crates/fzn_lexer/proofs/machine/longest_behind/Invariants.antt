use Rattle.std.proofs.Common.{◌≡◌, drop}
use Rattle.fzn_lexer.specs.Machine.{later, longest_found}
use Rattle.fzn_lexer.proofs.machine.longest_behind.Given as goal

-- the better of what was found and what the rest will find is the longest from where the loop began
abbrev pub invariant-loop-at : goal.invariant-loop-at
invariant-loop-at l =
    later l.found (longest_found l.state l.at (drop l.at l.text)) ≡ later l.fn.first (longest_found l.fn.before l.fn.from (drop l.fn.from l.text))
