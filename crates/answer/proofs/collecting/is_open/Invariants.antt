use Rattle.std.proofs.Common.{take, All}
use Rattle.answer.specs.Results.{IsIdle}
use Rattle.answer.proofs.collecting.is_open.Given as goal

-- so far there was no solution, and no search was stopped
abbrev pub invariant-loop-end : goal.invariant-loop-end
invariant-loop-end l = All IsIdle (take l.end-index l.ends)
