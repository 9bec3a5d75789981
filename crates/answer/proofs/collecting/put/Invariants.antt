use Rattle.std.proofs.Common.{◌≡◌, ◌++◌}
use Rattle.answer.proofs.collecting.put.Given as goal

-- those that came so far stand behind what stood
abbrev pub invariant-loop-values : goal.invariant-loop-values
invariant-loop-values l = l.given ≡ l.initial.given ++ l.yielded
