use Rattle.std.proofs.Common.{◌≡◌, ◌++◌}
use Rattle.fzn_model.proofs.draft.push_all.Given as goal

-- those that came so far stand behind what stood
abbrev pub invariant-loop-constraint : goal.invariant-loop-constraint
invariant-loop-constraint l = l.list ≡ l.initial.list ++ l.yielded
