-- As many as the literals so far hold that aren't out, and not two yet.
use Rattle.std.proofs.Common.{◌≡◌, ◌≤◌, not, take}
use Rattle.std.specs.List.{count_by}
use Rattle.tells.specs.Words.{is_out}
use Rattle.clause_tells.proofs.clause.count_left.Given as goal

abbrev pub invariant-loop-i : goal.invariant-loop-i
invariant-loop-i l = record { counted : l.left ≡ count_by (λ k. not (is_out k l.b)) (take l.i l.lits); few : l.left ≤ 1 }
