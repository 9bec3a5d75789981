-- Found is what isn't out among the places so far and those behind the last.
use Rattle.std.proofs.Common.{◌⊎◌, ◌<◌, ◌≤◌}
use Rattle.kernel_visits.specs.Rests.{IsSureAt}
use Rattle.kernel_visits.specs.Found.{AreFound, IsLeftAt}
use Rattle.kernel_visits.proofs.quiet.left_between.Given as goal

abbrev pub invariant-loop-i : goal.invariant-loop-i
invariant-loop-i l = AreFound (IsLeftAt l.b l.lits) (λ n. IsSureAt l.lits n l.b) (λ n. ((l.from ≤ n) × (n < l.i)) ⊎ (l.to ≤ n)) l.found
