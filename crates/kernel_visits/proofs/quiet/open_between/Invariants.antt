-- Found is what is open among the places so far and those behind the last.
use Rattle.std.proofs.Common.{◌⊎◌, ◌<◌, ◌≤◌}
use Rattle.kernel_visits.specs.Open.{IsOpenAt}
use Rattle.kernel_visits.specs.Found.{AreFound}
use Rattle.kernel_visits.proofs.quiet.open_between.Given as goal

abbrev pub invariant-loop-i : goal.invariant-loop-i
invariant-loop-i l = AreFound (IsOpenAt l.b l.coeffs l.vars) (λ n. ⊥) (λ n. ((l.from ≤ n) × (n < l.i)) ⊎ (l.to ≤ n)) l.found
