use Rattle.std.proofs.Common.{◌≡◌, ◌<◌, ◌≤◌, ◌*◌, ◌-◌, ◌+◌, ◌/◌, ℕ, true, false, length, min, take, get_or}
use Rattle.moved_set.specs.Words.{has, names}
use Rattle.moved_set.proofs.bits.pass_back_eights.Given as goal

abbrev pub invariant-loop-place : goal.invariant-loop-place
invariant-loop-place l = record {
  beyond : l.from ≤ l.place;
  before : l.place ≤ l.to;
  passed : (j : ℕ) → l.place * 32 ≤ j → j < l.to * 32 → has l.words j ≡ false;
}

abbrev pub decreases-loop-place : goal.decreases-loop-place
decreases-loop-place l = l.place
