use Rattle.std.proofs.Common.{◌≡◌, ◌<◌, ◌≤◌, ◌*◌, ◌-◌, ◌+◌, ◌/◌, ℕ, true, false, length, min, take, get_or}
use Rattle.moved_set.specs.Words.{has, names}
use Rattle.moved_set.proofs.bits.mark_each.Given as goal

abbrev pub invariant-loop-mask : goal.invariant-loop-mask
invariant-loop-mask l = record {
  same : length l.pages ≡ length l.initial.pages;
  kept : (p : ℕ) → get_or l.initial.pages p true ≡ true → get_or l.pages p true ≡ true;
  marked : (j : ℕ) → names (take l.mask-index l.row) j ≡ true → get_or l.pages (j / 2048) true ≡ true;
}
