use Rattle.std.proofs.Common.{◌≡◌, ◌<◌, ◌≤◌, ◌*◌, ◌-◌, ◌+◌, ◌/◌, ℕ, true, false, length, min, take, get_or}
use Rattle.moved_set.specs.Words.{has, names}
use Rattle.moved_set.proofs.bits.clear_pages.Given as goal

abbrev pub invariant-loop-page : goal.invariant-loop-page
invariant-loop-page l = record {
  kept : (j : ℕ) → has l.initial.words j ≡ false → has l.words j ≡ false;
  cleared : (j : ℕ) → j / 2048 < l.page → get_or l.pages (j / 2048) true ≡ true → has l.words j ≡ false;
}
