use Rattle.std.proofs.Common.{◌≡◌, ◌==◌, ℕ, length, take}
use Rattle.std.specs.List.{list_any}
use Rattle.moved_set.specs.Words.{names}
use Rattle.moved_set.specs.Building.{AreWithin}
use Rattle.moved_set.proofs.build.add_all.Given as goal

abbrev pub invariant-loop-j : goal.invariant-loop-j
invariant-loop-j l = record {
  named : (j : ℕ) → names l.group.items j ≡ list_any (λ i. j == i) (take l.j-index l.numbers);
  within : AreWithin (length l.last) l.group.items;
}
