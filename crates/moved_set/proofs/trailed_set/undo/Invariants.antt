use Rattle.std.proofs.Common.{◌-◌, ◌≡◌, ◌≤◌, length, drop}
use Rattle.moved_set.specs.Layers.{undone}
use Rattle.moved_set.proofs.trailed_set.undo.Given as goal

abbrev pub invariant-loop-place : goal.invariant-loop-place
invariant-loop-place l = record {
  from : l.from ≤ l.place;
  within : l.place ≤ length l.initial.trail.items;
  undone : l.words ≡ undone (drop l.place l.initial.trail.items) l.initial.words;
}

abbrev pub decreases-loop-place : goal.decreases-loop-place
decreases-loop-place l = l.place - l.from
