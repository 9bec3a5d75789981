use Rattle.std.proofs.Common.{◌-◌, ◌≡◌, ◌≤◌, length, drop}
use Rattle.trailed_box.specs.Trail.{undone}
use Rattle.trailed_box.proofs.trail.undo.Given as goal

abbrev pub invariant-loop-place : goal.invariant-loop-place
invariant-loop-place l = record {
  from : l.from ≤ l.place;
  within : l.place ≤ length l.initial.trail.items;
  undone : l.current ≡ undone (drop l.place l.initial.trail.items) l.initial.current;
}

abbrev pub decreases-loop-place : goal.decreases-loop-place
decreases-loop-place l = l.place - l.from
