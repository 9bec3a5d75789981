-- What the first tasks use and what the others do are what all use.
use Rattle.std.proofs.Common.{◌≡◌, ◌≤◌, ◌*◌, ◌+ℤ◌, map, drop, unsigned_abs}
use Rattle.constraint_model.specs.Relations.{used_at, value}
use Rattle.constraint_check.specs.Asked.{product_limit}
use Rattle.constraint_check.specs.Tests.{used_by}
use Rattle.constraint_check.proofs.tasks.used_at.Given as goal

abbrev pub invariant-loop-place : goal.invariant-loop-place
invariant-loop-place l = record {
  whole : l.used +ℤ used_at (drop l.place (map (value l.solution) l.tasks.starts.now)) (drop l.place (map (value l.solution) l.tasks.durations.now)) (drop l.place (map (value l.solution) l.tasks.usages.now)) l.fn.time ≡ used_by l.tasks l.solution l.fn.time;
  small : unsigned_abs l.used ≤ l.place * product_limit;
}
