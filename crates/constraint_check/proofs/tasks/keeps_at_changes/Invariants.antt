-- All keep the limit where the rest do.
use Rattle.std.proofs.Common.{◌≡◌, map, drop}
use Rattle.std.specs.Prelude.{int_le}
use Rattle.std.specs.List.{list_all}
use Rattle.constraint_model.specs.Relations.{value}
use Rattle.constraint_check.specs.Tests.{changes, used_by}
use Rattle.constraint_check.proofs.tasks.keeps_at_changes.Given as goal

abbrev pub invariant-loop-place : goal.invariant-loop-place
invariant-loop-place l =
    list_all (λ t. int_le (used_by l.tasks l.solution t) l.tasks.limit) (changes (drop l.place (map (value l.solution) l.tasks.starts.now)) (drop l.place (map (value l.solution) l.tasks.durations.now)))
    ≡ list_all (λ t. int_le (used_by l.tasks l.solution t) l.tasks.limit) (changes (map (value l.solution) l.tasks.starts.now) (map (value l.solution) l.tasks.durations.now))
