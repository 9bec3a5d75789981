use Rattle.std.proofs.Common.{◌≡◌, ◌-◌, ◌++◌}
use Rattle.moved_set.specs.Parts.{keys_from}
use Rattle.moved_set.proofs.parts.push_keys.Given as goal

abbrev pub invariant-loop-place : goal.invariant-loop-place
invariant-loop-place l = l.keys.items ≡ l.initial.keys.items ++ keys_from l.kernel l.from (l.place - l.from)
