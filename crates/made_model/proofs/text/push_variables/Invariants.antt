use Rattle.std.proofs.Common.{◌≡◌, ◌++◌}
use Rattle.std.specs.Prelude.{flat_map}
use Rattle.std.specs.List.{range_with_len}
use Rattle.made_model.specs.Made.{variable_line}
use Rattle.made_model.proofs.text.push_variables.Given as goal

-- the declarations so far
abbrev pub invariant-loop-place : goal.invariant-loop-place
invariant-loop-place l = l.text.items ≡ l.initial.text.items ++ flat_map (variable_line l.n) (range_with_len 1 l.place)
