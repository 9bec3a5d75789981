use Rattle.std.proofs.Common.{◌≡◌, flat_map}
use Rattle.answer.specs.Results.{all_collected}
use Rattle.answer.proofs.collecting.all_of.Given as goal

-- what was collected so far
abbrev pub invariant-loop-end : goal.invariant-loop-end
invariant-loop-end l = l.given ≡ flat_map all_collected l.yielded
