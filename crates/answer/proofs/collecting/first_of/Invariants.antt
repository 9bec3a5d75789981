use Rattle.std.proofs.Common.{◌≡◌, [], flat_map}
use Rattle.answer.specs.Results.{first_collected}
use Rattle.answer.proofs.collecting.first_of.Given as goal

-- nothing was collected so far, so that all stands in the rest
abbrev pub invariant-loop-end : goal.invariant-loop-end
invariant-loop-end l = record {
  none : flat_map first_collected l.yielded ≡ [];
  rest : flat_map first_collected l.fn.ends ≡ flat_map first_collected l.end-iterator.rest.items;
}
