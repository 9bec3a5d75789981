use Rattle.std.proofs.Common.{◌≡◌, flat_map, take}
use Rattle.first_keys.specs.Order.{phase_keys}
use Rattle.first_keys.proofs.key.keys_of.Given as goal

-- the keys of the phases so far
abbrev pub invariant-loop-phase : goal.invariant-loop-phase
invariant-loop-phase l = l.keys ≡ flat_map phase_keys (take l.phase-index l.model.search)
