use Rattle.std.proofs.Common.{◌≡◌, map, take}
use Rattle.fzn_model.specs.Effects.{membership}
use Rattle.fzn_model.proofs.domains.memberships.Given as goal

-- the constraints so far
abbrev pub invariant-loop-term : goal.invariant-loop-term
invariant-loop-term l = l.constraints ≡ map (λ t. membership t l.ranges) (take l.term-index l.entries)
