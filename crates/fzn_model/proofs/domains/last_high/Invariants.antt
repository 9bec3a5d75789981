use Rattle.std.proofs.Common.{◌≡◌, ℤ, take}
use Rattle.std.specs.List.{fold}
use Rattle.fzn_model.proofs.domains.last_high.Given as goal

-- the high so far
abbrev pub invariant-loop-range : goal.invariant-loop-range
invariant-loop-range l = l.high ≡ fold (λ (high : ℤ) s. s.1) l.first.1 (take l.range-index l.rest)
