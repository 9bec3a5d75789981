use Rattle.std.proofs.Common.{◌≡◌, ◌++◌, map, take}
use Rattle.branching.specs.Parts.{is_upper_first}
use Rattle.first_keys.proofs.key.add_phase.Given as goal

-- the keys so far
abbrev pub invariant-loop-var : goal.invariant-loop-var
invariant-loop-var l = l.keys ≡ l.initial.keys ++ map (λ v. record { var = v; is_upper_first = is_upper_first l.phase.val_sel }) (take l.var-index l.phase.vars)
