use Rattle.std.proofs.Common.{◌≡◌, take, map, pos, ◌∷◌, ◌++◌}
use Rattle.decompose.specs.Program.{fixed_box}
use Rattle.decompose.proofs.start.pairs_of.Given as goal

-- the pairs of the declarations so far
abbrev pub invariant-loop-var : goal.invariant-loop-var
invariant-loop-var l = l.pairs.items ≡ (pos 1, pos 1) ∷ map (λ d. (d.low, d.high)) (take l.var-index l.vars)

-- all of them, and the pairs of the constants so far
abbrev pub invariant-loop-value : goal.invariant-loop-value
invariant-loop-value l = l.pairs.items ≡ (pos 1, pos 1) ∷ (map (λ d. (d.low, d.high)) l.vars ++ fixed_box (take l.value-index l.constants))
