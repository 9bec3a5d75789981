use Rattle.std.proofs.Common.{◌≡◌, ◌++◌, ◌∷◌, [], map, take}
use Rattle.guarded_tell.specs.declared.kernel.Kernel.{Kernel}
use Rattle.decompose.specs.Kernels.{negated}
use Rattle.decompose.specs.Rows.{literal_at}
use Rattle.decompose.proofs.booleans.add_implications.Given as goal

-- the clauses of the booleans so far stand behind the kernels that stood before
abbrev pub invariant-loop-boolean : goal.invariant-loop-boolean
invariant-loop-boolean l = l.kernels ≡ l.fn.kernels ++ map (λ t. Kernel.Clause (l.lit ∷ negated (literal_at l.places.numbering l.positive t) ∷ [])) (take l.boolean-index l.booleans)
