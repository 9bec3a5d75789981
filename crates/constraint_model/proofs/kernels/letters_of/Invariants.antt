use Rattle.std.proofs.Common.{◌≡◌, drop, map, length, nat_eq}
use Rattle.std.specs.Prelude.{find}
use Rattle.constraint_model.specs.Table.{signatures}
use Rattle.constraint_model.proofs.kernels.letters_of.Given as goal

-- the first list of this length is the first of the rest
abbrev pub invariant-loop-letters : goal.invariant-loop-letters
invariant-loop-letters l =
    find (λ letters. nat_eq (length letters) l.count) (map (λ letters. letters.now) (drop l.letters-index l.letters-items))
    ≡ find (λ letters. nat_eq (length letters) l.count) (signatures l.constraint.name)
