-- Arguments fit only where there are as many as letters.
use Rattle.std.proofs.Common.{◌≡◌, List, [], ◌∷◌, length, false, refl, arith}
use Rattle.std.proofs.lemmas.Bool.{and_right}
use Rattle.constraint_model.specs.declared.meanings.Meaning.{Meaning}
use Rattle.constraint_model.specs.declared.table.Letter.{Letter}
use Rattle.constraint_model.specs.Fits.{fits, all_fit}

pub unequal_fit : (letters : List Letter) (meanings : List Meaning) → (length letters ≡ length meanings → ⊥) → all_fit letters meanings ≡ false
unequal_fit [] [] h = absurd (h refl)
unequal_fit [] (m ∷ ms) h = refl
unequal_fit (l ∷ ls) [] h = refl
unequal_fit (l ∷ ls) (m ∷ ms) h = and_right (fits l m) (all_fit ls ms) (unequal_fit ls ms (λ e. h (omega arith)))
