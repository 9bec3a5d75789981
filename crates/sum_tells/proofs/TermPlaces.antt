-- Terms depend on the bounds of their variables alone, and these are in the list.
use Rattle.std.proofs.Common.{◌≡◌, ℕ, zero, suc, ◌<◌, List, [], ◌∷◌, length, get_or, ℤ, pos, ◌*ℤ◌, arith}
use Rattle.std.specs.Int.{int_min, int_max}
use Rattle.std.specs.List.{zip}
use Rattle.interval.specs.Boxes.{Bounds, low_of, high_of}
use Rattle.sum_tells.specs.Linear.{Term, least_of, greatest_of}

pub same_least : (b c : Bounds) (t : Term) → low_of b t.1 ≡ low_of c t.1 → high_of b t.1 ≡ high_of c t.1 → least_of b t ≡ least_of c t
unfolding least_of
same_least b c t p q = (λ i. int_min (t.0 *ℤ p i) (t.0 *ℤ q i))

pub same_greatest : (b c : Bounds) (t : Term) → low_of b t.1 ≡ low_of c t.1 → high_of b t.1 ≡ high_of c t.1 → greatest_of b t ≡ greatest_of c t
unfolding greatest_of
same_greatest b c t p q = (λ i. int_max (t.0 *ℤ p i) (t.0 *ℤ q i))

-- a term's variable is one of the list
pub at_zip : (P : ℕ → Type 0) (coeffs : List ℤ) (vars : List ℕ) → ((i : ℕ) → i < length vars → P (get_or vars i 0)) → (i : ℕ) → i < length (zip coeffs vars) → P (get_or (zip coeffs vars) i (pos 0, 0)).1
at_zip P [] vars h i l = absurd (omega arith)
at_zip P (a ∷ coeffs) [] h i l = absurd (omega arith)
at_zip P (a ∷ coeffs) (x ∷ vars) h zero l = h 0 (omega arith)
at_zip P (a ∷ coeffs) (x ∷ vars) h (suc i) l = at_zip P coeffs vars (λ j k. h (suc j) (omega arith)) i (omega arith)
