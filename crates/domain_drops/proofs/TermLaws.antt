-- The terms of a sum by their place.
use Rattle.std.proofs.Common.{◌≡◌, ℕ, zero, suc, ◌+◌, ◌<◌, ◌≤◌, List, [], ◌∷◌, length, drop, get_or, ℤ, pos, ◌+ℤ◌, refl, ap, ◌∙◌, arith}
use Rattle.std.proofs.lemmas.List.{at_drop_more, at_drop_all}
use Rattle.std.specs.List.{zip}
use Rattle.sum_tells.specs.Linear.{Term, sum_over}

pub length-zip : (coeffs : List ℤ) (vars : List ℕ) → length coeffs ≡ length vars → length (zip coeffs vars) ≡ length coeffs
length-zip [] vars e = refl
length-zip (a ∷ coeffs) [] e = absurd (omega arith)
length-zip (a ∷ coeffs) (x ∷ vars) e = ap suc (length-zip coeffs vars (omega arith))

pub get_or-zip : (coeffs : List ℤ) (vars : List ℕ) (i : ℕ) → length coeffs ≡ length vars → get_or (zip coeffs vars) i (pos 0, 0) ≡ (get_or coeffs i (pos 0), get_or vars i 0)
get_or-zip [] [] i e = refl
get_or-zip [] (x ∷ vars) i e = absurd (omega arith)
get_or-zip (a ∷ coeffs) [] i e = absurd (omega arith)
get_or-zip (a ∷ coeffs) (x ∷ vars) zero e = refl
get_or-zip (a ∷ coeffs) (x ∷ vars) (suc i) e = get_or-zip coeffs vars i (omega arith)

-- the sum from a place on
pub sum_over-drop : (f : Term → ℤ) (coeffs : List ℤ) (vars : List ℕ) (i : ℕ) → length coeffs ≡ length vars → i < length coeffs
    → sum_over f (drop i (zip coeffs vars)) ≡ f (get_or coeffs i (pos 0), get_or vars i 0) +ℤ sum_over f (drop (i + 1) (zip coeffs vars))
unfolding sum_over
sum_over-drop f coeffs vars i e h =
    at_drop_more (sum_over f) (zip coeffs vars) i (pos 0, 0) (rw (length-zip coeffs vars e) h)
    ∙ ap (λ t. f t +ℤ sum_over f (drop (i + 1) (zip coeffs vars))) (get_or-zip coeffs vars i e)

pub sum_over-drop_all : (f : Term → ℤ) (coeffs : List ℤ) (vars : List ℕ) (i : ℕ) → length coeffs ≡ length vars → length coeffs ≤ i → sum_over f (drop i (zip coeffs vars)) ≡ pos 0
unfolding sum_over
sum_over-drop_all f coeffs vars i e h = at_drop_all (sum_over f) (zip coeffs vars) i (rw (length-zip coeffs vars e) h)
