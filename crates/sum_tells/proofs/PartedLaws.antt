-- A sum whose last term stands apart: its terms are those of the front and the last one.
use Rattle.std.proofs.Common.{◌≡◌, ℕ, zero, suc, ◌+◌, ◌<◌, ◌≤ℤ◌, List, [], ◌∷◌, ◌++◌, length, get_or, length-append, ℤ, pos, ◌+ℤ◌, refl, ap, subst, ◌∙◌, arith}
use Rattle.std.proofs.lemmas.Int.{ints}
use Rattle.std.proofs.lemmas.List.{get_or_append_left, append-nil}
use Rattle.std.proofs.lemmas.Grind.{flat_map-append}
use Rattle.std.proofs.Math.Seq.{get_or-append_seam}
use Rattle.std.specs.List.{zip, flat_map}
use Rattle.tells.specs.declared.tell.Tell.{Tell}
use Rattle.interval.specs.Limits.{IsNumber}
use Rattle.interval.specs.Boxes.{Bounds, low_of, high_of}
use Rattle.tells.specs.Words.{AreVariables, IsProperIn}
use Rattle.sum_tells.specs.Linear.{Term, sum_over, IsLinear}

-- ---- lists with one more

pub length-last : {X : Type 0} (xs : List X) (x : X) → length (xs ++ x ∷ []) ≡ length xs + 1
length-last xs x = length-append xs (x ∷ [])

pub zip_last : (coeffs : List ℤ) (vars : List ℕ) (a : ℤ) (x : ℕ) → length coeffs ≡ length vars → zip (coeffs ++ a ∷ []) (vars ++ x ∷ []) ≡ zip coeffs vars ++ (a, x) ∷ []
zip_last [] [] a x same = refl
zip_last [] (y ∷ vars) a x same = absurd (omega arith)
zip_last (c ∷ coeffs) [] a x same = absurd (omega arith)
zip_last (c ∷ coeffs) (y ∷ vars) a x same = ap (λ (ts : List Term). (c, y) ∷ ts) (zip_last coeffs vars a x (omega arith))

pub sum_over-last : (f : Term → ℤ) (ts : List Term) (t : Term) → sum_over f (ts ++ t ∷ []) ≡ sum_over f ts +ℤ f t
unfolding sum_over
sum_over-last f [] t = omega (arith, ints)
sum_over-last f (u ∷ ts) t = let rest = sum_over-last f ts t in omega (arith, ints)

-- the sum over the terms of the front and the last one
pub sum_over-parted : (f : Term → ℤ) (coeffs : List ℤ) (vars : List ℕ) (a : ℤ) (x : ℕ) → length coeffs ≡ length vars
    → sum_over f (zip (coeffs ++ a ∷ []) (vars ++ x ∷ [])) ≡ sum_over f (zip coeffs vars) +ℤ f (a, x)
sum_over-parted f coeffs vars a x same = ap (sum_over f) (zip_last coeffs vars a x same) ∙ sum_over-last f (zip coeffs vars) (a, x)

-- what holds of each term of the front and of the last one holds of each term
pub each-last : (P : ℤ → ℕ → Type 0) (coeffs : List ℤ) (vars : List ℕ) (a : ℤ) (x : ℕ) → length coeffs ≡ length vars
    → ((i : ℕ) → i < length coeffs → P (get_or coeffs i (pos 0)) (get_or vars i 0)) → P a x
    → (i : ℕ) → i < length (coeffs ++ a ∷ []) → P (get_or (coeffs ++ a ∷ []) i (pos 0)) (get_or (vars ++ x ∷ []) i 0)
each-last P [] [] a x same each p zero h = p
each-last P [] [] a x same each p (suc i) h = absurd (omega arith)
each-last P [] (y ∷ vars) a x same each p i h = absurd (omega arith)
each-last P (c ∷ coeffs) [] a x same each p i h = absurd (omega arith)
each-last P (c ∷ coeffs) (y ∷ vars) a x same each p zero h = each 0 (omega arith)
each-last P (c ∷ coeffs) (y ∷ vars) a x same each p (suc i) h = each-last P coeffs vars a x (omega arith) (λ k l. each (suc k) (omega arith)) p i (omega arith)

-- ---- what a whole sum is, its front and its last term are

pub linear-front : (coeffs : List ℤ) (vars : List ℕ) (a : ℤ) (x : ℕ) (limit : ℤ) → IsLinear (coeffs ++ a ∷ []) (vars ++ x ∷ []) limit → IsLinear coeffs vars limit
linear-front coeffs vars a x limit whole = record {
  same_length = omega (arith, whole.same_length, length-last coeffs a, length-last vars x);
  short = omega (arith, whole.short, length-last coeffs a);
  coefficients = λ i h. subst (λ (z : ℤ). IsNumber z) (get_or_append_left coeffs (a ∷ []) (pos 0) i h) (whole.coefficients i (omega (arith, length-last coeffs a)));
  limit_in_range = whole.limit_in_range;
}

pub linear-last : (coeffs : List ℤ) (vars : List ℕ) (a : ℤ) (x : ℕ) (limit : ℤ) → IsLinear (coeffs ++ a ∷ []) (vars ++ x ∷ []) limit → IsNumber a
linear-last coeffs vars a x limit whole =
    subst (λ (z : ℤ). IsNumber z) (get_or-append_seam coeffs a [] (pos 0)) (whole.coefficients (length coeffs) (omega (arith, length-last coeffs a)))

pub variables-front : (count : ℕ) (vars : List ℕ) (x : ℕ) → AreVariables count (vars ++ x ∷ []) → AreVariables count vars
variables-front count vars x whole = record {
  each = λ i h. subst (λ (v : ℕ). v < count) (get_or_append_left vars (x ∷ []) 0 i h) (whole.each i (omega (arith, length-last vars x)));
}

pub variables-last : (count : ℕ) (vars : List ℕ) (x : ℕ) → AreVariables count (vars ++ x ∷ []) → x < count
variables-last count vars x whole = subst (λ (v : ℕ). v < count) (get_or-append_seam vars x [] 0) (whole.each (length vars) (omega (arith, length-last vars x)))

pub proper-front : (b : Bounds) (vars : List ℕ) (x : ℕ) → IsProperIn (vars ++ x ∷ []) b → IsProperIn vars b
proper-front b vars x whole = λ i h. subst (λ (v : ℕ). low_of b v ≤ℤ high_of b v) (get_or_append_left vars (x ∷ []) 0 i h) (whole i (omega (arith, length-last vars x)))

pub proper-last : (b : Bounds) (vars : List ℕ) (x : ℕ) → IsProperIn (vars ++ x ∷ []) b → low_of b x ≤ℤ high_of b x
proper-last b vars x whole = subst (λ (v : ℕ). low_of b v ≤ℤ high_of b v) (get_or-append_seam vars x [] 0) (whole (length vars) (omega (arith, length-last vars x)))

-- what the terms tell, and then what the last one does
pub flat_map_last : (f : Term → List Tell) (ts : List Term) (t : Term) → flat_map f (ts ++ t ∷ []) ≡ flat_map f ts ++ f t
flat_map_last f ts t = flat_map-append f ts (t ∷ []) ∙ ap (λ us. flat_map f ts ++ us) (append-nil (f t))
