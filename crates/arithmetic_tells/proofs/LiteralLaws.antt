-- Values at a point, and tests.
use Rattle.std.proofs.Common.{◌≡◌, ℕ, zero, suc, [], ◌∷◌, Bool, true, false, not, refl, ◌||◌, ◌⊎◌, ⊎_elim, sym}
use Rattle.interval.specs.Boxes.{Bounds, low_of}
use Rattle.tells.specs.Words.{value_of, point_of}

-- the value of a variable at a point is its low
pub value-point : (b : Bounds) (v : ℕ) → value_of (point_of b) v ≡ low_of b v
value-point [] v = refl
value-point (p ∷ b) zero = refl
value-point (p ∷ b) (suc v) = value-point b v

pub by_bool : {P : Type 0} (t : Bool) → (t ≡ true → P) → (t ≡ false → P) → P
by_bool true f g = f refl
by_bool false f g = g refl

pub not_true : (t : Bool) → not t ≡ true → t ≡ false
not_true true e = absurd (cc)
not_true false e = refl

or_left : (x y : Bool) → true ≡ x → (x || y) ≡ true
or_left x y e = (λ i. sym e i || y)

or_right : (x y : Bool) → true ≡ y → (x || y) ≡ true
or_right true y e = refl
or_right false y e = sym e

pub or_true : (x y : Bool) → (true ≡ x) ⊎ (true ≡ y) → (x || y) ≡ true
or_true x y e = ⊎_elim (or_left x y) (or_right x y) e
