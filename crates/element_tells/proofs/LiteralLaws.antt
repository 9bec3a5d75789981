-- Values at a point, and tests.
use Rattle.std.proofs.Common.{◌≡◌, ℕ, zero, suc, [], ◌∷◌, Bool, true, false, refl}
use Rattle.interval.specs.Boxes.{Bounds, low_of}
use Rattle.tells.specs.Words.{value_of, point_of}

-- the value of a variable at a point is its low
pub value-point : (b : Bounds) (v : ℕ) → value_of (point_of b) v ≡ low_of b v
value-point [] v = refl
value-point (p ∷ b) zero = refl
value-point (p ∷ b) (suc v) = value-point b v

pub by_bool : {P : Type 0} (t : Bool) → (t ≡ true → P) → (t ≡ false → P) → P
by_bool true f g = f refl
by_bool false f g = g refl
