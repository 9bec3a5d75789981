-- Bounds and values at a point, and the bound past all numbers.
use Rattle.std.proofs.Common.{◌≡◌, ℕ, suc, ◌<◌, List, ◌∷◌, length, get_or, Bool, true, false, eqb, ℤ, pos, ◌≤ℤ◌, sym, subst, ◌∙◌, arith, to_z, of_z}
use Rattle.std.proofs.lemmas.Int.{ints}
use Rattle.std.proofs.lemmas.Bool.{eqb-true, eqb-false}
use Rattle.std.proofs.lemmas.List.{get_or_default}
use Rattle.std.specs.List.{All}
use mir.Syntax.{w64}
use Rattle.interval.specs.Limits.{IsNumber, IsBound, largest_number, bound_limit, clamp_of, ClampOrder}
use Rattle.interval.specs.Boxes.{Bounds, low_of, high_of}
use Rattle.tells.specs.Words.{low_tell, high_tell, Keeps, value_of, point_of}
use Rattle.extreme_tells.proofs.LiteralLaws.{value-point}

-- no box whose low is a number keeps the tell past all numbers
pub past_all : ClampOrder → clamp_of (pos bound_limit) ≡ pos bound_limit
past_all c = c.same (pos bound_limit) (omega arith)

pub not_past_all : ClampOrder → (b : Bounds) (v : ℕ) → IsNumber (low_of b v) → Keeps b (low_tell v (pos bound_limit)) → ⊥
unfolding bound_limit
not_past_all c b v n k = let e = past_all c in omega (arith, ints)

-- a looser bound is kept where a tighter is
pub looser_low : ClampOrder → (b : Bounds) (v : ℕ) (y z : ℤ) → z ≤ℤ y → Keeps b (low_tell v y) → Keeps b (low_tell v z)
looser_low c b v y z h k = let e = c.rises z y h in omega (arith, ints)

pub looser_high : ClampOrder → (b : Bounds) (v : ℕ) (y z : ℤ) → y ≤ℤ z → Keeps b (high_tell v y) → Keeps b (high_tell v z)
looser_high c b v y z h k = let e = c.rises y z h in omega (arith, ints)

-- the value of a fixed variable is both of its bounds
pub value_low : (b : Bounds) (v : ℕ) → low_of b v ≡ high_of b v → value_of (point_of b) v ≡ low_of b v
value_low b v fixed = value-point b v

pub value_high : (b : Bounds) (v : ℕ) → low_of b v ≡ high_of b v → value_of (point_of b) v ≡ high_of b v
value_high b v fixed = value-point b v ∙ fixed

pub number_low : (b : Bounds) (v : ℕ) → low_of b v ≡ high_of b v → IsNumber (low_of b v) → IsNumber (low_of b v)
number_low b v fixed n = n

pub number_high : (b : Bounds) (v : ℕ) → low_of b v ≡ high_of b v → IsNumber (low_of b v) → IsNumber (high_of b v)
number_high b v fixed n = let N : ℤ → Type 0 = λ z. IsNumber z in subst N fixed n

-- a bound is the same as it is read in 64 bits
pub coded_bound : (z : ℤ) → IsBound z → to_z w64 (of_z w64 z) ≡ z
unfolding bound_limit largest_number
coded_bound z h = omega (arith, ints)

-- what lies between bounds is one
pub bound_between : (low z high : ℤ) → IsBound low → IsBound high → low ≤ℤ z → z ≤ℤ high → IsBound z
bound_between low z high a b p q = omega (arith, ints)

-- what holds at each place of a list with one more in front
pub each_after : (P : ℕ → Type 0) (v : ℕ) (xs : List ℕ) → ((i : ℕ) → i < length (v ∷ xs) → P (get_or (v ∷ xs) i 0)) → All P xs
each_after P v xs all i d h = subst P (get_or_default xs i 0 d h) (all (suc i) (omega arith))

-- a list's test of being empty
pub none_there : {X : Type 0} (xs : List X) (t : Bool) → t ≡ eqb (length xs) 0 → t ≡ true → length xs ≡ 0
none_there xs t e f = eqb-true (length xs) 0 (sym e ∙ f)

pub some_there : {X : Type 0} (xs : List X) (t : Bool) → t ≡ eqb (length xs) 0 → t ≡ false → 0 < length xs
some_there xs t e f = let no = eqb-false (length xs) 0 (sym e ∙ f) in omega arith
