-- Bounds and values at a point, and the bound past all numbers.
use Rattle.std.proofs.Common.{◌≡◌, ℕ, ℤ, pos, ◌≤ℤ◌, subst, arith}
use Rattle.std.proofs.lemmas.Int.{ints}
use Rattle.interval.specs.Limits.{IsNumber, bound_limit, clamp_of, ClampOrder}
use Rattle.interval.specs.Boxes.{Bounds, low_of, high_of}
use Rattle.tells.specs.Words.{low_tell, high_tell, Keeps, value_of, point_of}
use Rattle.element_tells.proofs.LiteralLaws.{value-point}

-- no box whose low is a number keeps the tell past all numbers
pub past_all : ClampOrder → clamp_of (pos bound_limit) ≡ pos bound_limit
past_all c = c.same (pos bound_limit) (omega arith)

-- a looser bound is kept where a tighter is
pub looser_low : ClampOrder → (b : Bounds) (v : ℕ) (y z : ℤ) → z ≤ℤ y → Keeps b (low_tell v y) → Keeps b (low_tell v z)
looser_low c b v y z h k = let e = c.rises z y h in omega (arith, ints)

pub looser_high : ClampOrder → (b : Bounds) (v : ℕ) (y z : ℤ) → y ≤ℤ z → Keeps b (high_tell v y) → Keeps b (high_tell v z)
looser_high c b v y z h k = let e = c.rises y z h in omega (arith, ints)

-- the value of a fixed variable is both of its bounds
pub value_low : (b : Bounds) (v : ℕ) → low_of b v ≡ high_of b v → value_of (point_of b) v ≡ low_of b v
value_low b v fixed = value-point b v

pub number_high : (b : Bounds) (v : ℕ) → low_of b v ≡ high_of b v → IsNumber (low_of b v) → IsNumber (high_of b v)
number_high b v fixed n = let N : ℤ → Type 0 = λ z. IsNumber z in subst N fixed n
