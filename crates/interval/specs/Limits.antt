-- The range of the numbers of a FlatZinc text that is taken, and of the bounds of a box.
use Rattle.std.specs.Prelude.{◌≡◌, ◌≤ℤ◌, ◌↔◌, ℕ, ℤ, pos, neg_ℤ, unsigned_abs, ◌+◌, ◌^◌, ◌≤◌}
use Rattle.std.specs.Int.{int_min, int_max}

-- a number of a model lies between this and its opposite
unfoldable pub largest_number : ℕ
largest_number = 140737488355327

-- a bound lies between this and its opposite: one past the numbers of a model, so that a bound can say
-- that no number is left
unfoldable pub bound_limit : ℕ
bound_limit = largest_number + 1

-- a box has at most this many pairs
unfoldable pub box_limit : ℕ
box_limit = 262144

-- a dividend lies between this and its opposite
unfoldable pub dividend_limit : ℕ
dividend_limit = 2 ^ 120

-- the quotient of two numbers between this and its opposite fits 64 bits
unfoldable pub short_limit : ℕ
short_limit = 2 ^ 62

-- z is a number of a model
abbrev pub IsNumber : ℤ → Type 0
IsNumber z = unsigned_abs z ≤ largest_number

-- z can be a bound
abbrev pub IsBound : ℤ → Type 0
IsBound z = unsigned_abs z ≤ bound_limit

-- the bound nearest to z
unfoldable pub clamp_of : ℤ → ℤ
clamp_of z = int_max (neg_ℤ (pos bound_limit)) (int_min z (pos bound_limit))

-- how clamping goes with the order
pub record ClampOrder : Type 0 where
  pub in_range : (z : ℤ) → IsBound (clamp_of z)
  pub same : (z : ℤ) → IsBound z → clamp_of z ≡ z
  pub rises : (y z : ℤ) → y ≤ℤ z → clamp_of y ≤ℤ clamp_of z
  pub above_number : (x z : ℤ) → IsNumber x → (x ≤ℤ clamp_of z) ↔ (x ≤ℤ z)
  pub below_number : (x z : ℤ) → IsNumber x → (clamp_of z ≤ℤ x) ↔ (z ≤ℤ x)
