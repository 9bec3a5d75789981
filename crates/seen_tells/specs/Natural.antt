-- Products of natural factors.
use Rattle.std.specs.Prelude.{ℕ, ℤ, pos, ◌≤ℤ◌, ◌^◌}
use Rattle.interval.specs.Boxes.{Bounds, low_of, high_of}

-- a natural factor is at most this much: the product of two of them fits 64 bits
unfoldable pub factor_limit : ℕ
factor_limit = 2 ^ 31

abbrev pub IsFactor : ℤ → Type 0
IsFactor z = (pos 1 ≤ℤ z) × (z ≤ℤ pos factor_limit)

-- all numbers of a variable are natural factors, and there are some
pub record HasFactors (b : Bounds) (v : ℕ) : Type 0 where
  pub low : IsFactor (low_of b v)
  pub high : IsFactor (high_of b v)
  pub order : low_of b v ≤ℤ high_of b v

-- those of both factors are, and the product isn't below 0
pub record IsNaturalProduct (b : Bounds) (x y z : ℕ) : Type 0 where
  pub first : HasFactors b x
  pub second : HasFactors b y
  pub product : pos 0 ≤ℤ low_of b z
  pub order : low_of b z ≤ℤ high_of b z
