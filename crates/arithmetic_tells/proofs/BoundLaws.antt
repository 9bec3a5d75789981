-- Bounds that are looser than others.
use Rattle.std.proofs.Common.{ℕ, ℤ, ◌≤ℤ◌, arith}
use Rattle.std.proofs.lemmas.Int.{ints}
use Rattle.interval.specs.Limits.{ClampOrder}
use Rattle.interval.specs.Quotients.{QuotientOrder}
use Rattle.interval.specs.Boxes.{Bounds}
use Rattle.tells.specs.Words.{low_tell, high_tell, Keeps}

module _ (quotients : QuotientOrder) (clamped : ClampOrder) where
  -- a looser bound is kept where a tighter is
  pub keeps_low : (b : Bounds) (x : ℕ) (y z : ℤ) → z ≤ℤ y → Keeps b (low_tell x y) → Keeps b (low_tell x z)
  keeps_low b x y z h k = let c = clamped.rises z y h in omega (arith, ints)

  pub keeps_high : (b : Bounds) (x : ℕ) (y z : ℤ) → y ≤ℤ z → Keeps b (high_tell x y) → Keeps b (high_tell x z)
  keeps_high b x y z h k = let c = clamped.rises y z h in omega (arith, ints)
