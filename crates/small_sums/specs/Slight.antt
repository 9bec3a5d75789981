-- Sums of three terms or more whose coefficients' sizes add up to little: whatever the bounds are, such a sum, and what its
-- terms grow by, fit 64 bits.
use Rattle.std.specs.Int.{int_min, int_max}
use Rattle.std.specs.Prelude.{◌≡◌, ℕ, ℤ, pos, ◌+ℤ◌, ◌-ℤ◌, ◌*ℤ◌, ◌≤ℤ◌, ◌+◌, ◌*◌, ◌<◌, ◌≤◌, List, length, sum_by, unsigned_abs}
use Rattle.interval.specs.Limits.{bound_limit}
use Rattle.interval.specs.Boxes.{Bounds, low_of, high_of}
use Rattle.small_sums.specs.declared.short.Sums.{Sums}
use Rattle.small_sums.specs.declared.slight.Reach.{Reach}
use Rattle.small_sums.specs.Short.{slight_limit, short_sum_limit, HasBounds}

pub record AreSlight (coeffs : List ℤ) : Type 0 where
  pub many : 2 < length coeffs
  pub slight : sum_by unsigned_abs coeffs ≤ slight_limit

-- the sums that the parts make
abbrev pub sums_of_reach : Reach → Sums
sums_of_reach r = record { least = r.base +ℤ r.down; greatest = r.base +ℤ r.up; widest = r.widest }

-- the parts of terms whose coefficients' sizes add up to at most `size`
pub record IsReach (size : ℕ) (r : Reach) : Type 0 where
  pub base : unsigned_abs r.base ≤ size * bound_limit
  pub least : unsigned_abs (r.base +ℤ r.down) ≤ size * bound_limit
  pub greatest : unsigned_abs (r.base +ℤ r.up) ≤ size * bound_limit
  pub above_zero : pos 0 ≤ℤ r.widest

-- one more coefficient is slight together with those before
pub record IsSlightWith (coeff : ℤ) (r : Reach) : Type 0 where
  pub size : ℕ
  pub reach : IsReach size r
  pub room : size + unsigned_abs coeff ≤ slight_limit

-- the parts stay short with a term more that has these values at the low and at the high of its variable
pub record HasRoomFor (before : Reach) (at_low at_high : ℤ) : Type 0 where
  pub base : unsigned_abs (before.base +ℤ at_low) ≤ short_sum_limit
  pub least : unsigned_abs ((before.base +ℤ before.down) +ℤ int_min at_low at_high) ≤ short_sum_limit
  pub greatest : unsigned_abs ((before.base +ℤ before.up) +ℤ int_max at_low at_high) ≤ short_sum_limit
  pub above_zero : pos 0 ≤ℤ before.widest

-- the parts with a term more that has these values at the low and at the high of its variable
pub record HasMoved (before : Reach) (at_low at_high : ℤ) (r : Reach) : Type 0 where
  pub base : r.base ≡ (before.base +ℤ at_low)
  pub least : (r.base +ℤ r.down) ≡ ((before.base +ℤ before.down) +ℤ int_min at_low at_high)
  pub greatest : (r.base +ℤ r.up) ≡ ((before.base +ℤ before.up) +ℤ int_max at_low at_high)
  pub wider : before.widest ≤ℤ r.widest
  pub within : (int_max at_low at_high -ℤ int_min at_low at_high) ≤ℤ r.widest

-- the parts with one more term
pub record HasReached (b : Bounds) (coeff : ℤ) (var : ℕ) (before : Reach) (r : Reach) : Type 0 where
  pub bounds : HasBounds b var
  pub moved : HasMoved before (coeff *ℤ low_of b var) (coeff *ℤ high_of b var) r
  pub in_range : (size : ℕ) → IsReach size before → IsReach (size + unsigned_abs coeff) r
