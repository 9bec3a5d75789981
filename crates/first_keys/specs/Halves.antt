-- How the numbers are parted that a key's variable may have.
use Rattle.std.specs.Prelude.{◌⊎◌, ℤ, ◌+ℤ◌, ◌-ℤ◌, ◌≤ℤ◌, ◌<ℤ◌, Bool, cond}
use Rattle.interval.specs.Limits.{IsBound}
use Rattle.first_keys.specs.declared.halves.Halves.{Halves}

-- the best of the numbers from low to high
abbrev pub best_of : Bool → ℤ → ℤ → ℤ
best_of upper_first low high = cond upper_first high low

-- the ranges lie in the one from low to high, and each of its numbers is in one of them
pub record AreHalves (low high : ℤ) (halves : Halves) : Type 0 where
  pub better_low : IsBound halves.better_low
  pub better_high : IsBound halves.better_high
  pub rest_low : IsBound halves.rest_low
  pub rest_high : IsBound halves.rest_high
  pub better_from : low ≤ℤ halves.better_low
  pub better_to : halves.better_high ≤ℤ high
  pub rest_from : low ≤ℤ halves.rest_low
  pub rest_to : halves.rest_high ≤ℤ high
  pub each : (z : ℤ) → low ≤ℤ z → z ≤ℤ high →
      ((halves.better_low ≤ℤ z) × (z ≤ℤ halves.better_high)) ⊎ ((halves.rest_low ≤ℤ z) × (z ≤ℤ halves.rest_high))

-- how far a number is from the best of those from low to high
abbrev pub distance : Bool → ℤ → ℤ → ℤ → ℤ
distance upper_first low high value = cond upper_first (high -ℤ value) (value -ℤ low)

-- the better half has some number, and any there is less than half as far from the best as the number known; where none is found in that
-- half, the number known is in the other one, and at most half as far from the best of that: so the distance is 0 after few answers
pub record AreNearer (upper_first : Bool) (low high value : ℤ) (halves : Halves) : Type 0 where
  pub some : halves.better_low ≤ℤ halves.better_high
  pub found : (z : ℤ) → halves.better_low ≤ℤ z → z ≤ℤ halves.better_high →
      (distance upper_first low high z +ℤ distance upper_first low high z) <ℤ distance upper_first low high value
  pub from : halves.rest_low ≤ℤ value
  pub to : value ≤ℤ halves.rest_high
  pub refuted : (distance upper_first halves.rest_low halves.rest_high value +ℤ distance upper_first halves.rest_low halves.rest_high value) ≤ℤ
      distance upper_first low high value
