-- Sets of places of a list of variables, as the bits of a word: the first place is the lowest bit.
use Rattle.std.specs.Prelude.{◌≡◌, ◌<◌, ◌≤◌, ℕ, ℤ, ◌+◌, ◌*◌, bit_and, Bool, cond, List, [], ◌∷◌, length, slice_index, slice_index_or, int_le}
use Rattle.interval.specs.Boxes.{Bounds, low_of, high_of}
use Rattle.global_tells.specs.declared.places.Places.{Places}

-- the places of the variables that pass a test
unfoldable pub mask_of : (ℕ → Bool) → List ℕ → ℕ
mask_of test [] = 0
mask_of test (x ∷ xs) = cond (test x) 1 0 + 2 * mask_of test xs

-- the places whose lows, and those whose highs, are at least a number
abbrev pub places_from : Bounds → ℤ → List ℕ → Places
places_from b low xs = record { lows = mask_of (λ x. int_le low (low_of b x)) xs; highs = mask_of (λ x. int_le low (high_of b x)) xs }

-- the places whose lows, and those whose highs, are at most a number
abbrev pub places_to : Bounds → ℤ → List ℕ → Places
places_to b high xs = record { lows = mask_of (λ x. int_le (low_of b x) high) xs; highs = mask_of (λ x. int_le (high_of b x) high) xs }

-- what stands past a list's end
abbrev pub no_places : Places
no_places = record { lows = 0; highs = 0 }

-- a list has, for each place of a list, the places of another up to its high
pub record AreUpToHighs (xs lasts : List ℕ) (b : Bounds) (upto : List Places) : Type 0 where
  pub a_place_each : length lasts ≤ length upto
  pub each : (j : ℕ) → j < length lasts → slice_index_or upto j no_places ≡ places_to b (high_of b (slice_index lasts j)) xs

-- each place of the first set is in the second
abbrev pub IsWithin : ℕ → ℕ → Type 0
IsWithin inner outer = bit_and inner outer ≡ inner
