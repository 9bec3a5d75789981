-- A set of integers as its greatest ranges, sorted: no two touch or overlap.
use Rattle.std.specs.Prelude.{◌≡◌, ◌↔◌, ℤ, pos, ◌+ℤ◌, ◌≤ℤ◌, ◌<ℤ◌, List, [], ◌∷◌, if◌then◌else◌, int_le, Contains, Any}

-- a range, from its first number to its last
abbrev pub Range : Type 0
Range = ℤ × ℤ

-- the number lies in one of the ranges
abbrev pub IsIn : List Range → ℤ → Type 0
IsIn ranges z = Any (λ r. (r.0 ≤ℤ z) × (z ≤ℤ r.1)) ranges

-- each range holds a number, lies behind `bound`, and leaves a gap to the next
abbrev pub AreApartFrom : ℤ → List Range → Type 0
AreApartFrom bound [] = Unit {0}
AreApartFrom bound (r ∷ rs) = (bound <ℤ r.0) × (r.0 ≤ℤ r.1) × AreApartFrom (r.1 +ℤ pos 1) rs

-- the ranges rise, and none touches or overlaps the next
abbrev pub AreApart : List Range → Type 0
AreApart [] = Unit {0}
AreApart (r ∷ rs) = (r.0 ≤ℤ r.1) × AreApartFrom (r.1 +ℤ pos 1) rs

-- these are the sorted greatest ranges of the set of these numbers
pub record AreRangesOf (numbers : List ℤ) (ranges : List Range) : Type 0 where
  pub apart : AreApart ranges
  pub same : (z : ℤ) → IsIn ranges z ↔ Contains numbers z

-- a number put in front of the first that isn't less
abbrev pub insert_number : ℤ → List ℤ → List ℤ
insert_number z [] = z ∷ []
insert_number z (x ∷ xs) = if int_le z x then z ∷ x ∷ xs else x ∷ insert_number z xs

-- the numbers from the least to the greatest
abbrev pub rising : List ℤ → List ℤ
rising [] = []
rising (x ∷ xs) = insert_number x (rising xs)

-- the ranges of rising numbers, of which those so far make the range from `low` to `high`
abbrev pub ranges_on : ℤ → ℤ → List ℤ → List Range
ranges_on low high [] = (low, high) ∷ []
ranges_on low high (z ∷ zs) = if int_le z (high +ℤ pos 1) then ranges_on low z zs else (low, high) ∷ ranges_on z z zs

unfoldable pub ranges_of_rising : List ℤ → List Range
ranges_of_rising [] = []
ranges_of_rising (z ∷ zs) = ranges_on z z zs

-- the ranges of the set of these numbers, which may repeat and be in any order
unfoldable pub ranges_of : List ℤ → List Range
ranges_of numbers = ranges_of_rising (rising numbers)

-- the ranges of the set of all numbers from `low` to `high`
abbrev pub range_of : ℤ → ℤ → List Range
range_of low high = if int_le low high then (low, high) ∷ [] else []

-- each list of numbers has these ranges
abbrev pub HaveRanges : Type 0
HaveRanges = (numbers : List ℤ) → AreRangesOf numbers (ranges_of numbers)

-- and no others
abbrev pub RangesAreUnique : Type 0
RangesAreUnique = (numbers : List ℤ) (rs ss : List Range) → AreRangesOf numbers rs → AreRangesOf numbers ss → rs ≡ ss

-- an interval holds the numbers between its ends
abbrev pub IntervalsHold : Type 0
IntervalsHold = (low high : ℤ) → AreApart (range_of low high) × ((z : ℤ) → IsIn (range_of low high) z ↔ (low ≤ℤ z) × (z ≤ℤ high))
