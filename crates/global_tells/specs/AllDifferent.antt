-- All different: no two places of a list of variables have the same number.
use Rattle.std.specs.Prelude.{◌≢◌, ℕ, ℤ, pos, ◌+ℤ◌, ◌-ℤ◌, Bool, not, ◌&&◌, List, [], ◌∷◌, ◌++◌, count_by, int_lt, int_le}
use Rattle.std.specs.Ordering.{int_eq}
use Rattle.std.specs.List.{AllPairs, flat_map}
use Rattle.tells.specs.declared.tell.Tell.{Tell}
use Rattle.interval.specs.Boxes.{Bounds, low_of, high_of}
use Rattle.tells.specs.Words.{low_tell, high_tell, when, value_of}
use Rattle.global_tells.specs.Ranges.{is_from_to, none_tells}

-- the variable has no number but those from low to high
unfoldable pub is_inside : Bounds → ℤ → ℤ → ℕ → Bool
is_inside b low high x = int_le low (low_of b x) && int_le (high_of b x) high

-- how many places have no other numbers
unfoldable pub places_inside : Bounds → ℤ → ℤ → List ℕ → ℕ
places_inside b low high xs = count_by (is_inside b low high) xs

-- the numbers from low to high are taken by others
abbrev pub outside_tells : Bounds → ℤ → ℤ → ℕ → List Tell
outside_tells b low high x =
    when (not (is_inside b low high x))
    (when (is_from_to low high (low_of b x)) (low_tell x (high +ℤ pos 1) ∷ [])
    ++ when (is_from_to low high (high_of b x)) (high_tell x (low -ℤ pos 1) ∷ []))

-- how many numbers there are from low to high
abbrev pub numbers_between : ℤ → ℤ → ℤ
numbers_between low high = (high -ℤ low) +ℤ pos 1

-- where more places have no numbers but those of a range than it has numbers, none is left; where as many, its numbers
-- are taken from the others
abbrev pub counted_tells : List ℕ → Bounds → ℤ → ℤ → ℕ → List Tell
counted_tells xs b low high count =
    when (int_lt (numbers_between low high) (pos count)) (none_tells xs)
    ++ when (int_eq (pos count) (numbers_between low high)) (flat_map (outside_tells b low high) xs)

abbrev pub range_tells : List ℕ → Bounds → ℤ → ℤ → List Tell
range_tells xs b low high = when (int_le low high) (counted_tells xs b low high (places_inside b low high xs))

-- the tells on a box: of each range from the low of a place to the high of a place
abbrev pub all_different_tells : List ℕ → Bounds → List Tell
all_different_tells xs b = flat_map (λ x. flat_map (λ y. range_tells xs b (low_of b x) (high_of b y)) xs) xs

-- the relation: no two places have the same number
abbrev pub AreAllDifferent : List ℕ → List ℤ → Type 0
AreAllDifferent xs numbers = AllPairs (λ x y. value_of numbers x ≢ value_of numbers y) xs
