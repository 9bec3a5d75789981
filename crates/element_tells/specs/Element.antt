-- The element at a place of a list: x is one of the places, counted from 1, and the variable at it equals c. (FlatZinc:
-- array_int_element, array_var_int_element, array_bool_element and array_var_bool_element.)
use Rattle.std.specs.Prelude.{◌≡◌, ℕ, ℤ, pos, Bool, ◌&&◌, List, [], ◌∷◌, ◌++◌, length, int_le}
use Rattle.std.specs.Ordering.{int_eq}
use Rattle.std.specs.List.{Any, enumerate_from, filter, flat_map}
use Rattle.tells.specs.declared.tell.Tell.{Tell}
use Rattle.interval.specs.Limits.{bound_limit}
use Rattle.interval.specs.Boxes.{Bounds, low_of, high_of}
use Rattle.tells.specs.Words.{low_tell, high_tell, when, value_of}
use Rattle.extreme_tells.specs.Extremes.{least_over, greatest_over}

-- the places of a list, counted from 1, each with its variable
abbrev pub places_of : List ℕ → List (ℕ × ℕ)
places_of entries = enumerate_from 1 entries

-- the variable lies between the two bounds
abbrev pub between_tells : ℕ → ℤ → ℤ → List Tell
between_tells v low high = low_tell v low ∷ high_tell v high ∷ []

-- the place is within x
abbrev pub is_within : ℕ → Bounds → ℕ → Bool
is_within x b j = int_le (low_of b x) (pos j) && int_le (pos j) (high_of b x)

-- y and c can be equal
abbrev pub can_equal : ℕ → ℕ → Bounds → Bool
can_equal y c b = int_le (low_of b y) (high_of b c) && int_le (low_of b c) (high_of b y)

-- x can be the place
unfoldable pub can_be : ℕ → ℕ → Bounds → ℕ × ℕ → Bool
can_be x c b p = is_within x b p.0 && can_equal p.1 c b

-- x and c lie within what is left: x between the places, c between the bounds of their variables. Where nothing is left
-- there is no value for x
unfoldable pub hull_tells : ℕ → ℕ → Bounds → List (ℕ × ℕ) → List Tell
hull_tells x c b [] = low_tell x (pos bound_limit) ∷ []
hull_tells x c b (p ∷ ps) =
    between_tells x (least_over (λ q. pos q.0) (p ∷ ps)) (greatest_over (λ q. pos q.0) (p ∷ ps))
    ++ between_tells c (least_over (λ q. low_of b q.1) (p ∷ ps)) (greatest_over (λ q. high_of b q.1) (p ∷ ps))

-- y and c are equal
abbrev pub equal_tells : ℕ → ℕ → Bounds → List Tell
equal_tells y c b = between_tells y (low_of b c) (high_of b c) ++ between_tells c (low_of b y) (high_of b y)

-- x is fixed to the place
unfoldable pub is_fixed_to : ℕ → Bounds → ℕ → Bool
is_fixed_to x b j = int_eq (low_of b x) (pos j) && int_eq (high_of b x) (pos j)

-- the variable at the place that x is fixed to equals c
abbrev pub fixed_tells : ℕ → ℕ → Bounds → ℕ × ℕ → List Tell
fixed_tells x c b p = when (is_fixed_to x b p.0) (equal_tells p.1 c b)

-- the tells on a box
abbrev pub element_tells : ℕ → List ℕ → ℕ → Bounds → List Tell
element_tells x entries c b =
    between_tells x (pos 1) (pos (length entries))
    ++ (hull_tells x c b (filter (can_be x c b) (places_of entries)) ++ flat_map (fixed_tells x c b) (places_of entries))

-- x is a place, and the variable at it has the value of c
abbrev pub IsElement : ℕ → List ℕ → ℕ → List ℤ → Type 0
IsElement x entries c numbers =
    Any (λ p. (value_of numbers x ≡ pos p.0) × (value_of numbers p.1 ≡ value_of numbers c)) (places_of entries)
