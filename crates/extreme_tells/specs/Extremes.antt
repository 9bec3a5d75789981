-- The least and the greatest over a list, its one element, and the one at a place.
use Rattle.std.specs.Prelude.{zero, suc, ℕ, ℤ, pos, List, [], ◌∷◌, drop, take, Option, None, Some}
use Rattle.std.specs.Int.{int_min, int_max}
use Rattle.std.specs.List.{flat_map}
use Rattle.tells.specs.declared.tell.Tell.{Tell}

-- a list of variables of which one is the greatest, the least or the one at a place has at most so many
unfoldable pub member_limit : ℕ
member_limit = 65537

-- the least, and the greatest, of z and of the numbers that f gives along the list
unfoldable pub least_with : {X : Type 0} → (X → ℤ) → ℤ → List X → ℤ
least_with f z [] = z
least_with f z (x ∷ xs) = least_with f (int_min z (f x)) xs

unfoldable pub greatest_with : {X : Type 0} → (X → ℤ) → ℤ → List X → ℤ
greatest_with f z [] = z
greatest_with f z (x ∷ xs) = greatest_with f (int_max z (f x)) xs

-- the least, and the greatest, of the numbers that f gives along a list of some elements
unfoldable pub least_over : {X : Type 0} → (X → ℤ) → List X → ℤ
least_over f [] = pos 0
least_over f (x ∷ xs) = least_with f (f x) xs

unfoldable pub greatest_over : {X : Type 0} → (X → ℤ) → List X → ℤ
greatest_over f [] = pos 0
greatest_over f (x ∷ xs) = greatest_with f (f x) xs

-- the element of a list that has exactly one
unfoldable pub sole : {X : Type 0} → List X → Option X
sole [] = None
sole (x ∷ []) = Some x
sole (x ∷ y ∷ xs) = None

-- the element at a place, if there is one
abbrev pub at_place : {X : Type 0} → List X → ℕ → List X
at_place xs i = take 1 (drop i xs)

-- the last of the first `count` elements, if there is one
abbrev pub last_of : {X : Type 0} → List X → ℕ → List X
last_of xs zero = []
last_of xs (suc i) = at_place xs i

-- the tell of each element, and of one that may be there
abbrev pub told_each : {X : Type 0} → (X → Tell) → List X → List Tell
told_each f xs = flat_map (λ x. f x ∷ []) xs

abbrev pub told_of : {X : Type 0} → (X → Tell) → Option X → List Tell
told_of f None = []
told_of f (Some x) = f x ∷ []
