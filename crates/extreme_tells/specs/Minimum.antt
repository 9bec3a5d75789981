-- The least of a list of variables: m has a value of the list, and none is less. (FlatZinc: array_int_minimum, int_min.)
use Rattle.std.specs.Prelude.{◌≡◌, ◌≤ℤ◌, ℕ, ℤ, pos, Bool, List, [], ◌∷◌, ◌++◌, int_le}
use Rattle.std.specs.List.{All, Any, filter}
use Rattle.tells.specs.declared.tell.Tell.{Tell}
use Rattle.interval.specs.Limits.{bound_limit}
use Rattle.interval.specs.Boxes.{Bounds, high_of, low_of}
use Rattle.tells.specs.Words.{high_tell, low_tell, value_of}
use Rattle.extreme_tells.specs.Extremes.{least_over, sole, told_each, told_of}

-- x can have a value as small as that of m
unfoldable pub min_reaches : ℕ → Bounds → ℕ → Bool
min_reaches m b x = int_le (low_of b x) (high_of b m)

-- no variable of the list is less than m; where one alone can be as small as m, it is
abbrev pub min_member_tells : ℕ → List ℕ → Bounds → List Tell
min_member_tells m xs b =
    told_each (λ x. low_tell x (low_of b m)) xs
    ++ told_of (λ x. high_tell x (high_of b m)) (sole (filter (min_reaches m b) xs))

-- m lies between the least low and the least high of some variables
abbrev pub min_some_tells : ℕ → List ℕ → Bounds → List Tell
min_some_tells m xs b =
    high_tell m (least_over (high_of b) xs) ∷ low_tell m (least_over (low_of b) xs) ∷ min_member_tells m xs b

-- the tells on a box. An empty list has no least: no value is left for m
unfoldable pub min_tells : ℕ → List ℕ → Bounds → List Tell
min_tells m [] b = low_tell m (pos bound_limit) ∷ []
min_tells m (x ∷ xs) b = min_some_tells m (x ∷ xs) b

-- the relation
pub record IsLeastOf (m : ℕ) (xs : List ℕ) (numbers : List ℤ) : Type 0 where
  pub reached : Any (λ x. value_of numbers x ≡ value_of numbers m) xs
  pub none_less : All (λ x. value_of numbers m ≤ℤ value_of numbers x) xs
