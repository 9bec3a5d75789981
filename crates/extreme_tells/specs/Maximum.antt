-- The greatest of a list of variables: m has a value of the list, and none is greater. (FlatZinc: array_int_maximum,
-- int_max.)
use Rattle.std.specs.Prelude.{◌≡◌, ◌≤ℤ◌, ℕ, ℤ, pos, Bool, List, [], ◌∷◌, ◌++◌, int_le}
use Rattle.std.specs.List.{All, Any, filter}
use Rattle.tells.specs.declared.tell.Tell.{Tell}
use Rattle.interval.specs.Limits.{bound_limit}
use Rattle.interval.specs.Boxes.{Bounds, low_of, high_of}
use Rattle.tells.specs.Words.{low_tell, high_tell, value_of}
use Rattle.extreme_tells.specs.Extremes.{greatest_over, sole, told_each, told_of}

-- x can have a value as great as that of m
unfoldable pub max_reaches : ℕ → Bounds → ℕ → Bool
max_reaches m b x = int_le (low_of b m) (high_of b x)

-- no variable of the list is greater than m; where one alone can be as great as m, it is
abbrev pub max_member_tells : ℕ → List ℕ → Bounds → List Tell
max_member_tells m xs b =
    told_each (λ x. high_tell x (high_of b m)) xs
    ++ told_of (λ x. low_tell x (low_of b m)) (sole (filter (max_reaches m b) xs))

-- m lies between the greatest low and the greatest high of some variables
abbrev pub max_some_tells : ℕ → List ℕ → Bounds → List Tell
max_some_tells m xs b =
    low_tell m (greatest_over (low_of b) xs) ∷ high_tell m (greatest_over (high_of b) xs) ∷ max_member_tells m xs b

-- the tells on a box. An empty list has no greatest: no value is left for m
unfoldable pub max_tells : ℕ → List ℕ → Bounds → List Tell
max_tells m [] b = low_tell m (pos bound_limit) ∷ []
max_tells m (x ∷ xs) b = max_some_tells m (x ∷ xs) b

-- the relation
pub record IsGreatestOf (m : ℕ) (xs : List ℕ) (numbers : List ℤ) : Type 0 where
  pub reached : Any (λ x. value_of numbers x ≡ value_of numbers m) xs
  pub none_greater : All (λ x. value_of numbers x ≤ℤ value_of numbers m) xs
