-- Ranges of numbers, and the tells that leave no number.
use Rattle.std.specs.Prelude.{ℕ, ℤ, pos, neg_ℤ, Bool, ◌&&◌, List, [], ◌∷◌, int_le}
use Rattle.tells.specs.declared.tell.Tell.{Tell}
use Rattle.interval.specs.Limits.{bound_limit}
use Rattle.tells.specs.Words.{low_tell, high_tell}

-- a list of variables has at most so many places
unfoldable pub place_limit : ℕ
place_limit = 256

-- the number is from low to high
unfoldable pub is_from_to : ℤ → ℤ → ℤ → Bool
is_from_to low high z = int_le low z && int_le z high

-- no number is left, for the first variable. Both bounds are told, so that no box keeps them
unfoldable pub none_tells : List ℕ → List Tell
none_tells [] = []
none_tells (x ∷ xs) = low_tell x (pos bound_limit) ∷ high_tell x (neg_ℤ (pos bound_limit)) ∷ []
