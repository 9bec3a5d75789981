-- Groups of masks.
use Rattle.std.specs.Prelude.{◌≡◌, ℕ, ◌<◌, ◌==◌, ◌||◌, List, [], length, slice_index_or, All}
use Rattle.std.specs.List.{list_any}
use Rattle.moved_set.specs.declared.mask.Mask.{Mask}
use Rattle.moved_set.specs.Words.{hits, names}

-- the word of the mask at a place
abbrev pub place_at : List Mask → ℕ → ℕ
place_at masks at = (slice_index_or masks at (record { place = 0; bits = 0 })).place

-- the new masks have the numbers of the old ones and of one more
abbrev pub Adds : Mask → List Mask → List Mask → Type 0
Adds mask old new = (j : ℕ) → names new j ≡ (names old j || hits j mask)

-- the masks are of so many words
abbrev pub AreWithin : ℕ → List Mask → Type 0
AreWithin words masks = All (λ m. m.place < words) masks

-- the groups are those of so many rows of numbers
pub record AreGroupsOf (row : ℕ → List ℕ) (count : ℕ) (groups : List (List Mask)) : Type 0 where
  pub same_length : length groups ≡ count
  pub each : (i j : ℕ) → i < count → names (slice_index_or groups i []) j ≡ list_any (λ n. j == n) (row i)
