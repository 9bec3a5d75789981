-- Lists of masks, one after the other in one list, with the places where each begins and the last ends.
use Rattle.std.specs.Prelude.{◌≡◌, ℕ, ◌+◌, ◌-◌, ◌<◌, ◌≤◌, List, length, map, slice_index}
use Rattle.std.specs.List.{slice_range, range_with_len}
use Rattle.moved_set.specs.declared.mask.Mask.{Mask}

-- the lists
abbrev pub groups_of : List ℕ → List Mask → List (List Mask)
groups_of starts masks = map (λ i. slice_range masks (slice_index starts i) (slice_index starts (i + 1))) (range_with_len 0 (length starts - 1))

-- the places lie on the list in order, and the last is its end
pub record IsFlat (starts : List ℕ) (masks : List Mask) : Type 0 where
  pub some : 0 < length starts
  pub within : (i : ℕ) → i < length starts → slice_index starts i ≤ length masks
  pub rising : (i : ℕ) → i + 1 < length starts → slice_index starts i ≤ slice_index starts (i + 1)
  pub last : slice_index starts (length starts - 1) ≡ length masks
