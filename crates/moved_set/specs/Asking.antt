-- For each variable the kernels that name it, as masks.
use Rattle.std.specs.Prelude.{◌≡◌, ℕ, ◌+◌, ◌*◌, ◌++◌, ◌<◌, Bool, ◌||◌, false, List, [], length, map, slice_index_or, Vec}
use Rattle.std.specs.List.{list_any, range_with_len}
use Rattle.std.specs.declared.alloc.Global.{Global}
use Rattle.guarded_tell.specs.Words.{Side, Low, High}
use Rattle.moved_set.specs.Words.{names}
use Rattle.moved_set.specs.Rows.{row_at}
use Rattle.moved_set.specs.declared.mask.Mask.{Mask}

-- the masks at a place
abbrev pub masks_at : List (List Mask) → ℕ → List Mask
masks_at groups i = slice_index_or groups i []

-- some of these lists has the kernel among its users
abbrev pub some_uses : List (List Mask) → ℕ → List ℕ → Bool
some_uses users j lists = list_any (λ l. names (masks_at users l) j) lists

-- the masks of the kernels of which a variable is an own one: three groups for each variable
abbrev pub row_of : List (List Mask) → ℕ → List Mask
row_of own v = masks_at own (3 * v) ++ masks_at own (3 * v + 1) ++ masks_at own (3 * v + 2)

-- those of them that are asked where its bound on this side moves
abbrev pub side_row : List (List Mask) → Side → ℕ → List Mask
side_row own Low v = masks_at own (3 * v) ++ masks_at own (3 * v + 1)
side_row own High v = masks_at own (3 * v + 1) ++ masks_at own (3 * v + 2)

-- the kernel is asked by the variable: by the row of that, or by a list that the variable is in
abbrev pub asks : (ℕ → List Mask) → List (Vec ℕ Global) → List (List Mask) → ℕ → ℕ → Bool
asks row lists_of users v j = names (row v) j || some_uses users j (row_at lists_of v)

-- for each kernel the variables by which it is asked
abbrev pub asked_sets : (ℕ → List Mask) → List (Vec ℕ Global) → List (List Mask) → ℕ → ℕ → List (List Bool)
asked_sets row lists_of users count kernels = map (λ j. map (λ v. asks row lists_of users v j) (range_with_len 0 count)) (range_with_len 0 kernels)

-- the set has the kernels of a test besides what it had
pub record IsAsked (old : List Bool) (is_more : ℕ → Bool) (new : List Bool) : Type 0 where
  pub same_length : length new ≡ length old
  pub each : (j : ℕ) → j < length old → slice_index_or new j false ≡ (slice_index_or old j false || is_more j)
