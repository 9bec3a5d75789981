-- A set that changes, and the sets that it was at its marks. The words of each are those of now with the changes since its
-- mark undone; so no set is copied.
use Rattle.std.specs.Prelude.{◌≡◌, ℕ, ◌≤◌, ◌<◌, Bool, List, [], ◌∷◌, length, map, drop, slice_set, All, AllPairs}
use Rattle.moved_set.specs.declared.mask.Mask.{Mask}
use Rattle.moved_set.specs.Words.{set_of}

-- the set as it is, and those that it was, the last one last
pub record Layers : Type 0 where
  pub current : List Bool
  pub stack : List (List Bool)

-- these words with changes undone, the last of them first. A change names a word, and what it was before
unfoldable pub undone : List Mask → List ℕ → List ℕ
undone [] words = words
undone (m ∷ ms) words = slice_set (undone ms words) m.place m.bits

-- the set at a mark: the changes since then are undone
abbrev pub layer_at : List Mask → List ℕ → ℕ → ℕ → List Bool
layer_at trail words count mark = set_of (undone (drop mark trail) words) count

abbrev pub layers_of : List ℕ → ℕ → List Mask → List ℕ → Layers
layers_of words count trail marks = record { current = set_of words count; stack = map (layer_at trail words count) marks }

-- the marks lie on the trail, none before an earlier one
pub record AreOn (trail : List Mask) (marks : List ℕ) : Type 0 where
  pub within : All (λ m. m ≤ length trail) marks
  pub rising : AllPairs (λ m n. m ≤ n) marks

-- the sets at all marks on the old trail are the same with the new words and their trail, whose changes are of the words' places
pub record Spares (old : List ℕ) (trail : List Mask) (new : List ℕ) (trail_new : List Mask) : Type 0 where
  pub same_length : length new ≡ length old
  pub longer : length trail ≤ length trail_new
  pub places : All (λ m. m.place < length old) trail → All (λ m. m.place < length old) trail_new
  pub same : (mark : ℕ) → mark ≤ length trail → undone (drop mark trail_new) new ≡ undone (drop mark trail) old
