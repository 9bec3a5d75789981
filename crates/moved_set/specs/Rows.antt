-- Rows of numbers that have keys: for each key those numbers.
use Rattle.std.specs.Prelude.{◌≡◌, ℕ, ◌+◌, ◌<◌, ◌↔◌, ◌⊎◌, ◌++◌, List, [], ◌∷◌, length, map, slice_index_or, Vec, Contains}
use Rattle.std.specs.declared.alloc.Global.{Global}

-- the row at a place
abbrev pub row_at : List (Vec ℕ Global) → ℕ → List ℕ
row_at rows k = slice_index_or (map (λ row. row.items) rows) k []

-- the row has the numbers before a place that have the key
abbrev pub IsRowTo : (ℕ → List ℕ) → ℕ → ℕ → List ℕ → Type 0
IsRowTo keys to key row = (j : ℕ) → Contains row j ↔ ((j < to) × Contains (keys j) key)

-- there is a row for each of so many keys
pub record AreRowsTo (keys : ℕ → List ℕ) (to count : ℕ) (rows : List (Vec ℕ Global)) : Type 0 where
  pub length_is : length rows ≡ count
  pub each : (key : ℕ) → key < count → IsRowTo keys to key (row_at rows key)

-- ---- while they are built

-- the number is appended to the row, or the row has it already and stays as it was
abbrev pub PutsOnce : ℕ → List ℕ → List ℕ → Type 0
PutsOnce j old new = (new ≡ old ++ j ∷ []) ⊎ ((new ≡ old) × Contains old j)

-- the rows of the numbers before a place become those of the numbers up to it, whatever keys those before it have
abbrev pub PutsAll : List ℕ → ℕ → List (Vec ℕ Global) → List (Vec ℕ Global) → Type 0
PutsAll own to old new = (keys : ℕ → List ℕ) (count : ℕ) → keys to ≡ own → AreRowsTo keys to count old → AreRowsTo keys (to + 1) count new
