-- Pages of 64 words of bits: those in which some bit is 1 are marked, so that a sweep passes over the others.
use Rattle.std.specs.Prelude.{◌≡◌, ℕ, ◌/◌, ◌<◌, Bool, true, List, slice_index_or}
use Rattle.moved_set.specs.Words.{has}

-- the page of each number below the count whose bit is 1 is marked, or has no mark
abbrev pub AreMarked : List ℕ → List Bool → ℕ → Type 0
AreMarked words pages count = (j : ℕ) → j < count → has words j ≡ true → slice_index_or pages (j / 2048) true ≡ true
