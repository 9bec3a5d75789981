-- The runs that some workers made, and their ends in order.
use Rattle.std.specs.Prelude.{ℕ, ◌≡◌, ◌≤◌, ◌↔◌, List, map, length, slice_get, Some}
use Rattle.std.specs.List.{Contains, range_with_len}
use Rattle.tickets.specs.Counting.{times, IsEachOnce}

-- the numbers of some runs, in the order in which they were made
abbrev pub numbers_of : {E : Type 0} → List (ℕ × E) → List ℕ
numbers_of runs = map (λ run. run.0) runs

-- Each number below the count was run once and no other was run, and the end of number k stands at place k
pub record AreInOrder {E : Type 0} (count : ℕ) (runs : List (ℕ × E)) (ends : List E) : Type 0 where
  pub length_is : length ends ≡ count
  pub each_once : IsEachOnce count (numbers_of runs)
  pub places : (k : ℕ) (end : E) → Contains runs (k, end) ↔ (slice_get ends k ≡ Some end)

-- The ends, in order, of some runs of which this stands, made by so many workers. One worker makes the runs in the order of
-- the numbers: 0 first, each other number behind the one before it.
pub record AreEndsOf {E : Type 0} (count workers : ℕ) (stands : List (ℕ × E) → Type 0) (ends : List E) : Type 0 where
  pub runs : List (ℕ × E)
  pub stand : stands runs
  pub in_order : AreInOrder count runs ends
  pub in_turn : workers ≡ 1 → numbers_of runs ≡ range_with_len 0 count

-- This stands of some runs: none of a number that isn't below the count, and of each number one at most
pub record AreSomeRuns {E : Type 0} (count : ℕ) (stands : List (ℕ × E) → Type 0) : Type 0 where
  pub runs : List (ℕ × E)
  pub stand : stands runs
  pub once : (k : ℕ) → times k (numbers_of runs) ≤ 1
  pub below : (k : ℕ) → count ≤ k → times k (numbers_of runs) ≡ 0
