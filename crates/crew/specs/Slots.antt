-- Slots of ends, one for each number.
use Rattle.std.specs.Prelude.{ℕ, ◌≡◌, ◌<◌, List, map, length, slice_index_or, Option, None, Some}
use Rattle.std.specs.List.{All, Contains}
use Rattle.tickets.specs.Counting.{times}
use Rattle.crew.specs.Ends.{numbers_of}

-- so many slots, with nothing in them
pub record AreEmpty {E : Type 0} (count : ℕ) (slots : List (Option E)) : Type 0 where
  pub length_is : length slots ≡ count
  pub none : All (λ slot. slot ≡ None) slots

-- slot k is empty only where no run is of number k, and what it holds is the end of a run of number k
pub record HoldEnds {E : Type 0} (count : ℕ) (runs : List (ℕ × E)) (slots : List (Option E)) : Type 0 where
  pub length_is : length slots ≡ count
  pub missing : (k : ℕ) → k < count → slice_index_or slots k None ≡ None → times k (numbers_of runs) ≡ 0
  pub of_run : (k : ℕ) (end : E) → slice_index_or slots k None ≡ Some end → Contains runs (k, end)

-- the slots hold these ends
abbrev pub AreFilledWith : {E : Type 0} → List (Option E) → List E → Type 0
AreFilledWith slots ends = slots ≡ map Some ends
