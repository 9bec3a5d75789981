-- Sets of kernels: the next one in a sweep, and a set with a row more.
use Rattle.std.specs.Prelude.{◌≡◌, ℕ, ◌+◌, ◌-◌, ◌*◌, ◌<◌, ◌≤◌, Bool, true, false, ◌||◌, ◌&&◌, List, length, min, slice_index_or}
use Rattle.moved_set.specs.Words.{has_bit, names}
use Rattle.moved_set.specs.declared.mask.Mask.{Mask}

-- the first number from a place on that the test takes, or the count
pub record IsFirst (is_in : ℕ → Bool) (from count result : ℕ) : Type 0 where
  pub at_least : from ≤ result
  pub at_most : result ≤ count
  pub passed : (j : ℕ) → from ≤ j → j < result → is_in j ≡ false
  pub found : result < count → is_in result ≡ true

-- the place behind the last number before a place that the test takes, or 0
pub record IsLast (is_in : ℕ → Bool) (to result : ℕ) : Type 0 where
  pub at_most : result ≤ to
  pub passed : (j : ℕ) → result ≤ j → j < to → is_in j ≡ false
  pub found : 0 < result → is_in (result - 1) ≡ true

-- the least bit of a word that is 1, as a number of the set that has the word at a place, or the count
pub record IsLeastAt (bits place count result : ℕ) : Type 0 where
  pub bit : ℕ
  pub within : bit < 32
  pub one : has_bit bits bit ≡ true
  pub below : (i : ℕ) → i < bit → has_bit bits i ≡ false
  pub is : result ≡ min (place * 32 + bit) count

-- the place behind the greatest bit of a word that is 1
pub record IsGreatestAt (bits place result : ℕ) : Type 0 where
  pub bit : ℕ
  pub within : bit < 32
  pub one : has_bit bits bit ≡ true
  pub above : (i : ℕ) → bit < i → has_bit bits i ≡ false
  pub is : result ≡ place * 32 + bit + 1

-- the set has the numbers of the masks besides what it had
pub record IsUnited (old : List Bool) (row : List Mask) (new : List Bool) : Type 0 where
  pub same_length : length new ≡ length old
  pub each : (j : ℕ) → j < length old → slice_index_or new j false ≡ (slice_index_or old j false || names row j)

-- the set has those numbers of the masks that the test takes, besides what it had
pub record IsUnitedIn (old : List Bool) (row : List Mask) (is_wanted : ℕ → Bool) (new : List Bool) : Type 0 where
  pub same_length : length new ≡ length old
  pub each : (j : ℕ) → j < length old → slice_index_or new j false ≡ (slice_index_or old j false || (names row j && is_wanted j))
