-- A set of numbers as bits: number v has bit v % 32 of word v / 32.
use Rattle.std.specs.Prelude.{ℕ, ◌/◌, ◌%◌, ◌==◌, Bool, ◌&&◌, List, map, slice_index}
use Rattle.std.specs.Int.{bit_at}
use Rattle.std.specs.List.{list_any, range_with_len}
use Rattle.moved_set.specs.declared.mask.Mask.{Mask}

-- the bit k of a word is 1
abbrev pub has_bit : ℕ → ℕ → Bool
has_bit word k = bit_at word k == 1

-- the number v is in the set that the words are
abbrev pub has : List ℕ → ℕ → Bool
has words v = has_bit (slice_index words (v / 32)) (v % 32)

-- which of the numbers below the count are in the set
abbrev pub set_of : List ℕ → ℕ → List Bool
set_of words count = map (has words) (range_with_len 0 count)

-- the number v is one of a mask's, or of some mask's
abbrev pub hits : ℕ → Mask → Bool
hits v m = (m.place == v / 32) && has_bit m.bits (v % 32)

abbrev pub names : List Mask → ℕ → Bool
names masks v = list_any (hits v) masks
