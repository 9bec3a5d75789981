-- Sets of small numbers, as the bits of a word.
use Rattle.std.specs.Prelude.{ℕ, ◌≡◌, ◌<◌, ◌≤◌, List, nat_eq}
use Rattle.std.specs.Int.{bit_at}
use Rattle.std.specs.List.{filter, range_with_len}

-- the members of a set, rising
unfoldable pub members : ℕ → List ℕ
members set = filter (λ i. nat_eq (bit_at set i) 1) (range_with_len 0 64)

-- the one set has no member that the other hasn't
abbrev pub IsSubset : ℕ → ℕ → Type 0
IsSubset inner outer = (i : ℕ) → bit_at inner i ≤ bit_at outer i

-- i is the least member, and the greatest
pub record IsLeast (set i : ℕ) : Type 0 where
  pub small : i < 64
  pub inside : bit_at set i ≡ 1
  pub below : (j : ℕ) → j < i → bit_at set j ≡ 0

pub record IsGreatest (set i : ℕ) : Type 0 where
  pub small : i < 64
  pub inside : bit_at set i ≡ 1
  pub above : (j : ℕ) → i < j → bit_at set j ≡ 0
