-- The domains of a mix, one by one, and two mixes side by side.
use Rattle.std.specs.Prelude.{ℕ, ℤ, pos, ◌≡◌, ◌<◌, [], ◌∷◌, length, slice_set, bit_and, ⊤}
use Rattle.std.specs.Int.{int_max, int_min}
use Rattle.bit_domain.specs.declared.dom.Dom.{Dom}
use Rattle.bit_domain.specs.declared.dom.Dom.TheVariants.{Bits, Pair}
use Rattle.bit_domain.specs.Mixes.{Mix, dom_of}
pub use Rattle.bit_domain.specs.Mixes.{IsBits}

abbrev pub IsPair : Dom → Type 0
IsPair (Bits base set) = ⊥
IsPair (Pair low high) = ⊤

abbrev pub set_in : Dom → ℕ
set_in (Bits base set) = set
set_in (Pair low high) = 0

abbrev pub low_in : Dom → ℤ
low_in (Bits base set) = pos 0
low_in (Pair low high) = low

abbrev pub high_in : Dom → ℤ
high_in (Bits base set) = pos 0
high_in (Pair low high) = high

-- the same domain with another set, lower bound or upper bound
abbrev pub with_set : Dom → ℕ → Dom
with_set (Bits base set) new = Bits base new
with_set (Pair low high) new = Pair low high

abbrev pub with_low : Dom → ℤ → Dom
with_low (Bits base set) new = Bits base set
with_low (Pair low high) new = Pair new high

abbrev pub with_high : Dom → ℤ → Dom
with_high (Bits base set) new = Bits base set
with_high (Pair low high) new = Pair low new

-- the variable v of a mix is kept as bits, or as a pair
abbrev pub IsBitsAt : Mix → ℕ → Type 0
IsBitsAt m v = (v < length m) × IsBits (dom_of m v)

abbrev pub IsPairAt : Mix → ℕ → Type 0
IsPairAt m v = (v < length m) × IsPair (dom_of m v)

-- the bits, the lower and the upper bound of variable v
abbrev pub set_of : Mix → ℕ → ℕ
set_of m v = set_in (dom_of m v)

abbrev pub low_of : Mix → ℕ → ℤ
low_of m v = low_in (dom_of m v)

abbrev pub high_of : Mix → ℕ → ℤ
high_of m v = high_in (dom_of m v)

-- the mix m with the domain of variable v changed
abbrev pub put_of : Mix → ℕ → Dom → Mix
put_of m v d = slice_set m v d

-- the mix m with the bits, the lower or the upper bound of variable v changed
abbrev pub set_put : Mix → ℕ → ℕ → Mix
set_put m v set = put_of m v (with_set (dom_of m v) set)

abbrev pub low_put : Mix → ℕ → ℤ → Mix
low_put m v low = put_of m v (with_low (dom_of m v) low)

abbrev pub high_put : Mix → ℕ → ℤ → Mix
high_put m v high = put_of m v (with_high (dom_of m v) high)

-- two domains are bits from the same base, or both pairs
abbrev pub IsLike : Dom → Dom → Type 0
IsLike (Bits base set) (Bits other_base other) = base ≡ other_base
IsLike (Bits base set) (Pair low high) = ⊥
IsLike (Pair low high) (Bits base set) = ⊥
IsLike (Pair low high) (Pair other_low other_high) = ⊤

pub record AreAlike (m n : Mix) : Type 0 where
  pub same_length : length m ≡ length n
  pub doms : (v : ℕ) → v < length n → IsLike (dom_of m v) (dom_of n v)

-- what two domains of one variable both leave
abbrev pub both_of : Dom → Dom → Dom
both_of (Bits base set) (Bits other_base other) = Bits base (bit_and set other)
both_of (Bits base set) (Pair low high) = Bits base set
both_of (Pair low high) (Bits base set) = Pair low high
both_of (Pair low high) (Pair other_low other_high) = Pair (int_max low other_low) (int_min high other_high)

-- for each variable what both mixes leave
abbrev pub tighter_of : Mix → Mix → Mix
tighter_of [] n = []
tighter_of (d ∷ m) [] = d ∷ m
tighter_of (d ∷ m) (e ∷ n) = both_of d e ∷ tighter_of m n
