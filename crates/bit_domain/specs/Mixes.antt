-- Mixes: for each variable a domain, of at most 64 numbers as the bits of a word, or of all numbers from a low to a high.
-- (Finite domains as bit sets, beside intervals.)
use Rattle.std.specs.Prelude.{◌≡◌, ℕ, ℤ, pos, ◌+◌, ◌-◌, ◌^◌, ◌+ℤ◌, ◌-ℤ◌, ◌≤◌, ◌<◌, ◌≤ℤ◌, ◌&&◌, ⊤, List, [], ◌∷◌, length, map, int_le, slice_index_or, unsigned_abs, if◌then◌else◌}
use Rattle.std.specs.Int.{bit_at}
use Rattle.interval.specs.Limits.{IsBound, box_limit}
use Rattle.interval.specs.Boxes.{Bounds}
use Rattle.bit_domain.specs.Bits.{members, IsSubset}
use Rattle.bit_domain.specs.declared.dom.Dom.{Dom}
use Rattle.bit_domain.specs.declared.dom.Dom.TheVariants.{Bits, Pair}

-- ---- domains

-- the domain has the number z: for bits, z is as far from the base as some bit that is set
abbrev pub Has : Dom → ℤ → Type 0
Has (Bits base set) z = (i : ℕ) × (bit_at set i ≡ 1) × (z ≡ base +ℤ pos i)
Has (Pair low high) z = (low ≤ℤ z) × (z ≤ℤ high)

-- the domain is kept as bits
abbrev pub IsBits : Dom → Type 0
IsBits (Bits base set) = ⊤
IsBits (Pair low high) = ⊥

-- the numbers of a set of bits, rising
abbrev pub values_from : ℤ → ℕ → List ℤ
values_from base set = map (λ i. base +ℤ pos i) (members set)

-- the numbers of a domain that is kept as bits, rising. Those of a pair aren't listed
abbrev pub values_of : Dom → List ℤ
values_of (Bits base set) = values_from base set
values_of (Pair low high) = []

-- the last of some numbers
unfoldable pub last_of : ℤ → List ℤ → ℤ
last_of z [] = z
last_of z (y ∷ ys) = last_of y ys

-- the first and the last of a list; of an empty one a pair that no number lies between
unfoldable pub ends_of : List ℤ → ℤ × ℤ
ends_of [] = (pos 1, pos 0)
ends_of (z ∷ zs) = (z, last_of z zs)

-- the least and the greatest number of a domain, as a pair of bounds; it is crossed where the domain has no number
abbrev pub hull_of : Dom → ℤ × ℤ
hull_of (Bits base set) = ends_of (values_from base set)
hull_of (Pair low high) = (low, high)

-- the domain can be kept: each number that it has, and each of its bounds, is within the range
abbrev pub IsDomInRange : Dom → Type 0
IsDomInRange (Bits base set) =
    IsBound base × (set < 2 ^ 64) × ((i : ℕ) → bit_at set i ≡ 1 → IsBound (base +ℤ pos i))
IsDomInRange (Pair low high) = IsBound low × IsBound high

-- a domain is inside another of its kind: bits over the same base, where each number of the one is one of the other, and
-- pairs as the pairs of boxes
abbrev pub IsInsideDom : Dom → Dom → Type 0
IsInsideDom (Bits b s) (Bits c t) = (b ≡ c) × IsSubset s t
IsInsideDom (Pair a b) (Pair c d) = (c ≤ℤ a) × (b ≤ℤ d)
IsInsideDom (Bits b s) (Pair c d) = ⊥
IsInsideDom (Pair a b) (Bits c t) = ⊥

-- the domain of the numbers from low to high: bits over the low, where there are at least one and at most 64
abbrev pub dom_between : ℤ → ℤ → Dom
dom_between low high =
    if int_le low high && int_le high (low +ℤ pos 63)
    then Bits low (2 ^ (unsigned_abs (high -ℤ low) + 1) - 1)
    else Pair low high

-- ---- mixes

-- what contracts see of a mix
abbrev pub Mix : Type 0
Mix = List Dom

-- the domain of variable v
abbrev pub dom_of : Mix → ℕ → Dom
dom_of m v = slice_index_or m v (Pair (pos 0) (pos 0))

-- the box of the least and the greatest numbers
abbrev pub hull : Mix → Bounds
hull m = map hull_of m

-- the mix of a box's pairs
abbrev pub mix_of : Bounds → Mix
mix_of b = map (λ p. dom_between p.0 p.1) b

-- a mix is short enough, and each of its domains can be kept
pub record IsMixInRange (m : Mix) : Type 0 where
  pub short : length m ≤ box_limit
  pub doms : (v : ℕ) → v < length m → IsDomInRange (dom_of m v)

-- each domain of the inner mix is inside that of the outer
pub record IsInsideMix (inner outer : Mix) : Type 0 where
  pub same_length : length inner ≡ length outer
  pub doms : (v : ℕ) → v < length outer → IsInsideDom (dom_of inner v) (dom_of outer v)
