-- Domains of one number.
use Rattle.std.proofs.Common.{◌≡◌, ◌≢◌, ℕ, suc, ◌^◌, ◌<◌, ◌≤◌, ℤ, pos, ◌+ℤ◌, ◌-ℤ◌, ◌≤ℤ◌, refl, sym, ap, ◌∙◌, subst, arith}
use Rattle.std.specs.Prelude.{unsigned_abs}
use Rattle.std.specs.Int.{bit_at}
use Rattle.std.proofs.Math.Pow.{pow_mono}
use Rattle.std.proofs.Math.Nat.{pow-suc}
use Rattle.std.proofs.lemmas.Nat.{pow_pos}
use Rattle.std.proofs.lemmas.Int.{ints, by_lt_z}
use Rattle.std.proofs.lemmas.Nat.Bits.{bit_at-pow_same, bit_at-pow_other, bit_at_above, bit_at-lt}
use mathlib.Core.Logic.{dite}
use native.Mathlib.Decide.{ℕ_discrete}
use Rattle.interval.specs.Limits.{IsBound, bound_limit, largest_number}
use Rattle.bit_domain.specs.Bits.{IsSubset}
use Rattle.bit_domain.specs.declared.dom.Dom.{Dom}
use Rattle.bit_domain.specs.declared.dom.Dom.TheVariants.{Bits, Pair}
use Rattle.bit_domain.specs.Mixes.{Has, IsDomInRange, IsInsideDom, hull_of}

-- the domain of the same kind, of bits over the same base, that has the number z alone
abbrev pub point_dom : Dom → ℤ → Dom
point_dom (Bits base set) z = Bits base (2 ^ unsigned_abs (z -ℤ base))
point_dom (Pair low high) z = Pair z z

-- p is a domain inside d that has the number z alone
pub record IsPointOf (p d : Dom) (z : ℤ) : Type 0 where
  pub inside : IsInsideDom p d
  pub has : Has p z
  pub hull : hull_of p ≡ (z, z)
  pub in_range : IsDomInRange p

abbrev pub IsPointIn : Dom → ℤ → Type 0
IsPointIn d z = IsPointOf (point_dom d z) d z

abbrev pub PointsAreInside : Type 0
PointsAreInside = (d : Dom) (z : ℤ) → IsDomInRange d → Has d z → IsPointIn d z

-- the laws of domains that are used
pub record Hulls : Type 0 where
  pub within : (d : Dom) (z : ℤ) → IsDomInRange d → Has d z → ((hull_of d).0 ≤ℤ z) × (z ≤ℤ (hull_of d).1)
  pub ends : (d : Dom) → IsDomInRange d → (hull_of d).0 ≤ℤ (hull_of d).1 → Has d (hull_of d).0 × Has d (hull_of d).1

-- the one bit is among those of a set that has it
one_subset : (set k : ℕ) → bit_at set k ≡ 1 → IsSubset (2 ^ k) set
one_subset set k inside i =
    let small = bit_at-lt (2 ^ k) i in
    dite (ℕ_discrete i k)
    (λ (e : i ≡ k). let at : bit_at set i ≡ 1 = ap (λ (j : ℕ). bit_at set j) e ∙ inside in omega arith)
    (λ (n : i ≢ k). let none = bit_at-pow_other k i n in omega arith)

-- which bit it is
one_bit : (k i : ℕ) → bit_at (2 ^ k) i ≡ 1 → i ≡ k
one_bit k i inside = dite (ℕ_discrete i k) (λ (e : i ≡ k). e) (λ (n : i ≢ k). let none = bit_at-pow_other k i n in absurd (omega arith))

small_place : (set k : ℕ) → set < 2 ^ 64 → bit_at set k ≡ 1 → k < 64
small_place set k short inside = by_lt_z (pos k) (pos 64)
    (λ less. omega (arith, ints))
    (λ le. let none = bit_at_above set 64 k short (omega (arith, ints)) in absurd (omega arith))

one_short : (k : ℕ) → k < 64 → 2 ^ k < 2 ^ 64
one_short k small =
    let p : 2 ^ suc k ≤ 2 ^ 64 = pow_mono {i = suc k} {j = 64} (omega arith) in
    let twice = pow-suc 2 k in
    let some = pow_pos k in
    omega arith

bound_between : (low high z : ℤ) → IsBound low → IsBound high → low ≤ℤ z → z ≤ℤ high → IsBound z × IsBound z
unfolding bound_limit largest_number
bound_between low high z f g p q = (omega (arith, ints), omega (arith, ints))

place_of : (base z : ℤ) (k : ℕ) → z ≡ base +ℤ pos k → unsigned_abs (z -ℤ base) ≡ k
place_of base z k e = omega (arith, ints)

same_ends : (p : ℤ × ℤ) (z : ℤ) → p.0 ≡ z → p.1 ≡ z → p ≡ (z, z)
same_ends p z e f = (λ i. (e i, f i))

only_bit : (base : ℤ) (k : ℕ) (y : ℤ) → Has (Bits base (2 ^ k)) y → y ≡ base +ℤ pos k
only_bit base k y h = let e : h.0 ≡ k = one_bit k h.0 h.1 in h.2 ∙ ap (λ (i : ℕ). base +ℤ pos i) e

only_pair : (z y : ℤ) → Has (Pair z z) y → y ≡ z
only_pair z y h = let p = h.0 in let q = h.1 in omega (arith, ints)

hull_is : Hulls → (d : Dom) (z : ℤ) → IsDomInRange d → Has d z → ((y : ℤ) → Has d y → y ≡ z) → hull_of d ≡ (z, z)
hull_is laws d z range has only =
    let w = laws.within d z range has in
    let p = w.0 in
    let q = w.1 in
    let ends = laws.ends d range (omega (arith, ints)) in
    same_ends (hull_of d) z (only (hull_of d).0 ends.0) (only (hull_of d).1 ends.1)

bits_point : Hulls → (base : ℤ) (set k : ℕ) (z : ℤ) → IsDomInRange (Bits base set) → bit_at set k ≡ 1 → z ≡ base +ℤ pos k
    → IsPointOf (Bits base (2 ^ k)) (Bits base set) z
bits_point laws base set k z range inside at =
    let small = small_place set k range.1 inside in
    let in_range : IsDomInRange (Bits base (2 ^ k)) = (
      range.0,
      one_short k small,
      λ i one. subst (λ (j : ℕ). IsBound (base +ℤ pos j)) (sym (one_bit k i one)) (range.2 k inside),
    ) in
    let has : Has (Bits base (2 ^ k)) z = (k, bit_at-pow_same k, at) in
    let hull = hull_is laws (Bits base (2 ^ k)) z in_range has (λ y h. only_bit base k y h ∙ sym at) in
    record { inside = (refl, one_subset set k inside); has = has; hull = hull; in_range = in_range }

pub points_inside : Hulls → PointsAreInside
points_inside laws (Bits base set) z range h =
    let k : ℕ = h.0 in
    let e : k ≡ unsigned_abs (z -ℤ base) = sym (place_of base z k h.2) in
    subst
    (λ (n : ℕ). IsPointOf (Bits base n) (Bits base set) z)
    (ap (λ (i : ℕ). 2 ^ i) e)
    (bits_point laws base set k z range h.1 h.2)
points_inside laws (Pair low high) z range h = record {
  inside = h;
  has = (omega (arith, ints), omega (arith, ints));
  hull = refl;
  in_range = between low high z range h;
}
  where
    between : (low high z : ℤ) → IsBound low × IsBound high → (low ≤ℤ z) × (z ≤ℤ high) → IsBound z × IsBound z
    between low high z range h = bound_between low high z range.0 range.1 h.0 h.1
