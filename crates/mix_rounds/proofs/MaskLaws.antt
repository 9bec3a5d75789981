-- What bits that are kept by a mask leave.
use Rattle.std.proofs.Common.{◌≡◌, ◌≢◌, ℕ, zero, suc, ℤ, pos, ◌+◌, ◌-◌, ◌*◌, ◌/◌, ◌%◌, ◌^◌, ◌<◌, ◌≤◌, ◌+ℤ◌, refl, sym, ap, subst, ◌∙◌, arith, inl, inr, w64}
use Rattle.std.specs.Prelude.{◌↔◌}
use Rattle.std.specs.Int.{bit_at}
use Rattle.std.proofs.lemmas.Nat.{one_shl, pow_below}
use Rattle.std.proofs.lemmas.Nat.Bits.{bit_at-lt, bit_at_above, bit_at_not, bit_at_ones, bit_at_ones_above, bit_at_mask_below, bit_at_mask_inside, bit_at-pow_same, bit_at-pow_other, ones_shl, ones_shr}
use Rattle.std.proofs.lemmas.Bool.{cases_lt}
use Rattle.bit_domain.specs.Bits.{IsSubset}
use Rattle.bit_domain.specs.declared.dom.Dom.{Dom}
use Rattle.bit_domain.specs.declared.dom.Dom.TheVariants.{Bits, Pair}
use Rattle.bit_domain.specs.Mixes.{Has, IsDomInRange, IsInsideDom}
use Rattle.mix_store.specs.Domains.{IsBits, set_in}
use Rattle.mix_rounds.specs.Masks.{AreBitsOf}
use Rattle.mix_rounds.specs.Steps.{base_in}

-- the bits from a place on, up to a place, and all but one
pub above_is : (place i : ℕ) → place < 64 → i < 64 → (bit_at ((2 ^ 64 - 1) * 2 ^ place % 2 ^ 64) i ≡ 1) ↔ (place ≤ i)
above_is place i p h =
    let e : (2 ^ 64 - 1) * 2 ^ place % 2 ^ 64 ≡ 2 ^ 64 - 2 ^ place = ones_shl 64 place (omega arith) in
    let b : bit_at ((2 ^ 64 - 1) * 2 ^ place % 2 ^ 64) i ≡ bit_at (2 ^ 64 - 2 ^ place) i = ap (λ n. bit_at n i) e in (
      (λ one. elim (cases_lt i place) [
        | inl l ↦ let z : bit_at (2 ^ 64 - 2 ^ place) i ≡ 0 = bit_at_mask_below place 64 i l in absurd (omega arith)
        | inr le ↦ le
      ]),
      (λ le. b ∙ bit_at_mask_inside place 64 i le h),
    )

pub below_is : (place i : ℕ) → place < 64 → i < 64 → (bit_at ((2 ^ 64 - 1) / 2 ^ (63 - place)) i ≡ 1) ↔ (i ≤ place)
below_is place i p h =
    let e : (2 ^ 64 - 1) / 2 ^ (63 - place) ≡ 2 ^ (place + 1) - 1 = ones_shr 64 (63 - place) (omega arith) ∙ ap (λ (n : ℕ). 2 ^ n - 1) (omega arith) in
    let b : bit_at ((2 ^ 64 - 1) / 2 ^ (63 - place)) i ≡ bit_at (2 ^ (place + 1) - 1) i = ap (λ n. bit_at n i) e in (
      (λ one. elim (cases_lt i (place + 1)) [
        | inl l ↦ omega arith
        | inr le ↦ let z : bit_at (2 ^ (place + 1) - 1) i ≡ 0 = bit_at_ones_above (place + 1) i le in absurd (omega arith)
      ]),
      (λ le. b ∙ bit_at_ones (place + 1) i (omega arith)),
    )

pub but_is : (place i : ℕ) → place < 64 → i < 64 → (bit_at (2 ^ 64 - 1 - 1 * 2 ^ place % 2 ^ 64) i ≡ 1) ↔ (i ≢ place)
but_is place i p h =
    let e : bit_at (2 ^ 64 - 1 - 1 * 2 ^ place % 2 ^ 64) i ≡ bit_at (2 ^ 64 - 1 - 2 ^ place) i = ap (λ n. bit_at (2 ^ 64 - 1 - n) i) (one_shl place 64 p) in
    let b : bit_at (2 ^ 64 - 1 - 2 ^ place) i ≡ 1 - bit_at (2 ^ place) i = bit_at_not w64 (2 ^ place) i (pow_below place 64 p) h in (
      (λ one q. let same : bit_at (2 ^ place) i ≡ 1 = subst (λ (n : ℕ). bit_at (2 ^ place) n ≡ 1) (sym q) (bit_at-pow_same place) in absurd (omega arith)),
      (λ ne. let z : bit_at (2 ^ place) i ≡ 0 = bit_at-pow_other place i ne in omega arith),
    )

-- a floor whose numbers are all ones that the mask keeps
pub held_by_mask : (fact : ℤ → Type 0) (d f : Dom) (base : ℤ) (mask : ℕ) → IsBits d → IsDomInRange d → base ≡ base_in d → IsInsideDom f d → AreBitsOf fact base mask →
    ((z : ℤ) → Has f z → fact z) → IsSubset (set_in f) mask
held_by_mask fact (Bits b s) (Bits c t) base mask bits r e inside are held i = elim (cases_lt i 64) [
  | inl small ↦ one (bit_at t i) refl (bit_at-lt t i) small
  | inr large ↦ let z : bit_at s i ≡ 0 = bit_at_above s 64 i r.1 large in omega (arith, inside.1 i)
]
  where
    one : (n : ℕ) → bit_at t i ≡ n → n < 2 → i < 64 → n ≤ bit_at mask i
    one zero at l small = omega arith
    one (suc zero) at l small =
        let bit : bit_at mask i ≡ 1 = (are i small).1 (subst fact (ap (λ x. x +ℤ pos i) (inside.0 ∙ sym e)) (held (c +ℤ pos i) (i, at, refl))) in
        omega arith
    one (suc (suc n)) at l small = absurd (omega arith)
held_by_mask fact (Bits b s) (Pair x y) base mask bits r e inside are held i = absurd inside
held_by_mask fact (Pair x y) f base mask bits r e inside are held i = absurd bits

-- the numbers that are left are ones that the mask keeps
pub kept_by_mask : (fact : ℤ → Type 0) (d e : Dom) (base : ℤ) (mask : ℕ) → IsBits d → IsDomInRange d → base ≡ base_in d → IsInsideDom e d → AreBitsOf fact base mask →
    IsSubset (set_in e) mask → (z : ℤ) → Has e z → fact z
kept_by_mask fact (Bits b s) (Bits c t) base mask bits r e inside are sub z (i, one, at) = elim (cases_lt i 64) [
  | inl small ↦
      let l = bit_at-lt mask i in
      let bit : bit_at mask i ≡ 1 = omega (arith, sub i) in
      subst fact (ap (λ x. x +ℤ pos i) (e ∙ sym inside.0) ∙ sym at) ((are i small).0 bit)
  | inr large ↦ let zero : bit_at s i ≡ 0 = bit_at_above s 64 i r.1 large in absurd (omega (arith, inside.1 i))
]
kept_by_mask fact (Bits b s) (Pair x y) base mask bits r e inside are sub z h = absurd inside
kept_by_mask fact (Pair x y) f base mask bits r e inside are sub z h = absurd bits
