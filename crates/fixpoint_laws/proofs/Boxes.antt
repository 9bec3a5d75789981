-- Reading one pair of a box that was changed, and the width of a pair.
use Rattle.std.proofs.Common.{◌≡◌, ℕ, ℤ, pos, negsuc, ◌+◌, ◌-ℤ◌, ◌<◌, ◌≤◌, ◌≤ℤ◌, length, refl, arith, ◌⊎◌, inl, inr, ap}
use Rattle.std.specs.Prelude.{unsigned_abs}
use Rattle.std.proofs.Math.ListN.{length-set}
use Rattle.std.proofs.lemmas.List.{get_or-set_other}
use Rattle.std.proofs.lemmas.Grind.{get_or-set_at}
use Rattle.std.proofs.lemmas.Bool.{cases_eq}
use Rattle.std.proofs.lemmas.Int.{ints}
use Rattle.interval.specs.Boxes.{Bounds, low_of, high_of, put_of}

-- a pair of a changed box is the new one at its place, and the old one elsewhere
pub get_put : (b : Bounds) (v : ℕ) (low high : ℤ) (w : ℕ) → v < length b →
    ((w ≡ v) × (low_of (put_of b v low high) w ≡ low) × (high_of (put_of b v low high) w ≡ high)) ⊎
    ((low_of (put_of b v low high) w ≡ low_of b w) × (high_of (put_of b v low high) w ≡ high_of b w))
get_put b v low high w h = elim (cases_eq w v) [
  | inl e ↦ inl (e, ap (λ (p : ℤ × ℤ). p.0) (get_or-set_at b v w (low, high) (pos 0, pos 0) e h), ap (λ (p : ℤ × ℤ). p.1) (get_or-set_at b v w (low, high) (pos 0, pos 0) e h))
  | inr ne ↦ inr (ap (λ (p : ℤ × ℤ). p.0) (get_or-set_other b v w (low, high) (pos 0, pos 0) ne), ap (λ (p : ℤ × ℤ). p.1) (get_or-set_other b v w (low, high) (pos 0, pos 0) ne))
]

pub length_put : (b : Bounds) (v : ℕ) (low high : ℤ) → length (put_of b v low high) ≡ length b
length_put b v low high = length-set b v (low, high)

-- how far a pair reaches
abbrev pub span : ℤ → ℤ → ℕ
span low high = unsigned_abs (high -ℤ low)

pub abs_is : (z : ℤ) → pos 0 ≤ℤ z → pos (unsigned_abs z) ≡ z
abs_is (pos n) h = refl
abs_is (negsuc n) h = grind (arith, ints)

pub span_is : (low high : ℤ) → low ≤ℤ high → pos (span low high) ≡ high -ℤ low
span_is low high h = abs_is (high -ℤ low) (omega (arith, ints))

pub span_falls : (low high l h : ℤ) → low ≤ℤ l → h ≤ℤ high → l ≤ℤ h → span l h ≤ span low high
span_falls low high l h a b c =
    let e : pos (span l h) ≡ h -ℤ l = span_is l h c in
    let d : low ≤ℤ high = omega (arith, ints) in
    let f : pos (span low high) ≡ high -ℤ low = span_is low high d in
    omega (arith, ints)

pub span_same : (low high l h : ℤ) → low ≤ℤ l → h ≤ℤ high → l ≤ℤ h → span l h ≡ span low high → (l ≡ low) × (h ≡ high)
span_same low high l h a b c s =
    let e : pos (span l h) ≡ h -ℤ l = span_is l h c in
    let d : low ≤ℤ high = omega (arith, ints) in
    let f : pos (span low high) ≡ high -ℤ low = span_is low high d in
    (omega (arith, ints), omega (arith, ints))

pub span_parts : (low high l h : ℤ) → low ≤ℤ l → h ≤ℤ high → l ≤ℤ h → span l h + span low l + span h high ≡ span low high
span_parts low high l h a b c =
    let e : pos (span l h) ≡ h -ℤ l = span_is l h c in
    let d : low ≤ℤ high = omega (arith, ints) in
    let f : pos (span low high) ≡ high -ℤ low = span_is low high d in
    let x : pos (span low l) ≡ l -ℤ low = span_is low l a in
    let y : pos (span h high) ≡ high -ℤ h = span_is h high b in
    omega (arith, ints)
