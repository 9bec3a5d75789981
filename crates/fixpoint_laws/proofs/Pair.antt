-- What tighter bounds of one variable mean for a box.
use Rattle.std.proofs.Common.{◌≡◌, ℕ, zero, suc, ℤ, pos, ◌+◌, ◌-ℤ◌, ◌<◌, ◌≤ℤ◌, [], ◌∷◌, length, arith, inl, inr, ap}
use Rattle.std.specs.Prelude.{unsigned_abs}
use Rattle.std.proofs.lemmas.Int.{ints}
use Rattle.std.proofs.lemmas.List.{get_or-set_same}
use Rattle.interval.specs.Boxes.{Bounds, low_of, high_of, put_of, IsProper, IsInside, width_sum_of}
use Rattle.fixpoint_laws.specs.Changes.{IsTightening, TightensOne}
use Rattle.fixpoint_laws.proofs.Boxes.{get_put, length_put, span, span_parts}

low_at : (b : Bounds) (v w : ℕ) → w ≡ v → low_of b w ≡ low_of b v
low_at b v w e = ap (low_of b) e

high_at : (b : Bounds) (v w : ℕ) → w ≡ v → high_of b w ≡ high_of b v
high_at b v w e = ap (high_of b) e

pub put_inside : (b : Bounds) (v : ℕ) (low high : ℤ) → IsTightening b v low high → IsInside (put_of b v low high) b
put_inside b v low high t = record {
  same_length = length_put b v low high;
  lows = λ w h. elim (get_put b v low high w t.variable) [
    | inl x ↦ omega (arith, ints, x.1, low_at b v w x.0, t.low_rises)
    | inr x ↦ omega (arith, ints, x.0)
  ];
  highs = λ w h. elim (get_put b v low high w t.variable) [
    | inl x ↦ omega (arith, ints, x.2, high_at b v w x.0, t.high_falls)
    | inr x ↦ omega (arith, ints, x.1)
  ];
}

pub put_holds : (b c : Bounds) (v : ℕ) (low high : ℤ) → v < length b → IsInside c b → low ≤ℤ low_of c v →
    high_of c v ≤ℤ high → IsInside c (put_of b v low high)
put_holds b c v low high vh i l u = record {
  same_length = omega (arith, length_put b v low high, i.same_length);
  lows = λ w h. let k : w < length b = omega (arith, length_put b v low high) in elim (get_put b v low high w vh) [
    | inl x ↦ omega (arith, ints, x.1, low_at c v w x.0, l)
    | inr x ↦ omega (arith, ints, x.0, i.lows w k)
  ];
  highs = λ w h. let k : w < length b = omega (arith, length_put b v low high) in elim (get_put b v low high w vh) [
    | inl x ↦ omega (arith, ints, x.2, high_at c v w x.0, u)
    | inr x ↦ omega (arith, ints, x.1, i.highs w k)
  ];
}

pub put_proper : (b : Bounds) (v : ℕ) (low high : ℤ) → v < length b → IsProper b → low ≤ℤ high → IsProper (put_of b v low high)
put_proper b v low high vh f le w h =
    let k : w < length b = omega (arith, length_put b v low high) in
    elim (get_put b v low high w vh) [
      | inl x ↦ omega (arith, ints, x.1, x.2, le)
      | inr x ↦ omega (arith, ints, x.0, x.1, f w k)
    ]

-- the changed pair itself
pub low_put : (b : Bounds) (v : ℕ) (low high : ℤ) → v < length b → low_of (put_of b v low high) v ≡ low
low_put b v low high h = ap (λ (p : ℤ × ℤ). p.0) (get_or-set_same b v (low, high) (pos 0, pos 0) h)

pub high_put : (b : Bounds) (v : ℕ) (low high : ℤ) → v < length b → high_of (put_of b v low high) v ≡ high
high_put b v low high h = ap (λ (p : ℤ × ℤ). p.1) (get_or-set_same b v (low, high) (pos 0, pos 0) h)

width_put : (b : Bounds) (v : ℕ) (low high : ℤ) → v < length b →
    width_sum_of (put_of b v low high) + span (low_of b v) (high_of b v) ≡ width_sum_of b + span low high
unfolding width_sum_of
width_put [] v low high h = absurd (omega arith)
width_put (p ∷ b) zero low high h = omega arith
width_put (p ∷ b) (suc v) low high h =
    let rest = width_put b v low high (omega arith) in omega arith

pub put_widths : (b : Bounds) (v : ℕ) (low high : ℤ) → IsTightening b v low high → IsProper b → low ≤ℤ high →
    width_sum_of (put_of b v low high) + unsigned_abs (low -ℤ low_of b v) + unsigned_abs (high_of b v -ℤ high) ≡ width_sum_of b
put_widths b v low high t f le =
    let parts = span_parts (low_of b v) (high_of b v) low high t.low_rises t.high_falls le in
    let put = width_put b v low high t.variable in
    omega arith

pub tightens_one : TightensOne
tightens_one = record { inside = put_inside; holds = put_holds; proper = put_proper; widths = put_widths }
