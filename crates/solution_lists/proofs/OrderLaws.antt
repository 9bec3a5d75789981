-- What lies in a box, and boxes with other bounds for one variable.
use Rattle.std.proofs.Common.{◌≡◌, ◌≢◌, ℕ, zero, suc, ℤ, pos, ◌+ℤ◌, ◌<◌, ◌≤ℤ◌, ◌<ℤ◌, List, [], ◌∷◌, length, get_or, drop, refl, sym, ap, subst, ◌∙◌, ⊎_elim, arith}
use Rattle.std.proofs.lemmas.Int.{ints, by_lt_z}
use Rattle.std.proofs.lemmas.Bool.{cases_eq}
use Rattle.std.proofs.lemmas.List.{length-set, length-map, length-drop, length-take-le, get_or-set_same, get_or-set_other, get_or-take, get_or-drop}
use Rattle.interval.specs.Boxes.{Bounds, low_of, high_of, put_of, IsInside}
use Rattle.guarded_tell.specs.Words.{value_of, point_of}
use Rattle.constraint_model.specs.declared.model.FznModel.{FznModel}
use Rattle.branching.specs.Tree.{AreFixed, values_of}
use Rattle.solution_lists.specs.Order.{value_at}

-- ---- numbers

pub not_less : (x : ℤ) → x <ℤ x → ⊥
not_less x h = omega (arith, ints)

pub squeezed : (x y : ℤ) → x ≤ℤ y → (x <ℤ y → ⊥) → x ≡ y
squeezed x y le never = by_lt_z x y (λ l. absurd (never l)) (λ h. omega (arith, ints))

-- ---- what is in a box

-- the values lie between the bounds of their variables
pub record LiesBetween (count : ℕ) (b : Bounds) (a : List ℤ) : Type 0 where
  pub long : length a ≡ count
  pub lows : (v : ℕ) → v < count → low_of b (suc v) ≤ℤ value_at a v
  pub highs : (v : ℕ) → v < count → value_at a v ≤ℤ high_of b (suc v)

pub le_through : (x y z : ℤ) → x ≤ℤ y → y ≤ℤ z → x ≤ℤ z
le_through x y z p q = omega (arith, ints)

pub lies_wider : (count : ℕ) (inner outer : Bounds) (a : List ℤ) → count < length outer → IsInside inner outer → LiesBetween count inner a → LiesBetween count outer a
lies_wider count inner outer a long inside lies = record {
  long = lies.long;
  lows = λ v h. le_through (low_of outer (suc v)) (low_of inner (suc v)) (value_at a v) (inside.lows (suc v) (omega arith)) (lies.lows v h);
  highs = λ v h. le_through (value_at a v) (high_of inner (suc v)) (high_of outer (suc v)) (lies.highs v h) (inside.highs (suc v) (omega arith));
}

low_point : (b : Bounds) (v : ℕ) → value_of (point_of b) v ≡ low_of b v
low_point [] v = refl
low_point (p ∷ b) zero = refl
low_point (p ∷ b) (suc v) = low_point b v

-- the value of a declared variable in a box that fixes it
pub value_is : (model : FznModel) (g : Bounds) (v : ℕ) → v < length model.vars → length model.vars < length g → value_at (values_of model g) v ≡ low_of g (suc v)
value_is model g v h long =
    get_or-take (length model.vars) (drop 1 (point_of g)) v (pos 0) h ∙ get_or-drop 1 (point_of g) v (pos 0) ∙ ap (λ (n : ℕ). get_or (point_of g) n (pos 0)) (omega arith) ∙ low_point g (suc v)

pub le_same : (x y : ℤ) → x ≡ y → x ≤ℤ y
le_same x y e = omega (arith, ints)

pub lies_fixed : (model : FznModel) (g : Bounds) → length model.vars < length g → AreFixed model g → LiesBetween (length model.vars) g (values_of model g)
lies_fixed model g long are = record {
  long = length-take-le (length model.vars) (drop 1 (point_of g)) (omega (arith, length-drop 1 (point_of g), length-map {B = ℤ} g (λ p. p.0)));
  lows = λ v h. le_same (low_of g (suc v)) (value_at (values_of model g) v) (sym (value_is model g v h long));
  highs = λ v h. le_same (value_at (values_of model g) v) (high_of g (suc v)) (value_is model g v h long ∙ are v h);
}

-- ---- other bounds

pub low_same : (g : Bounds) (p : ℕ) (low high : ℤ) → p < length g → low_of (put_of g p low high) p ≡ low
low_same g p low high h = ap (λ (q : ℤ × ℤ). q.0) (get_or-set_same g p (low, high) (pos 0, pos 0) h)

pub high_same : (g : Bounds) (p : ℕ) (low high : ℤ) → p < length g → high_of (put_of g p low high) p ≡ high
high_same g p low high h = ap (λ (q : ℤ × ℤ). q.1) (get_or-set_same g p (low, high) (pos 0, pos 0) h)

low_other : (g : Bounds) (p v : ℕ) (low high : ℤ) → v ≢ p → low_of (put_of g p low high) v ≡ low_of g v
low_other g p v low high ne = ap (λ (q : ℤ × ℤ). q.0) (get_or-set_other g p v (low, high) (pos 0, pos 0) ne)

high_other : (g : Bounds) (p v : ℕ) (low high : ℤ) → v ≢ p → high_of (put_of g p low high) v ≡ high_of g v
high_other g p v low high ne = ap (λ (q : ℤ × ℤ). q.1) (get_or-set_other g p v (low, high) (pos 0, pos 0) ne)

-- a box with tighter bounds for one variable is inside
pub put_inside : (g : Bounds) (p : ℕ) (low high : ℤ) → p < length g → low_of g p ≤ℤ low → high ≤ℤ high_of g p → IsInside (put_of g p low high) g
put_inside g p low high h lo hi = record {
  same_length = length-set g p (low, high);
  lows = λ v lt.
      ⊎_elim (λ (e : v ≡ p). subst (λ (w : ℕ). low_of g w ≤ℤ low_of (put_of g p low high) w) (sym e) (subst (λ (z : ℤ). low_of g p ≤ℤ z) (sym (low_same g p low high h)) lo))
      (λ (ne : v ≢ p). le_same (low_of g v) (low_of (put_of g p low high) v) (sym (low_other g p v low high ne))) (cases_eq v p);
  highs = λ v lt.
      ⊎_elim (λ (e : v ≡ p). subst (λ (w : ℕ). high_of (put_of g p low high) w ≤ℤ high_of g w) (sym e) (subst (λ (z : ℤ). z ≤ℤ high_of g p) (sym (high_same g p low high h)) hi))
      (λ (ne : v ≢ p). le_same (high_of (put_of g p low high) v) (high_of g v) (high_other g p v low high ne)) (cases_eq v p);
}

pub less_le : (x y : ℤ) → x <ℤ y → x ≤ℤ y
less_le x y h = omega (arith, ints)

pub same_le : (x : ℤ) → x ≤ℤ x
same_le x = omega (arith, ints)

pub between : (z low high : ℤ) → low ≡ high → low ≤ℤ z → z ≤ℤ high → z ≡ low
between z low high e a b = omega (arith, ints)

pub lesser_by : (x y low : ℤ) → x ≤ℤ low → (low +ℤ pos 1) ≤ℤ y → x <ℤ y
lesser_by x y low p q = omega (arith, ints)
