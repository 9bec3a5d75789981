-- The box of what lies in two boxes, one variable after another.
use Rattle.std.proofs.Common.{◌≡◌, ◌⊎◌, ℕ, ℤ, ◌+◌, ◌<◌, ◌≤ℤ◌, length, subst, sym, ap, ◌∙◌, ⊎_elim, arith}
use Rattle.std.specs.Prelude.{pos}
use Rattle.std.proofs.lemmas.Int.{ints}
use Rattle.std.proofs.lemmas.List.{get_or-set_same}
use Rattle.interval.specs.Boxes.{Bounds, low_of, high_of, put_of, IsInside}
use Rattle.fixpoint_laws.specs.Changes.{TightensOne}
use Rattle.free_search.proofs.FreeLaws.{one_more}

-- the bounds of a variable in the inner box are as tight as those in the outer
abbrev pub IsTight : Bounds → Bounds → ℕ → Type 0
IsTight inner outer i = (low_of outer i ≤ℤ low_of inner i) × (high_of inner i ≤ℤ high_of outer i)

through : (x y z : ℤ) → x ≤ℤ y → y ≤ℤ z → x ≤ℤ z
through x y z h k = omega (arith, ints)

from_equal : (x y z : ℤ) → x ≤ℤ y → z ≡ y → x ≤ℤ z
from_equal x y z h e = omega (arith, ints)

to_equal : (x y z : ℤ) → x ≤ℤ y → z ≡ x → z ≤ℤ y
to_equal x y z h e = omega (arith, ints)

below_both : (x y low z : ℤ) → (low ≡ x) ⊎ (low ≡ y) → x ≤ℤ z → y ≤ℤ z → low ≤ℤ z
below_both x y low z one h k = ⊎_elim (λ (e : low ≡ x). to_equal x z low h e) (λ (e : low ≡ y). to_equal y z low k e) one

above_both : (x y high z : ℤ) → (high ≡ x) ⊎ (high ≡ y) → z ≤ℤ x → z ≤ℤ y → z ≤ℤ high
above_both x y high z one h k = ⊎_elim (λ (e : high ≡ x). from_equal z x high h e) (λ (e : high ≡ y). from_equal z y high k e) one

module _ (tight : TightensOne) (met next : Bounds) (v : ℕ) (low high : ℤ) (is_next : next ≡ put_of met v low high) (lt : v < length met) where
  pub cut_inside : low_of met v ≤ℤ low → high ≤ℤ high_of met v → IsInside next met
  cut_inside l h = subst (λ (b : Bounds). IsInside b met) (sym is_next)
      (tight.inside met v low high (record { variable = lt; low_rises = l; high_falls = h }))

  pub cut_holds : (second b : Bounds) → (low ≡ low_of met v) ⊎ (low ≡ low_of second v) → (high ≡ high_of met v) ⊎ (high ≡ high_of second v) →
      IsInside b met → IsTight b second v → IsInside b next
  cut_holds second b l h inside is_tight = subst (λ (c : Bounds). IsInside b c) (sym is_next)
      (tight.holds met b v low high lt inside (below_both (low_of met v) (low_of second v) low (low_of b v) l (inside.lows v lt) is_tight.0)
      (above_both (high_of met v) (high_of second v) high (high_of b v) h (inside.highs v lt) is_tight.1))

  pub cut_second : (second : Bounds) → IsInside next met → low_of second v ≤ℤ low → high ≤ℤ high_of second v →
      ((i : ℕ) → i < v → IsTight met second i) → (i : ℕ) → i < v + 1 → IsTight next second i
  cut_second second inside l h before = one_more (IsTight next second) v
      (λ i below.
      let within : i < length met = omega arith in (
        through (low_of second i) (low_of met i) (low_of next i) (before i below).0 (inside.lows i within),
        through (high_of next i) (high_of met i) (high_of second i) (inside.highs i within) (before i below).1,
      )) (
        from_equal (low_of second v) low (low_of next v) l
            (ap (λ (b : Bounds). low_of b v) is_next ∙ ap (λ (p : ℤ × ℤ). p.0) (get_or-set_same met v (low, high) (pos 0, pos 0) lt)),
        to_equal high (high_of second v) (high_of next v) h
            (ap (λ (b : Bounds). high_of b v) is_next ∙ ap (λ (p : ℤ × ℤ). p.1) (get_or-set_same met v (low, high) (pos 0, pos 0) lt)),
      )

pub as_put : (met next : Bounds) (v : ℕ) (low high x y : ℤ) → next ≡ put_of met v x y → x ≡ low → y ≡ high → next ≡ put_of met v low high
as_put met next v low high x y is e f = is ∙ ap (λ (z : ℤ). put_of met v z y) e ∙ ap (λ (z : ℤ). put_of met v low z) f
