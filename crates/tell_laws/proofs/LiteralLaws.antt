-- Literals: in a box inside a box, and told to a point.
use Rattle.std.proofs.Common.{◌≡◌, ℕ, zero, suc, [], ◌∷◌, Bool, true, false, not, ◌&&◌, ℤ, pos, ◌≤ℤ◌, refl, sym, arith}
use Rattle.std.proofs.lemmas.Int.{ints}
use Rattle.std.proofs.lemmas.Bool.{and_parts}
use Rattle.std.specs.Prelude.{IsTrue}
use Rattle.tells.specs.declared.tell.Lit.{Lit}
use Rattle.interval.specs.Limits.{largest_number, bound_limit, clamp_of, ClampOrder}
use Rattle.interval.specs.Boxes.{Bounds, low_of, high_of}
use Rattle.tells.specs.Words.{Keeps, literal_true, sign_true, sign_tell, is_sure, is_out, value_of, point_of}

-- a number between two has the truth of a literal that both have
sign_between : (s : Bool) (l z h : ℤ) → l ≤ℤ z → z ≤ℤ h → sign_true s l ≡ true → sign_true s h ≡ true → true ≡ sign_true s z
sign_between true l z h p q e f = omega (arith, ints)
sign_between false l z h p q e f = omega (arith, ints)

sign_between_not : (s : Bool) (l z h : ℤ) → l ≤ℤ z → z ≤ℤ h → sign_true s l ≡ false → sign_true s h ≡ false → false ≡ sign_true s z
sign_between_not true l z h p q e f = omega (arith, ints)
sign_between_not false l z h p q e f = omega (arith, ints)

not_parts : (x y : Bool) → (not x && not y) ≡ true → (x ≡ false) × (y ≡ false)
not_parts true y e = absurd (cc)
not_parts false true e = absurd (cc)
not_parts false false e = (refl, refl)

module _ (inner outer : Bounds) where
  -- a literal that is sure, or out, in a box is so in a box inside
  pub sure_inside : (l : Lit) → low_of outer l.var ≤ℤ low_of inner l.var → low_of inner l.var ≤ℤ high_of inner l.var → high_of inner l.var ≤ℤ high_of outer l.var
      → is_sure l outer ≡ true → is_sure l inner ≡ true
  unfolding is_sure
  sure_inside l p q r e =
      let parts = and_parts (literal_true l (low_of outer l.var)) (literal_true l (high_of outer l.var)) e in
      let low = sign_between l.positive (low_of outer l.var) (low_of inner l.var) (high_of outer l.var) p (omega (arith, ints)) parts.0 parts.1 in
      let high = sign_between l.positive (low_of outer l.var) (high_of inner l.var) (high_of outer l.var) (omega (arith, ints)) r parts.0 parts.1 in
      (λ i. sym low i && sym high i)

  pub out_inside : (l : Lit) → low_of outer l.var ≤ℤ low_of inner l.var → low_of inner l.var ≤ℤ high_of inner l.var → high_of inner l.var ≤ℤ high_of outer l.var
      → is_out l outer ≡ true → is_out l inner ≡ true
  unfolding is_out
  out_inside l p q r e =
      let parts = not_parts (literal_true l (low_of outer l.var)) (literal_true l (high_of outer l.var)) e in
      let low = sign_between_not l.positive (low_of outer l.var) (low_of inner l.var) (high_of outer l.var) p (omega (arith, ints)) parts.0 parts.1 in
      let high = sign_between_not l.positive (low_of outer l.var) (high_of inner l.var) (high_of outer l.var) (omega (arith, ints)) r parts.0 parts.1 in
      (λ i. not (sym low i) && not (sym high i))

-- the value of a variable at a point is its low
pub value-point : (b : Bounds) (v : ℕ) → value_of (point_of b) v ≡ low_of b v
value-point [] v = refl
value-point (p ∷ b) zero = refl
value-point (p ∷ b) (suc v) = value-point b v

-- 0 and 1 are clamped to themselves
one_same : ClampOrder → clamp_of (pos 1) ≡ pos 1
unfolding bound_limit largest_number
one_same c = c.same (pos 1) (omega arith)

none_same : ClampOrder → clamp_of (pos 0) ≡ pos 0
none_same c = c.same (pos 0) (omega arith)

-- a literal that is told true keeps a point exactly where it is true there
pub sign_kept : ClampOrder → (b : Bounds) (s : Bool) (v : ℕ) → low_of b v ≡ high_of b v → sign_true s (low_of b v) ≡ true → Keeps b (sign_tell s v)
sign_kept c b true v e t = let f = one_same c in omega (arith, ints)
sign_kept c b false v e t = let f = none_same c in omega (arith, ints)

pub kept_sign : ClampOrder → (b : Bounds) (s : Bool) (v : ℕ) → low_of b v ≡ high_of b v → Keeps b (sign_tell s v) → true ≡ sign_true s (low_of b v)
kept_sign c b true v e k = let f = one_same c in omega (arith, ints)
kept_sign c b false v e k = let f = none_same c in omega (arith, ints)

-- a number makes a literal or its opposite true, and not both
pub opposite_true : (s : Bool) (z : ℤ) → sign_true s z ≡ false → true ≡ sign_true (not s) z
opposite_true true z e = omega (arith, ints)
opposite_true false z e = omega (arith, ints)

pub not_both : (s : Bool) (z : ℤ) → sign_true s z ≡ true → true ≡ sign_true (not s) z → ⊥
not_both true z e f = omega (arith, ints)
not_both false z e f = omega (arith, ints)

pub is_true : (t : Bool) → IsTrue t → t ≡ true
is_true t h = h

pub true_is : (t : Bool) → true ≡ t → IsTrue t
true_is t h = sym h

pub by_bool : {P : Type 0} (t : Bool) → (t ≡ true → P) → (t ≡ false → P) → P
by_bool true f g = f refl
by_bool false f g = g refl

pub not_true : (t : Bool) → not t ≡ true → t ≡ false
not_true true e = absurd (cc)
not_true false e = refl
