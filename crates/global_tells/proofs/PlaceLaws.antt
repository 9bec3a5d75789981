-- Where single tells are, and what holds of bounds.
use Rattle.std.proofs.Common.{◌≡◌, ℕ, zero, suc, ◌<◌, List, [], ◌∷◌, length, get_or, Bool, true, false, eqb, sym, ◌∙◌, ℤ, pos, neg_ℤ, ◌≤ℤ◌, refl, arith}
use Rattle.std.proofs.lemmas.Int.{ints}
use Rattle.std.proofs.lemmas.Bool.{eqb-true, eqb-false}
use Rattle.std.proofs.lemmas.List.{get_or_default}
use Rattle.std.specs.List.{All, Contains}
use Rattle.tells.specs.declared.tell.Tell.{Tell}
use Rattle.interval.specs.Limits.{IsBound, bound_limit, ClampOrder}
use Rattle.interval.specs.Boxes.{Bounds, low_of, high_of, IsInRange}
use Rattle.tells.specs.Words.{low_tell, high_tell, value_of, point_of, IsProperIn, IsInsideIn, AreVariables}
use Rattle.global_tells.specs.Ranges.{none_tells}
use Rattle.global_tells.proofs.Lists.{All-two, All-none}

-- what lies between bounds is one
pub bound_between : (low z high : ℤ) → IsBound low → IsBound high → low ≤ℤ z → z ≤ℤ high → IsBound z
bound_between low z high a b p q = omega (arith, ints)

-- the value of a variable at a point is its low
pub value-point : (b : Bounds) (v : ℕ) → value_of (point_of b) v ≡ low_of b v
value-point [] v = refl
value-point (p ∷ b) zero = refl
value-point (p ∷ b) (suc v) = value-point b v

-- a tell is on one of the variables, all of which are in the box, and its bound is one
abbrev pub IsPlaced : ℕ → List ℕ → Tell → Type 0
IsPlaced count vars t = Contains vars t.var × (t.var < count) × IsBound t.bound

-- the variable at a place
pub named_at : (vars : List ℕ) (i : ℕ) → i < length vars → Contains vars (get_or vars i 0)
named_at vars i h = (i, h, get_or_default vars i (get_or vars i 0) 0 h)

module _ (clamped : ClampOrder) (count : ℕ) (vars : List ℕ) (variables : AreVariables count vars) where
  pub low_placed : (i : ℕ) (z : ℤ) → i < length vars → IsPlaced count vars (low_tell (get_or vars i 0) z)
  low_placed i z h = (named_at vars i h, variables.each i h, clamped.in_range z)

  pub high_placed : (i : ℕ) (z : ℤ) → i < length vars → IsPlaced count vars (high_tell (get_or vars i 0) z)
  high_placed i z h = (named_at vars i h, variables.each i h, clamped.in_range z)

pub none_placed : ClampOrder → (count : ℕ) (vars : List ℕ) → AreVariables count vars → All (IsPlaced count vars) (none_tells vars)
unfolding none_tells
none_placed clamped count [] variables = All-none (IsPlaced count [])
none_placed clamped count (x ∷ xs) variables = All-two (IsPlaced count (x ∷ xs)) (low_tell x (pos bound_limit)) (high_tell x (neg_ℤ (pos bound_limit)))
    (low_placed clamped count (x ∷ xs) variables 0 (pos bound_limit) (omega arith)) (high_placed clamped count (x ∷ xs) variables 0 (neg_ℤ (pos bound_limit)) (omega arith))

-- the bounds of a tighter box's variables are bounds
module _ (xs : List ℕ) (outer inner : Bounds) (variables : AreVariables (length outer) xs) (range : IsInRange outer) (proper : IsProperIn xs inner) (inside : IsInsideIn xs inner outer) where
  pub inner_low : (i : ℕ) → i < length xs → IsBound (low_of inner (get_or xs i 0))
  inner_low i h =
      let x = get_or xs i 0 in
      let v = variables.each i h in
      let p = proper i h in let q = inside.lows i h in let r = inside.highs i h in
      bound_between (low_of outer x) (low_of inner x) (high_of outer x) (range.lows x v) (range.highs x v) q (omega (arith, ints))

  pub inner_high : (i : ℕ) → i < length xs → IsBound (high_of inner (get_or xs i 0))
  inner_high i h =
      let x = get_or xs i 0 in
      let v = variables.each i h in
      let p = proper i h in let q = inside.lows i h in let r = inside.highs i h in
      bound_between (low_of outer x) (high_of inner x) (high_of outer x) (range.lows x v) (range.highs x v) (omega (arith, ints)) r

-- a list's test of being empty
pub none_there : {X : Type 0} (xs : List X) (t : Bool) → t ≡ eqb (length xs) 0 → t ≡ true → length xs ≡ 0
none_there xs t e f = eqb-true (length xs) 0 (sym e ∙ f)

pub some_there : {X : Type 0} (xs : List X) (t : Bool) → t ≡ eqb (length xs) 0 → t ≡ false → 0 < length xs
some_there xs t e f = let no = eqb-false (length xs) 0 (sym e ∙ f) in omega arith

pub none_of_none : (xs : List ℕ) → length xs ≡ 0 → none_tells xs ≡ []
unfolding none_tells
none_of_none [] h = refl
none_of_none (x ∷ xs) h = absurd (omega arith)

pub none_of_some : (xs : List ℕ) → 0 < length xs → none_tells xs ≡ low_tell (get_or xs 0 0) (pos bound_limit) ∷ high_tell (get_or xs 0 0) (neg_ℤ (pos bound_limit)) ∷ []
unfolding none_tells
none_of_some [] h = absurd (omega arith)
none_of_some (x ∷ xs) h = refl
