-- The start of a model's program: how long it is, and that it fixes the constants.
use Rattle.std.proofs.Common.{◌≡◌, ℕ, zero, suc, ℤ, pos, ◌+◌, ◌-◌, ◌<◌, ◌≤◌, ◌≤ℤ◌, List, [], ◌∷◌, length, map, refl, sym, ap, subst, ◌∙◌, ◌⊎◌, inl, inr, arith, length-append}
use Rattle.std.proofs.lemmas.Int.{ints}
use Rattle.std.proofs.lemmas.Bool.{cases_lt}
use Rattle.std.proofs.lemmas.List.{length-map, get_or-append_right}
use Rattle.interval.specs.Boxes.{Bounds, low_of, high_of, IsInside, IsPoint, IsProper}
use Rattle.guarded_tell.specs.Words.{value_of}
use Rattle.constraint_model.specs.declared.model.VarDecl.{VarDecl}
use Rattle.constraint_model.specs.declared.model.FznModel.{FznModel}
use Rattle.constraint_model.specs.WellFormed.{constants_of}
use Rattle.decompose.specs.declared.program.Program.{Program}
use Rattle.decompose.specs.Program.{fixed_box, start_of, IsProgramOf}
use Rattle.branching.specs.Tree.{AreFixed, AreConstantsFixed}
use Rattle.solution_lists.specs.Solutions.{FixedIsPoint}

-- ---- boxes of numbers

pub low_fixed : (xs : List ℤ) (v : ℕ) → low_of (fixed_box xs) v ≡ value_of xs v
low_fixed [] v = refl
low_fixed (x ∷ xs) zero = refl
low_fixed (x ∷ xs) (suc v) = low_fixed xs v

pub high_fixed : (xs : List ℤ) (v : ℕ) → high_of (fixed_box xs) v ≡ value_of xs v
high_fixed [] v = refl
high_fixed (x ∷ xs) zero = refl
high_fixed (x ∷ xs) (suc v) = high_fixed xs v

pub length_fixed : (xs : List ℤ) → length (fixed_box xs) ≡ length xs
length_fixed xs = length-map {B = ℤ × ℤ} xs (λ z. (z, z))

-- ---- the start

abbrev declared_pairs : List VarDecl → Bounds
declared_pairs vars = map (λ d. (d.low, d.high)) vars

length_declared : (vars : List VarDecl) → length (declared_pairs vars) ≡ length vars
length_declared vars = length-map {B = ℤ × ℤ} vars (λ d. (d.low, d.high))

start_length : (model : FznModel) → length (start_of model) ≡ suc (length model.vars + length (constants_of model))
start_length model =
    let a = length-append (declared_pairs model.vars) (fixed_box (constants_of model)) in
    let b = length_declared model.vars in
    let c = length_fixed (constants_of model) in
    omega arith

constant_start : (model : FznModel) (v : ℕ) → length model.vars ≤ v → low_of (start_of model) (suc v) ≡ high_of (start_of model) (suc v)
constant_start model v h =
    let cs = constants_of model in
    let l : length (declared_pairs model.vars) ≡ length model.vars = length_declared model.vars in
    let e = get_or-append_right (declared_pairs model.vars) (fixed_box cs) (length model.vars) v (pos 0, pos 0) l h in
    ap (λ (p : ℤ × ℤ). p.0) e ∙ low_fixed cs (v - length model.vars) ∙ sym (high_fixed cs (v - length model.vars)) ∙ sym (ap (λ (p : ℤ × ℤ). p.1) e)

start_fixed : (model : FznModel) (p : ℕ) → (p ≡ 0) ⊎ (length model.vars < p) → low_of (start_of model) p ≡ high_of (start_of model) p
start_fixed model p (inl e) = subst (λ (q : ℕ). low_of (start_of model) q ≡ high_of (start_of model) q) (sym e) refl
start_fixed model zero (inr l) = absurd (omega arith)
start_fixed model (suc v) (inr l) = constant_start model v (omega arith)

squeezed : (l h x y : ℤ) → l ≡ h → l ≤ℤ x → y ≤ℤ h → y ≤ℤ x
squeezed l h x y e a b = omega (arith, ints)

both : (x y : ℤ) → x ≤ℤ y → y ≤ℤ x → x ≡ y
both x y h k = omega (arith, ints)

module _ (model : FznModel) (program : Program) (f : IsProgramOf model program) (b : Bounds) (i : IsInside b program.start) where
  in_start : IsInside b (start_of model)
  in_start = subst (λ (s : Bounds). IsInside b s) f.start i

  -- a box inside the start has a pair for each declared variable and one more
  pub long_inside : length model.vars < length b
  long_inside = let e = in_start.same_length in omega (arith, start_length model)

  pub constants_inside : AreConstantsFixed model b
  constants_inside p h k =
      let m : p < length (start_of model) = let e = in_start.same_length in omega arith in
      squeezed (low_of (start_of model) p) (high_of (start_of model) p) (low_of b p) (high_of b p) (start_fixed model p k) (in_start.lows p m) (in_start.highs p m)

  point_inside : IsProper b → AreFixed model b → IsPoint b
  point_inside proper all zero h = both (low_of b 0) (high_of b 0) (proper 0 h) (constants_inside 0 h (inl refl))
  point_inside proper all (suc v) h = elim (cases_lt v (length model.vars)) [
    | inl l ↦ all v l
    | inr l ↦ both (low_of b (suc v)) (high_of b (suc v)) (proper (suc v) h) (constants_inside (suc v) h (inr (omega arith)))
  ]

pub fixed_is_point : FixedIsPoint
fixed_is_point model program b f i proper all = point_inside model program f b i proper all
