-- A box with its objective cut to one value has the assignments of the box that cost so much.
use Rattle.std.proofs.Common.{◌≡◌, ◌≢◌, ℕ, zero, suc, ℤ, pos, ◌<◌, ◌≤ℤ◌, neg_ℤ, List, [], ◌∷◌, length, refl, sym, ap, subst, ◌∙◌, Bool, true, false, cond, Option, Some, None, arith}
use Rattle.std.specs.Prelude.{int_lt}
use Rattle.std.specs.Int.{int_min, int_max}
use Rattle.std.proofs.lemmas.Int.{ints}
use Rattle.std.proofs.lemmas.List.{get_or_append_left, get_or-set_same}
use Rattle.interval.specs.Boxes.{Bounds, low_of, high_of, put_of, IsInside, InsideOrder}
use Rattle.guarded_tell.specs.Words.{value_of}
use Rattle.constraint_model.specs.declared.model.Term.{Term}
use Rattle.constraint_model.specs.declared.model.VarDecl.{VarDecl}
use Rattle.constraint_model.specs.declared.model.Goal.{Goal}
use Rattle.constraint_model.specs.declared.model.FznModel.{FznModel}
use Rattle.constraint_model.specs.Relations.{value, cost_of, IsWithin}
use Rattle.constraint_model.specs.WellFormed.{constants_of, IsGoalOf}
use Rattle.decompose.specs.Program.{fixed_box, extended}
use Rattle.solution_lists.specs.Solutions.{LiesIn}
use Rattle.answer.specs.Cuts.{at_value, cut_to}

-- an assignment has a cost, where there is an objective
pub has_cost : (goal : Goal) (a : List ℤ) → goal ≢ Goal.Satisfy → (cost : ℤ) × (cost_of goal a ≡ Some cost)
has_cost Goal.Satisfy a h = absurd (h refl)
has_cost (Goal.Minimize t) a h = (_, refl)
has_cost (Goal.Maximize t) a h = (_, refl)

-- ---- pairs

pub low_put : (b : Bounds) (v : ℕ) (low high : ℤ) → v < length b → low_of (put_of b v low high) v ≡ low
low_put b v low high h = ap (λ (p : ℤ × ℤ). p.0) (get_or-set_same b v (low, high) (pos 0, pos 0) h)

pub high_put : (b : Bounds) (v : ℕ) (low high : ℤ) → v < length b → high_of (put_of b v low high) v ≡ high
high_put b v low high h = ap (λ (p : ℤ × ℤ). p.1) (get_or-set_same b v (low, high) (pos 0, pos 0) h)

tail_inside : (p q : ℤ × ℤ) (b c : Bounds) → IsInside (p ∷ b) (q ∷ c) → IsInside b c
tail_inside p q b c i = record {
  same_length = let e = i.same_length in omega arith;
  lows = λ v h. i.lows (suc v) (omega arith);
  highs = λ v h. i.highs (suc v) (omega arith);
}

cons_inside : (p q : ℤ × ℤ) (b c : Bounds) → q.0 ≤ℤ p.0 → p.1 ≤ℤ q.1 → IsInside b c → IsInside (p ∷ b) (q ∷ c)
cons_inside p q b c l h i = record {
  same_length = let e = i.same_length in omega arith;
  lows = lows;
  highs = highs;
}
  where
    lows : (v : ℕ) → v < length (q ∷ c) → low_of (q ∷ c) v ≤ℤ low_of (p ∷ b) v
    lows zero k = l
    lows (suc v) k = i.lows v (omega arith)

    highs : (v : ℕ) → v < length (q ∷ c) → high_of (p ∷ b) v ≤ℤ high_of (q ∷ c) v
    highs zero k = h
    highs (suc v) k = i.highs v (omega arith)

itself : (b : Bounds) → IsInside b b
itself b = record { same_length = refl; lows = λ v h. omega (arith, ints); highs = λ v h. omega (arith, ints) }

pub put_inside : (b : Bounds) (v : ℕ) (low high : ℤ) → low_of b v ≤ℤ low → high ≤ℤ high_of b v → IsInside (put_of b v low high) b
put_inside [] v low high l h = itself []
put_inside (p ∷ b) zero low high l h = cons_inside (low, high) p b b l h (itself b)
put_inside (p ∷ b) (suc v) low high l h =
    cons_inside p p (put_of b v low high) b (omega (arith, ints)) (omega (arith, ints)) (put_inside b v low high l h)

put_holds : (b c : Bounds) (v : ℕ) (low high : ℤ) → IsInside c b → low ≤ℤ low_of c v → high_of c v ≤ℤ high → IsInside c (put_of b v low high)
put_holds [] c v low high i l h = i
put_holds (p ∷ b) [] v low high i l h = absurd (let e = i.same_length in omega arith)
put_holds (p ∷ b) (q ∷ c) zero low high i l h = cons_inside q (low, high) c b l h (tail_inside q p c b i)
put_holds (p ∷ b) (q ∷ c) (suc v) low high i l h =
    cons_inside q p c (put_of b v low high) (i.lows 0 (omega arith)) (i.highs 0 (omega arith)) (put_holds b c v low high (tail_inside q p c b i) l h)

-- ---- the lesser of two numbers, and the greater

pub least_le : (x y : ℤ) → int_min x y ≤ℤ x
least_le x y = case (int_lt y x) refl
  where
    case : (t : Bool) → int_lt y x ≡ t → cond t y x ≤ℤ x
    case true e = omega (arith, ints)
    case false e = omega (arith, ints)

pub least_le_right : (x y : ℤ) → int_min x y ≤ℤ y
least_le_right x y = case (int_lt y x) refl
  where
    case : (t : Bool) → int_lt y x ≡ t → cond t y x ≤ℤ y
    case true e = omega (arith, ints)
    case false e = omega (arith, ints)

pub greatest_le : (x y : ℤ) → x ≤ℤ int_max x y
greatest_le x y = case (int_lt y x) refl
  where
    case : (t : Bool) → int_lt y x ≡ t → x ≤ℤ cond t x y
    case true e = omega (arith, ints)
    case false e = omega (arith, ints)

pub greatest_le_right : (x y : ℤ) → y ≤ℤ int_max x y
greatest_le_right x y = case (int_lt y x) refl
  where
    case : (t : Bool) → int_lt y x ≡ t → y ≤ℤ cond t x y
    case true e = omega (arith, ints)
    case false e = omega (arith, ints)

below_least : (x h z : ℤ) → x ≤ℤ h → x ≤ℤ z → x ≤ℤ int_min h z
below_least x h z p q = case (int_lt z h)
  where
    case : (t : Bool) → x ≤ℤ cond t z h
    case true = q
    case false = p

above_greatest : (x l z : ℤ) → l ≤ℤ x → z ≤ℤ x → int_max l z ≤ℤ x
above_greatest x l z p q = case (int_lt z l)
  where
    case : (t : Bool) → cond t l z ≤ℤ x
    case true = p
    case false = q

-- ---- the cut box

at_value_inside : (b : Bounds) (p : ℕ) (z : ℤ) → IsInside (at_value b p z) b
at_value_inside b p z = put_inside b p (int_max (low_of b p) z) (int_min (high_of b p) z) (greatest_le (low_of b p) z) (least_le (high_of b p) z)

pub cut_inside : InsideOrder → (goal : Goal) (cost : ℤ) (b : Bounds) → IsInside (cut_to goal cost b) b
cut_inside order Goal.Satisfy cost b = order.itself b
cut_inside order (Goal.Minimize (Term.Var v)) cost b = at_value_inside b (suc v) cost
cut_inside order (Goal.Minimize (Term.Number n)) cost b = order.itself b
cut_inside order (Goal.Maximize (Term.Var v)) cost b = at_value_inside b (suc v) (neg_ℤ cost)
cut_inside order (Goal.Maximize (Term.Number n)) cost b = order.itself b

-- ---- the assignments in it

pub low_fixed : (xs : List ℤ) (v : ℕ) → low_of (fixed_box xs) v ≡ value_of xs v
low_fixed [] v = refl
low_fixed (x ∷ xs) zero = refl
low_fixed (x ∷ xs) (suc v) = low_fixed xs v

pub high_fixed : (xs : List ℤ) (v : ℕ) → high_of (fixed_box xs) v ≡ value_of xs v
high_fixed [] v = refl
high_fixed (x ∷ xs) zero = refl
high_fixed (x ∷ xs) (suc v) = high_fixed xs v

same_some : (x y : ℤ) (o : Option ℤ) → o ≡ Some x → o ≡ Some y → x ≡ y
same_some x y o e f = cc

between : (x low high l h : ℤ) → low ≡ x → high ≡ x → l ≤ℤ low → high ≤ℤ h → (l ≤ℤ x) × (x ≤ℤ h)
between x low high l h e f a b = (omega (arith, ints), omega (arith, ints))

pub within_length : (a : List ℤ) (vars : List VarDecl) → IsWithin a vars → length a ≡ length vars
within_length [] [] h = refl
within_length [] (d ∷ ds) h = absurd h
within_length (z ∷ zs) [] h = absurd h
within_length (z ∷ zs) (d ∷ ds) h = ap suc (within_length zs ds h.2)

module _ (model : FznModel) (a : List ℤ) (fits : length a ≡ length model.vars) where
  abbrev numbers : Bounds
  numbers = fixed_box (extended model a)

  low_is : (v : ℕ) → v < length model.vars → low_of numbers (suc v) ≡ value a (Term.Var v)
  low_is v h = low_fixed (extended model a) (suc v) ∙ get_or_append_left a (constants_of model) (pos 0) v (omega arith)

  high_is : (v : ℕ) → v < length model.vars → high_of numbers (suc v) ≡ value a (Term.Var v)
  high_is v h = high_fixed (extended model a) (suc v) ∙ get_or_append_left a (constants_of model) (pos 0) v (omega arith)

  in_pair : (b : Bounds) → LiesIn model a b → (v : ℕ) → v < length model.vars → suc v < length b →
      (low_of b (suc v) ≤ℤ value a (Term.Var v)) × (value a (Term.Var v) ≤ℤ high_of b (suc v))
  in_pair b i v h k =
      between (value a (Term.Var v)) (low_of numbers (suc v)) (high_of numbers (suc v)) (low_of b (suc v)) (high_of b (suc v)) (low_is v h) (high_is v h) (i.lows (suc v) k) (i.highs (suc v) k)

  in_at_value : (b : Bounds) (v : ℕ) (z : ℤ) → LiesIn model a b → v < length model.vars → suc v < length b → value a (Term.Var v) ≡ z → LiesIn model a (at_value b (suc v) z)
  in_at_value b v z i h k e =
      let q = in_pair b i v h k in
      let x = value a (Term.Var v) in
      put_holds b numbers (suc v) (int_max (low_of b (suc v)) z) (int_min (high_of b (suc v)) z) i
      (subst (λ (w : ℤ). int_max (low_of b (suc v)) z ≤ℤ w) (sym (low_is v h)) (above_greatest x (low_of b (suc v)) z q.0 (omega (arith, ints))))
      (subst (λ (w : ℤ). w ≤ℤ int_min (high_of b (suc v)) z) (sym (high_is v h)) (below_least x (high_of b (suc v)) z q.1 (omega (arith, ints))))

  at_value_is : (b : Bounds) (v : ℕ) (z : ℤ) → v < length model.vars → suc v < length b → LiesIn model a (at_value b (suc v) z) → value a (Term.Var v) ≡ z
  at_value_is b v z h k i =
      let n = (at_value_inside b (suc v) z).same_length in
      let q = in_pair (at_value b (suc v) z) i v h (omega arith) in
      let lo = low_put b (suc v) (int_max (low_of b (suc v)) z) (int_min (high_of b (suc v)) z) k in
      let hi = high_put b (suc v) (int_max (low_of b (suc v)) z) (int_min (high_of b (suc v)) z) k in
      pinned (value a (Term.Var v)) z (low_of b (suc v)) (high_of b (suc v)) (low_of (at_value b (suc v) z) (suc v)) (high_of (at_value b (suc v) z) (suc v)) lo hi q.0 q.1
    where
      pinned : (x z l h low high : ℤ) → low ≡ int_max l z → high ≡ int_min h z → low ≤ℤ x → x ≤ℤ high → x ≡ z
      pinned x z l h low high e f p q = let j = greatest_le_right l z in let k = least_le_right h z in omega (arith, ints)

  -- whatever costs so much stays
  pub stays_at : (goal : Goal) (cost : ℤ) (b : Bounds) → IsGoalOf model.vars goal → length model.vars < length b → LiesIn model a b →
      cost_of goal a ≡ Some cost → LiesIn model a (cut_to goal cost b)
  stays_at Goal.Satisfy cost b g k i e = i
  stays_at (Goal.Minimize (Term.Var v)) cost b g k i e =
      let h : v < length model.vars = g.inside in
      in_at_value b v cost i h (omega arith) (same_some (value a (Term.Var v)) cost (Some (value a (Term.Var v))) refl e)
  stays_at (Goal.Minimize (Term.Number n)) cost b g k i e = i
  stays_at (Goal.Maximize (Term.Var v)) cost b g k i e =
      let h : v < length model.vars = g.inside in
      let x = value a (Term.Var v) in
      let c : neg_ℤ x ≡ cost = same_some (neg_ℤ x) cost (Some (neg_ℤ x)) refl e in
      in_at_value b v (neg_ℤ cost) i h (omega arith) (turned x cost c)
    where
      turned : (x cost : ℤ) → neg_ℤ x ≡ cost → x ≡ neg_ℤ cost
      turned x cost c = omega (arith, ints)
  stays_at (Goal.Maximize (Term.Number n)) cost b g k i e = i

  -- whatever is there costs so much, where something does
  pub costs_at : (goal : Goal) (cost : ℤ) (b : Bounds) (other : List ℤ) → IsGoalOf model.vars goal → length model.vars < length b → cost_of goal other ≡ Some cost →
      LiesIn model a (cut_to goal cost b) → cost_of goal a ≡ Some cost
  costs_at Goal.Satisfy cost b other g k e i = let f : None ≡ Some cost = e in absurd cc
  costs_at (Goal.Minimize (Term.Var v)) cost b other g k e i =
      let h : v < length model.vars = g.inside in
      ap (λ (z : ℤ). Some z) (at_value_is b v cost h (omega arith) i)
  costs_at (Goal.Minimize (Term.Number n)) cost b other g k e i = e
  costs_at (Goal.Maximize (Term.Var v)) cost b other g k e i =
      let h : v < length model.vars = g.inside in
      ap (λ (z : ℤ). Some z) (back (value a (Term.Var v)) cost (at_value_is b v (neg_ℤ cost) h (omega arith) i))
    where
      back : (x cost : ℤ) → x ≡ neg_ℤ cost → neg_ℤ x ≡ cost
      back x cost c = omega (arith, ints)
  costs_at (Goal.Maximize (Term.Number n)) cost b other g k e i = e
