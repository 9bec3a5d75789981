-- A box with its objective cut: it has the assignments of the box that cost so much at most.
use Rattle.std.proofs.Common.{◌≡◌, ℕ, zero, suc, ℤ, pos, ◌<◌, ◌≤ℤ◌, ◌<ℤ◌, neg_ℤ, List, [], ◌∷◌, length, refl, sym, ap, subst, ◌∙◌, Bool, true, false, cond, Option, Some, None, arith}
use Rattle.std.specs.Prelude.{int_le, int_lt}
use Rattle.std.specs.Int.{int_min, int_max}
use Rattle.std.proofs.lemmas.Int.{ints}
use Rattle.std.proofs.lemmas.List.{get_or_append_left, set-get_or}
use Rattle.interval.specs.Boxes.{Bounds, low_of, high_of, put_of, IsInside, InsideOrder}
use Rattle.guarded_tell.specs.Words.{value_of}
use Rattle.constraint_model.specs.declared.model.Term.{Term}
use Rattle.constraint_model.specs.declared.model.Goal.{Goal}
use Rattle.constraint_model.specs.declared.model.FznModel.{FznModel}
use Rattle.constraint_model.specs.Relations.{value, cost_of}
use Rattle.constraint_model.specs.WellFormed.{constants_of, IsGoalOf}
use Rattle.decompose.specs.Program.{fixed_box, extended}
use Rattle.solution_lists.specs.Solutions.{LiesIn}
use Rattle.search.specs.Costs.{up_to, from_on, at_most}
use Rattle.search.proofs.BoxLaws.{low_put, high_put, put_inside, put_holds}

-- the lesser of two numbers, and the greater
least_le : (x y : ℤ) → int_min x y ≤ℤ x
least_le x y = case (int_lt y x) refl
  where
    case : (t : Bool) → int_lt y x ≡ t → cond t y x ≤ℤ x
    case true e = omega (arith, ints)
    case false e = omega (arith, ints)

least_le_right : (x y : ℤ) → int_min x y ≤ℤ y
least_le_right x y = case (int_lt y x) refl
  where
    case : (t : Bool) → int_lt y x ≡ t → cond t y x ≤ℤ y
    case true e = omega (arith, ints)
    case false e = omega (arith, ints)

greatest_le : (x y : ℤ) → x ≤ℤ int_max x y
greatest_le x y = case (int_lt y x) refl
  where
    case : (t : Bool) → int_lt y x ≡ t → x ≤ℤ cond t x y
    case true e = omega (arith, ints)
    case false e = omega (arith, ints)

greatest_le_right : (x y : ℤ) → y ≤ℤ int_max x y
greatest_le_right x y = case (int_lt y x) refl
  where
    case : (t : Bool) → int_lt y x ≡ t → y ≤ℤ cond t x y
    case true e = omega (arith, ints)
    case false e = omega (arith, ints)

below_least : (x h z : ℤ) → x ≤ℤ h → x ≤ℤ z → x ≤ℤ int_min h z
below_least x h z p q = case (int_lt z h)
  where
    case : (t : Bool) → x ≤ℤ cond t z h
    case true = q
    case false = p

above_greatest : (x l z : ℤ) → l ≤ℤ x → z ≤ℤ x → int_max l z ≤ℤ x
above_greatest x l z p q = case (int_lt z l)
  where
    case : (t : Bool) → cond t l z ≤ℤ x
    case true = p
    case false = q

le_itself : (x : ℤ) → x ≤ℤ x
le_itself x = omega (arith, ints)

-- ---- a cut box is inside

up_to_inside : (b : Bounds) (p : ℕ) (z : ℤ) → IsInside (up_to b p z) b
up_to_inside b p z = put_inside b p (low_of b p) (int_min (high_of b p) z) (le_itself (low_of b p)) (least_le (high_of b p) z)

from_on_inside : (b : Bounds) (p : ℕ) (z : ℤ) → IsInside (from_on b p z) b
from_on_inside b p z = put_inside b p (int_max (low_of b p) z) (high_of b p) (greatest_le (low_of b p) z) (le_itself (high_of b p))

where_inside : InsideOrder → (t : Bool) (b : Bounds) → IsInside (cond t b (up_to b 0 (pos 0))) b
where_inside order true b = order.itself b
where_inside order false b = up_to_inside b 0 (pos 0)

pub at_most_inside : InsideOrder → (goal : Goal) (most : ℤ) (b : Bounds) → IsInside (at_most goal most b) b
at_most_inside order Goal.Satisfy most b = order.itself b
at_most_inside order (Goal.Minimize (Term.Var v)) most b = up_to_inside b (suc v) most
at_most_inside order (Goal.Minimize (Term.Number n)) most b = where_inside order (int_le n most) b
at_most_inside order (Goal.Maximize (Term.Var v)) most b = from_on_inside b (suc v) (neg_ℤ most)
at_most_inside order (Goal.Maximize (Term.Number n)) most b = where_inside order (int_le (neg_ℤ n) most) b

-- ---- the assignments in it

low_fixed : (xs : List ℤ) (v : ℕ) → low_of (fixed_box xs) v ≡ value_of xs v
low_fixed [] v = refl
low_fixed (x ∷ xs) zero = refl
low_fixed (x ∷ xs) (suc v) = low_fixed xs v

high_fixed : (xs : List ℤ) (v : ℕ) → high_of (fixed_box xs) v ≡ value_of xs v
high_fixed [] v = refl
high_fixed (x ∷ xs) zero = refl
high_fixed (x ∷ xs) (suc v) = high_fixed xs v

same_some : (x y : ℤ) (o : Option ℤ) → o ≡ Some x → o ≡ Some y → x ≡ y
same_some x y o e f = cc

between : (x low high l h : ℤ) → low ≡ x → high ≡ x → l ≤ℤ low → high ≤ℤ h → (l ≤ℤ x) × (x ≤ℤ h)
between x low high l h e f a b = (omega (arith, ints), omega (arith, ints))

module _ (model : FznModel) (a : List ℤ) (fits : length a ≡ length model.vars) where
  abbrev numbers : Bounds
  numbers = fixed_box (extended model a)

  low_is : (v : ℕ) → v < length model.vars → low_of numbers (suc v) ≡ value a (Term.Var v)
  low_is v h = low_fixed (extended model a) (suc v) ∙ get_or_append_left a (constants_of model) (pos 0) v (omega arith)

  high_is : (v : ℕ) → v < length model.vars → high_of numbers (suc v) ≡ value a (Term.Var v)
  high_is v h = high_fixed (extended model a) (suc v) ∙ get_or_append_left a (constants_of model) (pos 0) v (omega arith)

  -- an assignment's number lies between the bounds of its pair
  in_pair : (b : Bounds) → LiesIn model a b → (v : ℕ) → v < length model.vars → suc v < length b →
      (low_of b (suc v) ≤ℤ value a (Term.Var v)) × (value a (Term.Var v) ≤ℤ high_of b (suc v))
  in_pair b i v h k =
      between (value a (Term.Var v)) (low_of numbers (suc v)) (high_of numbers (suc v)) (low_of b (suc v)) (high_of b (suc v)) (low_is v h) (high_is v h) (i.lows (suc v) k) (i.highs (suc v) k)

  equal_le : (x y : ℤ) → x ≡ y → x ≤ℤ y
  equal_le x y e = omega (arith, ints)

  in_up_to : (b : Bounds) (v : ℕ) (z : ℤ) → LiesIn model a b → v < length model.vars → suc v < length b → value a (Term.Var v) ≤ℤ z → LiesIn model a (up_to b (suc v) z)
  in_up_to b v z i h k l =
      let q = in_pair b i v h k in
      let x = value a (Term.Var v) in
      put_holds b numbers (suc v) (low_of b (suc v)) (int_min (high_of b (suc v)) z) i
      (subst (λ (w : ℤ). low_of b (suc v) ≤ℤ w) (sym (low_is v h)) q.0)
      (subst (λ (w : ℤ). w ≤ℤ int_min (high_of b (suc v)) z) (sym (high_is v h)) (below_least x (high_of b (suc v)) z q.1 l))

  in_from_on : (b : Bounds) (v : ℕ) (z : ℤ) → LiesIn model a b → v < length model.vars → suc v < length b → z ≤ℤ value a (Term.Var v) → LiesIn model a (from_on b (suc v) z)
  in_from_on b v z i h k l =
      let q = in_pair b i v h k in
      let x = value a (Term.Var v) in
      put_holds b numbers (suc v) (int_max (low_of b (suc v)) z) (high_of b (suc v)) i
      (subst (λ (w : ℤ). int_max (low_of b (suc v)) z ≤ℤ w) (sym (low_is v h)) (above_greatest x (low_of b (suc v)) z q.0 l))
      (subst (λ (w : ℤ). w ≤ℤ high_of b (suc v)) (sym (high_is v h)) q.1)

  where_true : (n most : ℤ) (b : Bounds) → LiesIn model a b → n ≤ℤ most → (t : Bool) → int_le n most ≡ t → LiesIn model a (cond t b (up_to b 0 (pos 0)))
  where_true n most b i l true e = i
  where_true n most b i l false e = absurd (omega (arith, ints))

  -- whatever costs so much at most stays
  pub stays : (goal : Goal) (most cost : ℤ) (b : Bounds) → IsGoalOf model.vars goal → length model.vars < length b → LiesIn model a b →
      cost_of goal a ≡ Some cost → cost ≤ℤ most → LiesIn model a (at_most goal most b)
  stays Goal.Satisfy most cost b g k i e l = i
  stays (Goal.Minimize (Term.Var v)) most cost b g k i e l =
      let h : v < length model.vars = g.inside in
      let c : value a (Term.Var v) ≡ cost = same_some (value a (Term.Var v)) cost (Some (value a (Term.Var v))) refl e in
      in_up_to b v most i h (omega arith) (subst (λ (z : ℤ). z ≤ℤ most) (sym c) l)
  stays (Goal.Minimize (Term.Number n)) most cost b g k i e l =
      where_true n most b i (subst (λ (z : ℤ). z ≤ℤ most) (sym (same_some n cost (Some n) refl e)) l) (int_le n most) refl
  stays (Goal.Maximize (Term.Var v)) most cost b g k i e l =
      let h : v < length model.vars = g.inside in
      let x = value a (Term.Var v) in
      let c : neg_ℤ x ≡ cost = same_some (neg_ℤ x) cost (Some (neg_ℤ x)) refl e in
      in_from_on b v (neg_ℤ most) i h (omega arith) (turned x cost most c l)
    where
      turned : (x cost most : ℤ) → neg_ℤ x ≡ cost → cost ≤ℤ most → neg_ℤ most ≤ℤ x
      turned x cost most c l = omega (arith, ints)
  stays (Goal.Maximize (Term.Number n)) most cost b g k i e l =
      where_true (neg_ℤ n) most b i (subst (λ (z : ℤ). z ≤ℤ most) (sym (same_some (neg_ℤ n) cost (Some (neg_ℤ n)) refl e)) l) (int_le (neg_ℤ n) most) refl

  -- whatever is there costs so much at most
  one_at_zero : (b : Bounds) → 0 < length b → LiesIn model a (up_to b 0 (pos 0)) → ⊥
  one_at_zero b h i =
      let n = (up_to_inside b 0 (pos 0)).same_length in
      let q = i.highs 0 (omega arith) in
      let e = high_put b 0 (low_of b 0) (int_min (high_of b 0) (pos 0)) h in
      let one : high_of numbers 0 ≡ pos 1 = refl in
      absurd_one (high_of b 0) (high_of numbers 0) (high_of (up_to b 0 (pos 0)) 0) one e q
    where
      absurd_one : (h x y : ℤ) → x ≡ pos 1 → y ≡ int_min h (pos 0) → x ≤ℤ y → ⊥
      absurd_one h x y e f l = let k = least_le_right h (pos 0) in omega (arith, ints)

  where_false : (n most : ℤ) (b : Bounds) → 0 < length b → (t : Bool) → int_le n most ≡ t → LiesIn model a (cond t b (up_to b 0 (pos 0))) → n ≤ℤ most
  where_false n most b h true e i = omega (arith, ints)
  where_false n most b h false e i = absurd (one_at_zero b h i)

  pub costs_at_most : (goal : Goal) (most cost : ℤ) (b : Bounds) → IsGoalOf model.vars goal → length model.vars < length b →
      LiesIn model a (at_most goal most b) → cost_of goal a ≡ Some cost → cost ≤ℤ most
  costs_at_most Goal.Satisfy most cost b g k i e = let f : None ≡ Some cost = e in absurd cc
  costs_at_most (Goal.Minimize (Term.Var v)) most cost b g k i e =
      let h : v < length model.vars = g.inside in
      let n = (up_to_inside b (suc v) most).same_length in
      let x = value a (Term.Var v) in
      let c : x ≡ cost = same_some x cost (Some x) refl e in
      let q = in_pair (up_to b (suc v) most) i v h (omega arith) in
      let u = high_put b (suc v) (low_of b (suc v)) (int_min (high_of b (suc v)) most) (omega arith) in
      up x cost most (high_of b (suc v)) (high_of (up_to b (suc v) most) (suc v)) c q.1 u
    where
      up : (x cost most h y : ℤ) → x ≡ cost → x ≤ℤ y → y ≡ int_min h most → cost ≤ℤ most
      up x cost most h y c q u = let k = least_le_right h most in omega (arith, ints)
  costs_at_most (Goal.Minimize (Term.Number n)) most cost b g k i e =
      subst (λ (z : ℤ). z ≤ℤ most) (same_some n cost (Some n) refl e) (where_false n most b (omega arith) (int_le n most) refl i)
  costs_at_most (Goal.Maximize (Term.Var v)) most cost b g k i e =
      let h : v < length model.vars = g.inside in
      let n = (from_on_inside b (suc v) (neg_ℤ most)).same_length in
      let x = value a (Term.Var v) in
      let c : neg_ℤ x ≡ cost = same_some (neg_ℤ x) cost (Some (neg_ℤ x)) refl e in
      let q = in_pair (from_on b (suc v) (neg_ℤ most)) i v h (omega arith) in
      let u = low_put b (suc v) (int_max (low_of b (suc v)) (neg_ℤ most)) (high_of b (suc v)) (omega arith) in
      down x cost most (low_of b (suc v)) (low_of (from_on b (suc v) (neg_ℤ most)) (suc v)) c q.0 u
    where
      down : (x cost most l y : ℤ) → neg_ℤ x ≡ cost → y ≤ℤ x → y ≡ int_max l (neg_ℤ most) → cost ≤ℤ most
      down x cost most l y c q u = let k = greatest_le_right l (neg_ℤ most) in omega (arith, ints)
  costs_at_most (Goal.Maximize (Term.Number n)) most cost b g k i e =
      subst (λ (z : ℤ). z ≤ℤ most) (same_some (neg_ℤ n) cost (Some (neg_ℤ n)) refl e) (where_false (neg_ℤ n) most b (omega arith) (int_le (neg_ℤ n) most) refl i)

-- ---- the bounds of a cut

put_same : (b : Bounds) (p : ℕ) → put_of b p (low_of b p) (high_of b p) ≡ b
put_same b p = set-get_or b p (pos 0, pos 0)

pub same_up_to : (b : Bounds) (p : ℕ) (z : ℤ) → high_of b p ≤ℤ z → up_to b p z ≡ b
same_up_to b p z h = case (int_lt z (high_of b p)) refl
  where
    case : (t : Bool) → int_lt z (high_of b p) ≡ t → put_of b p (low_of b p) (cond t z (high_of b p)) ≡ b
    case true e = absurd (omega (arith, ints))
    case false e = put_same b p

pub less_up_to : (b : Bounds) (p : ℕ) (z : ℤ) → z <ℤ high_of b p → up_to b p z ≡ put_of b p (low_of b p) z
less_up_to b p z h = case (int_lt z (high_of b p)) refl
  where
    case : (t : Bool) → int_lt z (high_of b p) ≡ t → put_of b p (low_of b p) (cond t z (high_of b p)) ≡ put_of b p (low_of b p) z
    case true e = refl
    case false e = absurd (omega (arith, ints))

not_less : (x y : ℤ) → x ≤ℤ y → int_lt x y ≡ false → x ≡ y
not_less x y h e = omega (arith, ints)

pub same_from_on : (b : Bounds) (p : ℕ) (z : ℤ) → z ≤ℤ low_of b p → from_on b p z ≡ b
same_from_on b p z h = case (int_lt z (low_of b p)) refl
  where
    case : (t : Bool) → int_lt z (low_of b p) ≡ t → put_of b p (cond t (low_of b p) z) (high_of b p) ≡ b
    case true e = put_same b p
    case false e = ap (λ (x : ℤ). put_of b p x (high_of b p)) (not_less z (low_of b p) h e) ∙ put_same b p

pub less_from_on : (b : Bounds) (p : ℕ) (z : ℤ) → low_of b p <ℤ z → from_on b p z ≡ put_of b p z (high_of b p)
less_from_on b p z h = case (int_lt z (low_of b p)) refl
  where
    case : (t : Bool) → int_lt z (low_of b p) ≡ t → put_of b p (cond t (low_of b p) z) (high_of b p) ≡ put_of b p z (high_of b p)
    case true e = absurd (omega (arith, ints))
    case false e = refl
