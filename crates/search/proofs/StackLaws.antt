-- The boxes of the stack: they lie inside the one that is searched, and weigh less after each node.
use Rattle.std.proofs.Common.{◌≡◌, ◌≢◌, ℕ, zero, suc, ℤ, pos, ◌+◌, ◌-ℤ◌, ◌<◌, ◌≤◌, List, [], ◌∷◌, ◌++◌, length, Option, Some, None, sym, ap, subst, arith, length-append}
use Rattle.std.specs.List.{All, sum_by}
use Rattle.std.proofs.lemmas.List.Sums.{sum_by-append}
use Rattle.std.proofs.lemmas.List.Elements.{All-nil, All-cons, All-head, All-tail, All-append}
use Rattle.interval.specs.Boxes.{Bounds, IsInRange, IsInside, IsProper, InsideOrder, width_sum_of}
use Rattle.fixpoint_laws.specs.Fixpoints.{IsGreatest}
use Rattle.constraint_model.specs.Searches.{IsSearchOf}
use Rattle.branching.specs.Parts.{IsBranch, IsPart, AreParts}
use Rattle.branching.specs.Tree.{BranchLaws}
use Rattle.search.specs.declared.kind.Kind.{Kind}
use Rattle.search.specs.Machine.{Search, State, Node, is_dropped, is_solved, is_parted, cut_by, Reached, begun, stepped}
use Rattle.search.specs.Weights.{power, weight}
use Rattle.search.proofs.CutLaws.{at_most_inside}

power_more : (n : ℕ) → 0 < power n
unfolding power
power_more zero = omega arith
power_more (suc n) = omega (arith, power_more n)

power_le : (m n : ℕ) → m ≤ n → power m ≤ power n
unfolding power
power_le zero n h = omega (arith, power_more n)
power_le (suc m) zero h = absurd (omega arith)
power_le (suc m) (suc n) h = omega (arith, power_le m n (omega arith))

two_powers : (x y z : ℕ) → x < z → y < z → power x + power y < power z
unfolding power
two_powers x y zero a b = absurd (omega arith)
two_powers x y (suc z) a b = omega (arith, power_le x z (omega arith), power_le y z (omega arith), power_more z)

module _ {A : Type 0} (P : A → Type 0) where
  pub all_last : (xs : List A) (x : A) → All P (xs ++ x ∷ []) → P x
  all_last [] x h = All-head P x [] h
  all_last (y ∷ xs) x h = all_last xs x (All-tail P y (xs ++ x ∷ []) h)

  pub all_front : (xs ys : List A) → All P (xs ++ ys) → All P xs
  all_front [] ys h = All-nil P
  all_front (x ∷ xs) ys h = All-cons P x xs (All-head P x (xs ++ ys) h) (all_front xs ys (All-tail P x (xs ++ ys) h))

pub some_left : {A : Type 0} (xs ys : List A) (x : A) → xs ≡ ys ++ x ∷ [] → xs ≢ []
some_left xs ys x e n = absurd (omega (arith, ap length e, ap length n, length-append ys (x ∷ [])))

module _ (order : InsideOrder) (branches : BranchLaws) (s : Search) (rule : IsSearchOf s.model) (long : length s.model.vars < length s.sub) (range : IsInRange s.sub) where
  -- a box inside the one that is searched
  pub record Lies (b : Bounds) : Type 0 where
    pub inside : IsInside b s.sub
    pub in_range : IsInRange b

  pub sub_lies : Lies s.sub
  sub_lies = record { inside = order.itself s.sub; in_range = range }

  -- what a node looks at is inside its box
  pub cut_inside : (k : Kind) (best : Option ℤ) (b : Bounds) → IsInside (cut_by k s.model.goal best b) b
  cut_inside Kind.Least (Some best) b = at_most_inside order s.model.goal (best -ℤ pos 1) b
  cut_inside Kind.Least None b = order.itself b
  cut_inside Kind.First best b = order.itself b
  cut_inside Kind.All best b = order.itself b

  pub greatest_lies : (top seen g : Bounds) → Lies top → IsInside seen top → IsGreatest g seen s.kernels → Lies g
  greatest_lies top seen g l i gr =
      let j = order.through g seen top gr.inside i in
      record { inside = order.through g top s.sub j l.inside; in_range = order.in_range g top gr.closed.proper l.in_range j }

  pub parts_of : (g left right : Bounds) → Lies g → IsProper g → IsBranch s.model g left right → AreParts g left right
  parts_of g left right l proper br = branches.parts s.model g left right rule (let e = l.inside.same_length in omega arith) l.in_range proper br

  part_lies : (g part : Bounds) → Lies g → IsPart g part → Lies part
  part_lies g part l p = record { inside = order.through part g s.sub p.inside l.inside; in_range = p.in_range }

  back_lies : (top seen : Bounds) (back : List Bounds) (recorded : List (List ℤ)) → Lies top → IsInside seen top → Node s.model s.kernels s.round_limit seen back recorded → All Lies back
  back_lies top seen back recorded l i (is_dropped _ _ _ _ _ _ fails none nothing) = subst (All Lies) (sym none) (All-nil Lies)
  back_lies top seen back recorded l i (is_solved _ _ _ _ _ _ g gr _ all none one) = subst (All Lies) (sym none) (All-nil Lies)
  back_lies top seen back recorded l i (is_parted _ _ _ _ _ _ g left right gr _ br two nothing) =
      let k = greatest_lies top seen g l i gr in
      let p = parts_of g left right k gr.closed.proper br in
      subst (All Lies) (sym two)
      (All-cons Lies right (left ∷ []) (part_lies g right k p.second_part)
      (All-cons Lies left [] (part_lies g left k p.first_part) (All-nil Lies)))

  back_less : (top seen : Bounds) (back : List Bounds) (recorded : List (List ℤ)) → Lies top → IsInside seen top → Node s.model s.kernels s.round_limit seen back recorded →
      sum_by weight back < weight top
  back_less top seen back recorded l i (is_dropped _ _ _ _ _ _ fails none nothing) = omega (arith, ap (sum_by weight) none, power_more (width_sum_of top))
  back_less top seen back recorded l i (is_solved _ _ _ _ _ _ g gr _ all none one) = omega (arith, ap (sum_by weight) none, power_more (width_sum_of top))
  back_less top seen back recorded l i (is_parted _ _ _ _ _ _ g left right gr _ br two nothing) =
      let k = greatest_lies top seen g l i gr in
      let p = parts_of g left right k gr.closed.proper br in
      let w : width_sum_of g ≤ width_sum_of top = order.not_wider g top gr.closed.proper (order.through g seen top gr.inside i) in
      let x = p.first_part.narrower in
      let y = p.second_part.narrower in
      omega (arith, ap (sum_by weight) two, two_powers (width_sum_of right) (width_sum_of left) (width_sum_of top) (omega arith) (omega arith))

  pub step_less : (before after rest back : List Bounds) (top seen : Bounds) (recorded : List (List ℤ)) → before ≡ rest ++ top ∷ [] → after ≡ rest ++ back →
      Lies top → IsInside seen top → Node s.model s.kernels s.round_limit seen back recorded → sum_by weight after < sum_by weight before
  step_less before after rest back top seen recorded e k l i node =
      omega (arith, ap (sum_by weight) e, ap (sum_by weight) k, sum_by-append weight rest (top ∷ []), sum_by-append weight rest back, back_less top seen back recorded l i node)

  -- every box of the stack lies inside the one that is searched
  pub reached_lies : (state : State) → Reached s state → All Lies state.stack
  reached_lies state (begun _ _ e _ _ _) = subst (All Lies) (sym e) (All-cons Lies s.sub [] sub_lies (All-nil Lies))
  reached_lies state (stepped _ before _ r on st) =
      let h = subst (All Lies) st.takes.taken (reached_lies before r) in
      subst (All Lies) (sym st.stack)
      (All-append Lies st.rest st.back (all_front Lies st.rest (st.top ∷ []) h)
      (back_lies st.top (cut_by s.kind s.model.goal st.best st.top) st.back st.recorded (all_last Lies st.rest st.top h) (cut_inside s.kind st.best st.top) st.node))

  pub top_lies : (state : State) (rest : List Bounds) (top : Bounds) → Reached s state → state.stack ≡ rest ++ top ∷ [] → Lies top
  top_lies state rest top r e = all_last Lies rest top (subst (All Lies) e (reached_lies state r))
