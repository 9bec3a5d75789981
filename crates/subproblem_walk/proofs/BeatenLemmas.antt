-- What is beaten stays so inside, and for a better cost.
use mathlib.Core.Logic.{dite}
use native.Mathlib.Decide.{ℕ_discrete}
use Rattle.std.proofs.Common.{◌≡◌, ◌≢◌, ◌⊎◌, ℕ, zero, suc, ℤ, neg_ℤ, ◌≤ℤ◌, ◌-◌, ◌<◌, ◌≤◌, ◌^◌, Option, Some, None, Bool, true, false, List, [], ◌∷◌, length, refl, sym, ap, subst, ◌∙◌, inl, inr, arith}
use Rattle.std.proofs.lemmas.Int.{ints}
use Rattle.std.proofs.lemmas.List.{append-nil}
use Rattle.std.proofs.lemmas.Bool.{cases_lt}
use Rattle.std.specs.Prelude.{IfSome, MatchOption}
use Rattle.interval.specs.Boxes.{Bounds, low_of, high_of, IsInside, InsideOrder}
use Rattle.guarded_tell.specs.declared.kernel.Kernel.{Kernel}
use Rattle.fixpoint_laws.specs.Fixpoints.{IsClosed, IsGreatest}
use Rattle.constraint_model.specs.declared.model.Term.{Term}
use Rattle.constraint_model.specs.declared.model.Goal.{Goal}
use Rattle.constraint_model.specs.declared.model.VarDecl.{VarDecl}
use Rattle.constraint_model.specs.declared.model.FznModel.{FznModel}
use Rattle.constraint_model.specs.WellFormed.{IsGoalOf}
use Rattle.branching.specs.Fronts.{left_by, right_by}
use Rattle.branching.specs.Parts.{IsBranch}
use Rattle.branching.specs.declared.branch.Branching.{Branching}
use Rattle.trailed_box.specs.Trailed.{Trailed, Left, box_of as left_box}
use Rattle.trailed_box.specs.declared.trailed.TrailedBox.{TrailedBox}
use Rattle.subproblems.specs.declared.cutting.Cut.{Cut}
use Rattle.subproblems.specs.declared.cutting.Cut.TheVariants.{Failed, Fixed, Parted}
use Rattle.subproblems.specs.Cuts.{CanBeCut, CutLaws, IsCutInto}
use Rattle.subproblems.specs.Paths.{LeadsTo, IsBelow, PathLaws}
use Rattle.subproblem_walk.specs.declared.cutter.Subproblem.{Subproblem}
use Rattle.subproblem_walk.specs.declared.turns.Turn.{Turn}
use Rattle.subproblem_walk.specs.declared.ends.End.{End}
use Rattle.subproblem_walk.specs.declared.walk.Walk.{Walk}
use Rattle.subproblem_walk.specs.Turns.{side_of, IsTurn, AreTurnsTo}
use Rattle.subproblem_walk.specs.Beaten.{CostsFrom, IsBeaten, LeadsToBeaten, LeadsBelow}
use Rattle.subproblem_walk.specs.Walks.{AreSteps, end_of, IsEnd, EndsAt, MayEndAt, IsWayTo, IsWayTowards, IsEndFor, IsBeatenEnd, IsEndAt, IsLedTo, IsBackAt, IsOnWay, IsPathAt, IsAnswer, box_of}
use Rattle.subproblem_walk.proofs.TurnLemmas.{end_kept}
use Rattle.subproblem_walk.proofs.WalkLemmas.{can_again, on_side}

-- ---- costs

-- a box inside costs as much
costs_inside : (vars : List VarDecl) (goal : Goal) (cost : ℤ) (closed c : Bounds) → IsGoalOf vars goal → length vars < length closed → IsInside c closed →
    CostsFrom goal cost closed → CostsFrom goal cost c
costs_inside vars Goal.Satisfy cost closed c is long i h = h
costs_inside vars (Goal.Minimize (Term.Var v)) cost closed c is long i h =
    let there = is.inside in
    let l = i.lows (suc v) (omega (arith, there, long)) in
    omega (arith, ints, l, h)
costs_inside vars (Goal.Minimize (Term.Number n)) cost closed c is long i h = h
costs_inside vars (Goal.Maximize (Term.Var v)) cost closed c is long i h =
    let there = is.inside in
    let l = i.highs (suc v) (omega (arith, there, long)) in
    omega (arith, ints, l, h)
costs_inside vars (Goal.Maximize (Term.Number n)) cost closed c is long i h = h

-- what costs at least so much costs at least what is less
costs_lower : (goal : Goal) (cost lower : ℤ) (b : Bounds) → lower ≤ℤ cost → CostsFrom goal cost b → CostsFrom goal lower b
costs_lower Goal.Satisfy cost lower b less h = h
costs_lower (Goal.Minimize (Term.Var v)) cost lower b less h = omega (arith, ints, less, h)
costs_lower (Goal.Minimize (Term.Number n)) cost lower b less h = h
costs_lower (Goal.Maximize (Term.Var v)) cost lower b less h = omega (arith, ints, less, h)
costs_lower (Goal.Maximize (Term.Number n)) cost lower b less h = h

at_itself : (best : Option ℤ) (cost : ℤ) → best ≡ Some cost → MatchOption best ⊥ (λ lowest. lowest ≤ℤ cost)
at_itself best cost e = subst (λ (o : Option ℤ). MatchOption o ⊥ (λ lowest. lowest ≤ℤ cost)) (sym e) (itself cost)
  where
    itself : (z : ℤ) → z ≤ℤ z
    itself z = omega (arith, ints)

-- ---- an end at a beaten box

module _ (model : FznModel) (best : Option ℤ) (closed : Bounds) where
  pub beaten_for : (end : End) → IsBeatenEnd model best closed end → IsEndFor best end
  beaten_for End.Part h = absurd h
  beaten_for End.Failed h = absurd h
  beaten_for End.Fixed h = absurd h
  beaten_for (End.Beaten cost) h = at_itself best cost h.0

  pub beaten_may_end : (below : ℕ) (end : End) → IsBeatenEnd model best closed end → 0 < below → MayEndAt below end
  beaten_may_end below End.Part h some = absurd h
  beaten_may_end below End.Failed h some = absurd h
  beaten_may_end below End.Fixed h some = absurd h
  beaten_may_end below (End.Beaten cost) h some = some

  pub beaten_not_led : (number : ℕ) (end : End) → IsBeatenEnd model best closed end → IsLedTo end number → ⊥
  beaten_not_led number End.Part h led = h
  beaten_not_led number End.Failed h led = h
  beaten_not_led number End.Fixed h led = h
  beaten_not_led number (End.Beaten cost) h led = led

  -- so is each closed box inside
  pub beaten_end_at : (kernels : List Kernel) (b now : Bounds) (end : End) → IsBeatenEnd model best closed end → IfSome best (λ z. IsGoalOf model.vars model.goal) →
      length model.vars < length closed → IsGreatest closed b kernels → IsEndAt model kernels b now end
  beaten_end_at kernels b now End.Part h is long greatest = absurd h
  beaten_end_at kernels b now End.Failed h is long greatest = absurd h
  beaten_end_at kernels b now End.Fixed h is long greatest = absurd h
  beaten_end_at kernels b now (End.Beaten cost) h is long greatest = λ c is_closed inside.
      costs_inside model.vars model.goal cost closed c (subst (λ (o : Option ℤ). IfSome o (λ z. IsGoalOf model.vars model.goal)) h.0 is) long (greatest.greatest c is_closed inside) h.1

  nothing_at : (kernels : List Kernel) (start : Bounds) (depth number : ℕ) (end : End) → IsBeatenEnd model best closed end → IsPathAt model kernels depth start number end None
  nothing_at kernels start depth number End.Part h = absurd h
  nothing_at kernels start depth number End.Failed h = absurd h
  nothing_at kernels start depth number End.Fixed h = absurd h
  nothing_at kernels start depth number (End.Beaten cost) h = refl

-- a walk that went back to a closed box which is beaten
module _ (model : FznModel) (kernels : List Kernel) (start : Bounds) (walk : Walk) (boxes : Trailed) (branching : Branching) (best : Option ℤ)
    (back : IsBackAt model kernels start walk.turns.items boxes branching) (h : IsBeatenEnd model best boxes.current walk.end) (is : IfSome best (λ z. IsGoalOf model.vars model.goal))
    (long : length model.vars < length start) (same : length boxes.current ≡ length start) where
  pub back_on_way : IsOnWay model kernels start walk boxes
  back_on_way = record {
    way = boxes.stack;
    stands = record {
      steps = back.steps;
      end = end_kept model kernels (end_of start boxes.stack) boxes.current walk.end
          (beaten_end_at model best boxes.current kernels (end_of start boxes.stack) boxes.current walk.end h is (omega (arith, long, same)) back.greatest);
    };
    over = ([], sym (append-nil boxes.stack));
    same_length = same;
  }

  -- it answers that there is nothing
  pub back_answer : (depth number below rest : ℕ) → AreTurnsTo depth number walk.turns.items below rest → 0 < below → MatchOption walk.boxes ⊥ (λ own. IsOnWay model kernels start walk own) →
      IsAnswer model kernels start depth number best walk None
  back_answer depth number below rest turns some under = record {
    path = nothing_at model best boxes.current kernels start depth number walk.end h;
    end_for = beaten_for model best boxes.current walk.end h;
    made = tt;
    told = λ deep. tt;
    under = under;
    way = record { below = below; rest = rest; turns = turns; ends = beaten_may_end model best boxes.current below walk.end h some };
  }

-- ---- ways

-- the way on from a box, into the part on the side of a turn
turned_into : (half number : ℕ) (turn : Bool) (rest : ℕ) (left right : Bounds) (Below : Bounds → ℕ → Option Bounds → Type 0) (found : Option Bounds) →
    IsTurn half number turn rest → IsBelow (Parted left right) half Below number found → Below (side_of turn left right) rest found
turned_into half number turn rest left right Below found h k = elim (cases_lt number half) [
  | inl low ↦ let t = h.lower low in
      subst (λ (x : Bool). Below (side_of x left right) rest found) (sym t.0) (subst (λ (n : ℕ). Below left n found) (sym t.1) (k.0 low))
  | inr high ↦ let t = h.upper high in
      subst (λ (x : Bool). Below (side_of x left right) rest found) (sym t.0) (subst (λ (n : ℕ). Below right n found) (sym t.1) (k.1 high))
]

-- the greatest closed box of a box is its own
closed_is_greatest : (order : InsideOrder) (kernels : List Kernel) (b g : Bounds) → IsGreatest g b kernels → IsGreatest g g kernels
closed_is_greatest order kernels b g h = record { closed = h.closed; inside = order.itself g; greatest = λ c is_closed inside. inside }

module _ (order : InsideOrder) (paths : PathLaws) (cuts : CutLaws) (model : FznModel) (kernels : List Kernel) (goal : IsGoalOf model.vars model.goal) (cost : ℤ) where
  -- what lies in the greatest closed box of a beaten box costs as much
  costs_below : (b g x : Bounds) → CanBeCut model kernels b → IsBeaten model kernels cost b → IsGreatest g b kernels → IsInside x g → CostsFrom model.goal cost x
  costs_below b g x can h greatest inside =
      let same = greatest.inside.same_length in
      let long = can.long in
      costs_inside model.vars model.goal cost g x goal (omega (arith, same, long)) inside (h g greatest.closed greatest.inside)

  -- the parts of a box lie in its greatest closed box
  parts_inside : (b g left right : Bounds) → CanBeCut model kernels b → IsGreatest g b kernels → IsBranch model g left right → IsInside left g × IsInside right g
  parts_inside b g left right can greatest branch =
      let can_closed = can_again model kernels b g can greatest.inside.same_length (order.in_range g b greatest.closed.proper can.in_range greatest.inside) in
      let parts : IsCutInto model kernels g (Parted left right) = record { closed = g; greatest = closed_is_greatest order kernels b g greatest; branch = branch } in
      ((cuts.left model kernels g left right can_closed parts).0, (cuts.right model kernels g left right can_closed parts).0)

  -- what a part of a beaten box leads to costs as much
  below_part : (depth number : ℕ) (b g part x : Bounds) → CanBeCut model kernels b → CanBeCut model kernels part → IsBeaten model kernels cost b → IsGreatest g b kernels → IsInside part g →
      LeadsTo model kernels depth part number (Some x) → CostsFrom model.goal cost x
  below_part depth number b g part x can can_part h greatest inside leads =
      costs_below b g x can h greatest (order.through x part g (paths.inside model kernels depth part number x can_part leads) inside)

  below_cut : (depth number : ℕ) (b x : Bounds) (cut : Cut) → CanBeCut model kernels b → IsBeaten model kernels cost b → IsCutInto model kernels b cut →
      IsBelow cut (2 ^ depth) (LeadsTo model kernels depth) number (Some x) → CostsFrom model.goal cost x
  below_cut depth number b x Failed can h is leads = absurd (let none : Some x ≡ None = leads in cc)
  below_cut depth number b x (Fixed closed) can h is leads = dite (ℕ_discrete number 0)
      (λ (e : number ≡ 0). let k : Some x ≡ Some closed = leads.0 e in let same : closed ≡ x = cc in subst (CostsFrom model.goal cost) same (h closed is.0.closed is.0.inside))
      (λ (ne : number ≢ 0). let k : Some x ≡ None = leads.1 ne in absurd cc)
  below_cut depth number b x (Parted left right) can h is leads = elim (cases_lt number (2 ^ depth)) [
    | inl low ↦ below_part depth number b is.closed left x can (cuts.left model kernels b left right can is).1 h is.greatest (parts_inside b is.closed left right can is.greatest is.branch).0 (leads.0 low)
    | inr high ↦ below_part depth (number - 2 ^ depth) b is.closed right x can (cuts.right model kernels b left right can is).1 h is.greatest
        (parts_inside b is.closed left right can is.greatest is.branch).1 (leads.1 high)
  ]

  -- what a number leads to below a beaten box
  below_beaten : (depth number : ℕ) (b : Bounds) → 0 < depth → CanBeCut model kernels b → IsBeaten model kernels cost b → LeadsToBeaten model kernels depth b number cost
  below_beaten zero number b some can h = absurd (omega arith)
  below_beaten (suc depth) number b some can h = λ x leads. below_cut depth number b x leads.0 can h leads.1 leads.2

  -- where the turns are on the way to a number and the box at their end, above what it leads to, is beaten, that costs as much
  past : (depth number below rest : ℕ) (b : Bounds) (turns : List Turn) (way : List Left) → CanBeCut model kernels b → AreSteps model kernels b turns way →
      AreTurnsTo depth number turns below rest → 0 < below → IsBeaten model kernels cost (end_of b way) → LeadsToBeaten model kernels depth b number cost
  past depth number below rest b [] [] can s t some h = below_beaten depth number b (subst (λ (n : ℕ). 0 < n) t.0 some) can h
  past depth number below rest b [] (left ∷ way) can s t some h = absurd s
  past depth number below rest b (turn ∷ turns) [] can s t some h = absurd s
  past zero number below rest b (turn ∷ turns) (left ∷ way) can s t some h = absurd t
  past (suc depth) number below rest b (turn ∷ turns) (left ∷ way) can s t some h = λ x leads.
      let first : Bounds = left_by left.base turn.branching in
      let second : Bounds = right_by left.base turn.branching in
      let parts : IsCutInto model kernels b (Parted first second) = record { closed = left.base; greatest = s.0.greatest; branch = s.0.parted.branch } in
      let same : leads.0 ≡ Parted first second = cuts.one model kernels b leads.0 (Parted first second) can.search leads.1 parts in
      let on : IsBelow (Parted first second) (2 ^ depth) (LeadsTo model kernels depth) number (Some x) =
      subst (λ (cut : Cut). IsBelow cut (2 ^ depth) (LeadsTo model kernels depth) number (Some x)) same leads.2 in
      let side : LeadsTo model kernels depth (side_of turn.goes_right first second) t.0 (Some x) =
      turned_into (2 ^ depth) number turn.goes_right t.0 first second (LeadsTo model kernels depth) (Some x) t.1 on in
      let can_side : CanBeCut model kernels (side_of turn.goes_right first second) =
      on_side (CanBeCut model kernels) turn.goes_right first second (cuts.left model kernels b first second can parts).1 (cuts.right model kernels b first second can parts).1 in
      past depth t.0 below rest (left_box left) turns way (subst (CanBeCut model kernels) (sym s.0.taken) can_side) s.1 t.2 some h x
      (subst (λ (side_box : Bounds). LeadsTo model kernels depth side_box t.0 (Some x)) (sym s.0.taken) side)

-- ---- answers

module _ (model : FznModel) (kernels : List Kernel) (start : Bounds) (depth number : ℕ) where
  -- with no best cost it is told what the number leads to
  pub exact_path : (end : End) (found : Option Bounds) → IsEndFor None end → IsPathAt model kernels depth start number end found → LeadsTo model kernels depth start number found
  exact_path End.Part found e h = h
  exact_path End.Failed found e h = h
  exact_path End.Fixed found e h = h
  exact_path (End.Beaten cost) found e h = absurd e

  -- a box that is found is what it leads to
  given_path : (end : End) (b : Bounds) → IsPathAt model kernels depth start number end (Some b) → LeadsTo model kernels depth start number (Some b)
  given_path End.Part b h = h
  given_path End.Failed b h = h
  given_path End.Fixed b h = h
  given_path (End.Beaten cost) b h = absurd cc

  pub found_inside : PathLaws → CanBeCut model kernels start → (end : End) (found : Option Bounds) → IsPathAt model kernels depth start number end found → IfSome found (λ b. IsInside b start)
  found_inside paths can end None h = tt
  found_inside paths can end (Some b) h = paths.inside model kernels depth start number b can (given_path end b h)

  module _ (order : InsideOrder) (paths : PathLaws) (cuts : CutLaws) (can : CanBeCut model kernels start) (best : Option ℤ) (goal : IfSome best (λ z. IsGoalOf model.vars model.goal)) where
    lower_past : (cost : ℤ) (o : Option ℤ) → MatchOption o ⊥ (λ lowest. lowest ≤ℤ cost) → LeadsToBeaten model kernels depth start number cost →
        MatchOption o ⊥ (λ lowest. LeadsToBeaten model kernels depth start number lowest)
    lower_past cost None e h = absurd e
    lower_past cost (Some lowest) e h = λ b leads. costs_lower model.goal cost lowest b e (h b leads)

    goal_there : (cost : ℤ) (o : Option ℤ) → MatchOption o ⊥ (λ lowest. lowest ≤ℤ cost) → IfSome o (λ z. IsGoalOf model.vars model.goal) → IsGoalOf model.vars model.goal
    goal_there cost None e is = absurd e
    goal_there cost (Some lowest) e is = is

    end_below : (below rest : ℕ) (turns : List Turn) (way : List Left) (end : End) → AreSteps model kernels start turns way → AreTurnsTo depth number turns below rest → MayEndAt below end →
        IsEnd model kernels (end_of start way) end → IsEndFor best end → IsPathAt model kernels depth start number end None → LeadsBelow model kernels depth start number best None
    end_below below rest turns way End.Part s t ends known e h = inl h
    end_below below rest turns way End.Failed s t ends known e h = inl h
    end_below below rest turns way End.Fixed s t ends known e h = inl h
    end_below below rest turns way (End.Beaten cost) s t ends known e h =
        inr (refl, lower_past cost best e (past order paths cuts model kernels (goal_there cost best e goal) cost depth number below rest start turns way can s t ends known))

    none_below : (walk : Walk) (own : Option TrailedBox) → MatchOption own ⊥ (λ boxes. IsOnWay model kernels start walk boxes) → (way : IsWayTowards depth number walk) → IsEndFor best walk.end →
        IsPathAt model kernels depth start number walk.end None → LeadsBelow model kernels depth start number best None
    none_below walk None on way e h = absurd on
    none_below walk (Some boxes) on way e h = end_below way.below way.rest walk.turns.items on.way walk.end on.stands.steps way.turns way.ends on.stands.end e h

    -- it is told what the number leads to, or nothing where that is beaten
    pub answer_below : (walk : Walk) (found : Option Subproblem) → IsAnswer model kernels start depth number best walk found → LeadsBelow model kernels depth start number best (box_of found)
    answer_below walk None a = none_below walk walk.boxes a.under a.way a.end_for a.path
    answer_below walk (Some sub) a = inl (given_path walk.end sub.boxes.current a.path)

exact_ends : (below : ℕ) (end : End) → IsEndFor None end → MayEndAt below end → EndsAt below end
exact_ends below End.Part e h = h
exact_ends below End.Failed e h = h
exact_ends below End.Fixed e h = h
exact_ends below (End.Beaten cost) e h = absurd e

-- with no best cost the way is the whole one
pub exact_way : (depth number : ℕ) (walk : Walk) → IsEndFor None walk.end → IsWayTowards depth number walk → IsWayTo depth number walk
exact_way depth number walk e way = record { below = way.below; rest = way.rest; turns = way.turns; ends = exact_ends way.below walk.end e way.ends }
