-- Ways, and what they lead to.
use Rattle.std.proofs.Common.{◌≡◌, ℕ, zero, suc, ◌+◌, ◌-◌, ◌^◌, ◌<◌, Option, Some, None, Bool, true, false, List, [], ◌∷◌, ◌++◌, length, take, get_or, refl, sym, ap, subst, ◌∙◌, arith}
use Rattle.std.proofs.lemmas.List.{take_more}
use mathlib.Core.Bool.{not, beq}
use Rattle.interval.specs.Boxes.{Bounds}
use Rattle.guarded_tell.specs.declared.kernel.Kernel.{Kernel}
use Rattle.constraint_model.specs.declared.model.FznModel.{FznModel}
use Rattle.branching.specs.Fronts.{left_by, right_by}
use Rattle.trailed_box.specs.Trailed.{Left, box_of as left_box}
use Rattle.subproblems.specs.declared.cutting.Cut.TheVariants.{Failed, Fixed, Parted}
use Rattle.subproblems.specs.Paths.{IsBelow, LeadsTo}
use Rattle.subproblem_walk.specs.declared.turns.Turn.{Turn}
use Rattle.subproblem_walk.specs.declared.ends.End.{End}
use Rattle.subproblem_walk.specs.Turns.{side_of, IsTurn, AreTurnsTo}
use Rattle.subproblem_walk.specs.Walks.{IsStep, AreSteps, end_of, IsEnd, MayEndAt, IsEndAt, IsLedTo, IsPathAt}

-- ---- turns

-- turns that go on from where others come to
pub turns_append : (depth number : ℕ) (turns more : List Turn) (below rest lower last : ℕ) → AreTurnsTo depth number turns below rest →
    AreTurnsTo below rest more lower last → AreTurnsTo depth number (turns ++ more) lower last
turns_append zero number [] more below rest lower last h k = subst (λ (d : ℕ). AreTurnsTo d number more lower last) h.0 (subst (λ (n : ℕ). AreTurnsTo below n more lower last) h.1 k)
turns_append (suc depth) number [] more below rest lower last h k = subst (λ (d : ℕ). AreTurnsTo d number more lower last) h.0 (subst (λ (n : ℕ). AreTurnsTo below n more lower last) h.1 k)
turns_append zero number (turn ∷ turns) more below rest lower last h k = absurd h
turns_append (suc depth) number (turn ∷ turns) more below rest lower last h k = (h.0, h.1, turns_append depth h.0 turns more below rest lower last h.2 k)

-- no turn
pub no_turn : (depth number : ℕ) → AreTurnsTo depth number [] depth number
no_turn zero number = (refl, refl)
no_turn (suc depth) number = (refl, refl)

-- one turn, and those that go on from there
pub turn_first : (depth number : ℕ) (turn : Turn) (turns : List Turn) (next_depth next below rest : ℕ) → 0 < depth → next_depth ≡ depth - 1 →
    IsTurn (2 ^ (depth - 1)) number turn.goes_right next → AreTurnsTo next_depth next turns below rest → AreTurnsTo depth number (turn ∷ turns) below rest
turn_first zero number turn turns next_depth next below rest some is h k = absurd (omega (arith, some))
turn_first (suc depth) number turn turns next_depth next below rest some is h k =
    let e : suc depth - 1 ≡ depth = omega arith in
    (next, subst (λ (n : ℕ). IsTurn (2 ^ n) number turn.goes_right next) e h, subst (λ (n : ℕ). AreTurnsTo n next turns below rest) (is ∙ e) k)

-- the way on from the part on the side of the first turn
pub below_turn : (half number : ℕ) (turn : Bool) (rest : ℕ) (left right : Bounds) (Below : Bounds → ℕ → Option Bounds → Type 0) (found : Option Bounds) →
    IsTurn half number turn rest → Below (side_of turn left right) rest found → IsBelow (Parted left right) half Below number found
below_turn half number turn rest left right Below found h k = (
  (λ low. let t = h.lower low in
      subst (λ (n : ℕ). Below left n found) t.1 (subst (λ (x : Bool). Below (side_of x left right) rest found) t.0 k)),
  λ high. let t = h.upper high in
      subst (λ (n : ℕ). Below right n found) t.1 (subst (λ (x : Bool). Below (side_of x left right) rest found) t.0 k),
)

-- ---- ways

module _ (model : FznModel) (kernels : List Kernel) where
  -- a way that goes on from the end of another
  pub steps_append : (b : Bounds) (turns more : List Turn) (way rest : List Left) → AreSteps model kernels b turns way →
      AreSteps model kernels (end_of b way) more rest → AreSteps model kernels b (turns ++ more) (way ++ rest)
  steps_append b [] more [] rest h k = k
  steps_append b [] more (left ∷ way) rest h k = absurd h
  steps_append b (turn ∷ turns) more [] rest h k = absurd h
  steps_append b (turn ∷ turns) more (left ∷ way) rest h k = (h.0, steps_append (left_box left) turns more way rest h.1 k)

  -- the box at its end
  pub end_append : (b : Bounds) (way rest : List Left) → end_of b (way ++ rest) ≡ end_of (end_of b way) rest
  end_append b [] rest = refl
  end_append b (left ∷ way) rest = end_append (left_box left) way rest

  -- there is a box for each turn
  pub same_count : (b : Bounds) (turns : List Turn) (way : List Left) → AreSteps model kernels b turns way → length way ≡ length turns
  same_count b [] [] h = refl
  same_count b [] (left ∷ way) h = absurd h
  same_count b (turn ∷ turns) [] h = absurd h
  same_count b (turn ∷ turns) (left ∷ way) h = ap (λ (n : ℕ). suc n) (same_count (left_box left) turns way h.1)

  -- so many of its turns
  pub steps_take : (k : ℕ) (b : Bounds) (turns : List Turn) (way : List Left) → AreSteps model kernels b turns way → AreSteps model kernels b (take k turns) (take k way)
  steps_take zero b turns way h = tt
  steps_take (suc k) b [] [] h = tt
  steps_take (suc k) b [] (left ∷ way) h = absurd h
  steps_take (suc k) b (turn ∷ turns) [] h = absurd h
  steps_take (suc k) b (turn ∷ turns) (left ∷ way) h = (h.0, steps_take k (left_box left) turns way h.1)

  -- the next one
  pub step_at : (k : ℕ) (b : Bounds) (turns : List Turn) (way : List Left) (turn : Turn) (left : Left) → AreSteps model kernels b turns way → k < length turns →
      IsStep model kernels (end_of b (take k way)) (get_or turns k turn) (get_or way k left)
  step_at k b [] way turn left h l = absurd (omega (arith, l))
  step_at k b (t ∷ turns) [] turn left h l = absurd h
  step_at zero b (t ∷ turns) (s ∷ way) turn left h l = h.0
  step_at (suc k) b (t ∷ turns) (s ∷ way) turn left h l = step_at k (left_box s) turns way turn left h.1 (omega (arith, l))

  -- where the turns are on the way to a number, it leads to what the rest of it leads to from their end
  pub leads_through : (depth number below rest : ℕ) (b : Bounds) (turns : List Turn) (way : List Left) (found : Option Bounds) → AreSteps model kernels b turns way →
      AreTurnsTo depth number turns below rest → LeadsTo model kernels below (end_of b way) rest found → LeadsTo model kernels depth b number found
  leads_through zero number below rest b [] [] found s t h =
      subst (λ (d : ℕ). LeadsTo model kernels d b number found) t.0 (subst (λ (n : ℕ). LeadsTo model kernels below b n found) t.1 h)
  leads_through (suc depth) number below rest b [] [] found s t h =
      subst (λ (d : ℕ). LeadsTo model kernels d b number found) t.0 (subst (λ (n : ℕ). LeadsTo model kernels below b n found) t.1 h)
  leads_through depth number below rest b [] (left ∷ way) found s t h = absurd s
  leads_through depth number below rest b (turn ∷ turns) [] found s t h = absurd s
  leads_through zero number below rest b (turn ∷ turns) (left ∷ way) found s t h = absurd t
  leads_through (suc depth) number below rest b (turn ∷ turns) (left ∷ way) found s t h =
      let on = leads_through depth t.0 below rest (left_box left) turns way found s.1 t.2 h in
      let first : Bounds = left_by left.base turn.branching in
      let second : Bounds = right_by left.base turn.branching in (
        Parted first second,
        record { closed = left.base; greatest = s.0.greatest; branch = s.0.parted.branch },
        below_turn (2 ^ depth) number turn.goes_right t.0 first second (LeadsTo model kernels depth) found t.1 (subst (λ (x : Bounds). LeadsTo model kernels depth x t.0 found) s.0.taken on),
      )

  -- ---- ends

  -- what is known at the end stays known
  pub end_kept : (b now : Bounds) (end : End) → IsEndAt model kernels b now end → IsEnd model kernels b end
  end_kept b now End.Part h = tt
  end_kept b now End.Failed h = h
  end_kept b now End.Fixed h = (now, h)
  end_kept b now (End.Beaten cost) h = h

  -- the box at the end is what the rest of a number leads to
  pub end_leads : (below rest : ℕ) (b now : Bounds) (end : End) → MayEndAt below end → IsEndAt model kernels b now end → IsLedTo end rest → LeadsTo model kernels below b rest (Some now)
  end_leads zero rest b now End.Part e h led = ap (λ (x : Bounds). Some x) h
  end_leads (suc below) rest b now End.Part e h led = absurd (omega (arith, e))
  end_leads below rest b now End.Failed e h led = absurd led
  end_leads below rest b now (End.Beaten cost) e h led = absurd led
  end_leads zero rest b now End.Fixed e h led = absurd (omega (arith, e))
  end_leads (suc below) rest b now End.Fixed e h led = (Fixed now, (h.greatest, h.fixed), ((λ zero_is. refl), λ other. absurd (other led)))

  -- so is what is found there
  pub led_path : (depth number rest : ℕ) (b : Bounds) (end : End) (found : Option Bounds) → IsLedTo end rest → LeadsTo model kernels depth b number found →
      IsPathAt model kernels depth b number end found
  led_path depth number rest b End.Part found led h = h
  led_path depth number rest b End.Failed found led h = h
  led_path depth number rest b End.Fixed found led h = h
  led_path depth number rest b (End.Beaten cost) found led h = absurd led

  -- or it leads nowhere, or to what is beaten
  pub end_nowhere : (below rest : ℕ) (b : Bounds) (end : End) → MayEndAt below end → IsEnd model kernels b end → (IsLedTo end rest → ⊥) →
      IsPathAt model kernels below b rest end None
  end_nowhere below rest b End.Part e h never = absurd (never tt)
  end_nowhere zero rest b End.Failed e h never = absurd (omega (arith, e))
  end_nowhere (suc below) rest b End.Failed e h never = (Failed, h, refl)
  end_nowhere zero rest b End.Fixed e h never = absurd (omega (arith, e))
  end_nowhere (suc below) rest b End.Fixed e h never = (Fixed h.0, (h.1.greatest, h.1.fixed), ((λ zero_is. absurd (never zero_is)), λ other. refl))
  end_nowhere below rest b (End.Beaten cost) e h never = refl

  -- and so does the number of which it is the rest
  pub path_through : (depth number below rest : ℕ) (b : Bounds) (turns : List Turn) (way : List Left) (end : End) (found : Option Bounds) →
      AreSteps model kernels b turns way → AreTurnsTo depth number turns below rest → IsPathAt model kernels below (end_of b way) rest end found →
      IsPathAt model kernels depth b number end found
  path_through depth number below rest b turns way End.Part found s t h = leads_through depth number below rest b turns way found s t h
  path_through depth number below rest b turns way End.Failed found s t h = leads_through depth number below rest b turns way found s t h
  path_through depth number below rest b turns way End.Fixed found s t h = leads_through depth number below rest b turns way found s t h
  path_through depth number below rest b turns way (End.Beaten cost) found s t h = h

-- ---- turns that are the same

same_turn : (a b : Bool) → not (beq a b) ≡ false → a ≡ b
same_turn false false h = refl
same_turn true true h = refl
same_turn false true h = absurd cc
same_turn true false h = absurd cc

-- one turn more that is on the way to a number too
pub next_turn : (depth number below rest next_depth next count : ℕ) (turns : List Turn) (goes_right : Bool) (d : Turn) → AreTurnsTo depth number (take count turns) below rest →
    count < length turns → 0 < below → next_depth ≡ below - 1 → IsTurn (2 ^ (below - 1)) rest goes_right next → not (beq goes_right (get_or turns count d).goes_right) ≡ false →
    AreTurnsTo depth number (take (count + 1) turns) next_depth next
next_turn depth number below rest next_depth next count turns goes_right d h l some is first same =
    let turn : Turn = get_or turns count d in
    let first_is : IsTurn (2 ^ (below - 1)) rest turn.goes_right next = subst (λ (x : Bool). IsTurn (2 ^ (below - 1)) rest x next) (same_turn goes_right turn.goes_right same) first in
    subst (λ (ts : List Turn). AreTurnsTo depth number ts next_depth next) (sym (take_more turns count d l))
    (turns_append depth number (take count turns) (turn ∷ []) below rest next_depth next h (turn_first below rest turn [] next_depth next next_depth next some is first_is (no_turn next_depth next)))
