-- A box that hears a list of tells, one after another.
use Rattle.std.proofs.Common.{◌≡◌, ◌≢◌, ℕ, ◌+◌, ◌<◌, ◌<ℤ◌, ℤ, Bool, true, false, cond, List, [], ◌∷◌, ◌++◌, length, take, get_or, add-one, ◌⊎◌, inl, inr, sym, refl, ◌∙◌, subst, arith}
use Rattle.std.specs.List.{All, filter}
use Rattle.std.proofs.lemmas.Bool.{cases_eq}
use Rattle.std.proofs.lemmas.Int.{ints}
use Rattle.std.proofs.Math.Seq.{take-suc}
use Rattle.std.proofs.lemmas.List.Elements.{All-nil, All-cons, All-head, All-tail, All-filter}
use Rattle.interval.specs.Boxes.{Bounds, low_of, high_of, put_of, IsInside, IsProper, IsCrossed, InsideOrder}
use Rattle.interval.specs.Limits.{IsBound}
use Rattle.guarded_tell.specs.Words.{Tell, Side, Low, High}
use Rattle.kernel_visits.specs.Sides.{SameSide}
use Rattle.guarded_tell.specs.Words.{Keeps}
use Rattle.guarded_tell.specs.Hearing.{HearsAll}
use Rattle.fixpoint_laws.specs.Changes.{TightensOne}
use Rattle.fixpoint_laws.specs.Rounds.{Narrows}
use Rattle.tell_laws.specs.Narrowing.{narrows}
use Rattle.moved_fixpoint.specs.declared.joiner.Progress.{Progress}
use Rattle.moved_fixpoint.specs.declared.joiner.Progress.TheVariants.{Still, Moved, Crossed, Refused}
use Rattle.moved_fixpoint.specs.Heard.{GoesOn, HasPut, told_low, told_high, IsHeard, Joined, Hears}
use Rattle.moved_fixpoint.specs.Runs.{SameAt, Spares, SparesSide}
use Rattle.moved_fixpoint.proofs.Telling.{told_box, same_elsewhere, keeps_or_narrows, tightening, told_holds, told_kept, told_moves, put_low, put_high, keeps_inside}

-- what hearing tells makes of a box and of the progress: the box stays inside and keeps each box that no tell narrows;
-- unless the round is over, each variable that none of the tells `us` is of is as it was, and no tell narrows the box any more
pub record Effect (b : Bounds) (p : Progress) (ts us : List Tell) (after : Bounds) (p' : Progress) : Type 0 where
  pub inside : IsInside after b
  pub holds : (c : Bounds) → IsInside c b → All (Keeps c) ts → IsInside c after
  pub going : GoesOn p' → GoesOn p
  pub unmoved : GoesOn p' → (w : ℕ) → Spares us w → SameAt after b w
  pub unread : GoesOn p' → (side : Side) (w : ℕ) → SparesSide us side w → SameSide side after b w
  pub heard : GoesOn p' → All (Keeps after) ts
  pub still : p' ≡ Still → (p ≡ Still) × (after ≡ b)
  pub moves : p' ≡ Moved → (p ≡ Moved) ⊎ (after ≢ b)
  pub proper : GoesOn p' → IsProper b → IsProper after
  pub crossed : p' ≡ Crossed → (p ≡ Crossed) ⊎ IsCrossed after

pub same_at_itself : (b : Bounds) (w : ℕ) → SameAt b b w
same_at_itself b w = record { low = refl; high = refl }

pub same_at_through : (a b c : Bounds) (w : ℕ) → SameAt c b w → SameAt b a w → SameAt c a w
same_at_through a b c w s r = record { low = s.low ∙ r.low; high = s.high ∙ r.high }

pub same_side_itself : (side : Side) (b : Bounds) (w : ℕ) → SameSide side b b w
same_side_itself Low b w = refl
same_side_itself High b w = refl

same_side_through : (side : Side) (a b c : Bounds) (w : ℕ) → SameSide side c b w → SameSide side b a w → SameSide side c a w
same_side_through Low a b c w s r = s ∙ r
same_side_through High a b c w s r = s ∙ r

pub same_side_back : (side : Side) (a b : Bounds) (w : ℕ) → SameSide side a b w → SameSide side b a w
same_side_back Low a b w s = sym s
same_side_back High a b w s = sym s

same_side_at : (side : Side) (a b : Bounds) (w : ℕ) → SameAt a b w → SameSide side a b w
same_side_at Low a b w s = s.low
same_side_at High a b w s = s.high

-- the other bound of a tell's variable stays
other_side : (b : Bounds) (v : ℕ) (z : ℤ) (s side : Side) → v < length b → (side ≡ s → ⊥) → SameSide side (put_of b v (told_low b s v z) (told_high b s v z)) b v
other_side b v z Low Low h f = absurd (f refl)
other_side b v z Low High h f = put_high b v z (high_of b v) h
other_side b v z High Low h f = put_low b v (low_of b v) z h
other_side b v z High High h f = absurd (f refl)

-- a tell that isn't heard or narrows nothing leaves all as it is
module _ (order : InsideOrder) where
  effect_none : (b : Bounds) (p : Progress) (ts us : List Tell) → (GoesOn p → All (Keeps b) ts) → Effect b p ts us b p
  effect_none b p ts us k = record {
    inside = order.itself b;
    holds = λ c i a. i;
    going = λ g. g;
    unmoved = λ g w h. same_at_itself b w;
    unread = λ g side w h. same_side_itself side b w;
    heard = k;
    still = λ e. (e, refl);
    moves = λ e. inl e;
    proper = λ g f. f;
    crossed = λ e. inl e;
  }

  unchanged : (b : Bounds) (p : Progress) (ts us : List Tell) (after : Bounds) (p' : Progress) →
      (after ≡ b) × (p' ≡ p) → (GoesOn p → All (Keeps b) ts) → Effect b p ts us after p'
  unchanged b p ts us after p' e k =
      subst (λ (q : Progress). Effect b p ts us after q) (sym e.1)
      (subst (λ (x : Bounds). Effect b p ts us x p) (sym e.0) (effect_none b p ts us k))

  module _ (tightens : TightensOne) (b : Bounds) (p : Progress) (t : Tell) (h : t.var < length b) (going : GoesOn p) (narrows : Narrows b t) where
    told_same : (w : ℕ) → w ≢ t.var → SameAt (told_box b t) b w
    told_same w ne = same_elsewhere b t.var (told_low b t.side t.var t.bound) (told_high b t.side t.var t.bound) w ne

    told_side_same : (side : Side) (w : ℕ) → (w ≡ t.var → side ≡ t.side → ⊥) → SameSide side (told_box b t) b w
    told_side_same side w f = elim (cases_eq w t.var) [
      | inl e ↦ subst (λ (x : ℕ). SameSide side (told_box b t) b x) (sym e) (other_side b t.var t.bound t.side side h (f e))
      | inr ne ↦ same_side_at side (told_box b t) b w (told_same w ne)
    ]

    narrowed : (p' : Progress) (after : Bounds) → HasPut p' b t.var (told_low b t.side t.var t.bound) (told_high b t.side t.var t.bound) after →
        Effect b p (t ∷ []) (t ∷ []) after p'
    narrowed Still after put = absurd put
    narrowed Moved after put = subst (λ (x : Bounds). Effect b p (t ∷ []) (t ∷ []) x Moved) (sym put.0) (record {
      inside = tightens.inside b t.var _ _ (tightening b t h narrows);
      holds = λ c i a. told_holds tightens b c t h i (All-head (Keeps c) t [] a);
      going = λ g. going;
      unmoved = λ g w f. told_same w (All-head (λ (u : Tell). w ≢ u.var) t [] f);
      unread = λ g side w f. told_side_same side w (All-head (λ (u : Tell). w ≡ u.var → side ≡ u.side → ⊥) t [] f);
      heard = λ g. All-cons (Keeps (told_box b t)) t [] (told_kept b t h) (All-nil (Keeps (told_box b t)));
      still = λ e. absurd (cc);
      moves = λ e. inr (told_moves b t h narrows);
      proper = λ g f. tightens.proper b t.var _ _ h f put.1;
      crossed = λ e. absurd (cc);
    })
    narrowed Crossed after put = subst (λ (x : Bounds). Effect b p (t ∷ []) (t ∷ []) x Crossed) (sym put.0) (record {
      inside = tightens.inside b t.var _ _ (tightening b t h narrows);
      holds = λ c i a. told_holds tightens b c t h i (All-head (Keeps c) t [] a);
      going = λ g. absurd g;
      unmoved = λ g. absurd g;
      unread = λ g. absurd g;
      heard = λ g. absurd g;
      still = λ e. absurd (cc);
      moves = λ e. absurd (cc);
      proper = λ g. absurd g;
      crossed = λ e. inr (crossed_there put.1);
    }) where
      crossed_there : told_high b t.side t.var t.bound <ℤ told_low b t.side t.var t.bound → IsCrossed (told_box b t)
      crossed_there less =
          let same = tightens.inside b t.var _ _ (tightening b t h narrows) in
          let length_is = same.same_length in
          let low = put_low b t.var (told_low b t.side t.var t.bound) (told_high b t.side t.var t.bound) h in
          let high = put_high b t.var (told_low b t.side t.var t.bound) (told_high b t.side t.var t.bound) h in
          (t.var, omega arith, omega (arith, ints))
    narrowed Refused after put = subst (λ (x : Bounds). Effect b p (t ∷ []) (t ∷ []) x Refused) (sym put) (record {
      inside = order.itself b;
      holds = λ c i a. i;
      going = λ g. absurd g;
      unmoved = λ g. absurd g;
      unread = λ g. absurd g;
      heard = λ g. absurd g;
      still = λ e. absurd (cc);
      moves = λ e. absurd (cc);
      proper = λ g. absurd g;
      crossed = λ e. absurd (cc);
    })

pub goes_on_or_over : (p : Progress) → GoesOn p ⊎ (GoesOn p → ⊥)
goes_on_or_over Still = inl tt
goes_on_or_over Moved = inl tt
goes_on_or_over Crossed = inr (λ g. g)
goes_on_or_over Refused = inr (λ g. g)

module _ (order : InsideOrder) (tightens : TightensOne) where
  -- one tell
  one : (b : Bounds) (p : Progress) (t : Tell) (after : Bounds) (p' : Progress) → t.var < length b → IsHeard b p t after p' → Effect b p (t ∷ []) (t ∷ []) after p'
  one b p t after p' h j = elim (goes_on_or_over p) [
    | inr over ↦ unchanged order b p (t ∷ []) (t ∷ []) after p' (j.over over) (λ g. absurd (over g))
    | inl going ↦ elim (keeps_or_narrows b t) [
      | inl k ↦ unchanged order b p (t ∷ []) (t ∷ []) after p' (j.kept going k) (λ g. All-cons (Keeps b) t [] k (All-nil (Keeps b)))
      | inr narrows ↦ narrowed order tightens b p t h going narrows p' after (j.put going narrows)
    ]
  ]

  -- between boxes that lie in each other's way and are the same at both ends, nothing moved
  pub middle : (a b c : Bounds) → IsInside b a → IsInside c b → c ≡ a → b ≡ a
  middle a b c i j e = order.equal b a i (subst (λ (x : Bounds). IsInside x b) e j)

  effect_more : (a : Bounds) (p : Progress) (t : Tell) (ts : List Tell) (b : Bounds) (p' : Progress) (c : Bounds) (p'' : Progress) → t.var < length b →
      Effect a p (t ∷ []) (t ∷ []) b p' → Effect b p' ts ts c p'' → Effect a p (t ∷ ts) (t ∷ ts) c p''
  effect_more a p t ts b p' c p'' h e f = record {
    inside = order.through c b a f.inside e.inside;
    holds = λ x i k. f.holds x (e.holds x i (All-cons (Keeps x) t [] (All-head (Keeps x) t ts k) (All-nil (Keeps x)))) (All-tail (Keeps x) t ts k);
    going = λ g. e.going (f.going g);
    unmoved = λ g w out. same_at_through a b c w (f.unmoved g w (All-tail (λ (u : Tell). w ≢ u.var) t ts out))
        (e.unmoved (f.going g) w (All-cons (λ (u : Tell). w ≢ u.var) t [] (All-head (λ (u : Tell). w ≢ u.var) t ts out) (All-nil (λ (u : Tell). w ≢ u.var))));
    unread = λ g side w out. same_side_through side a b c w (f.unread g side w (All-tail (λ (u : Tell). w ≡ u.var → side ≡ u.side → ⊥) t ts out))
        (e.unread (f.going g) side w (All-cons (λ (u : Tell). w ≡ u.var → side ≡ u.side → ⊥) t [] (All-head (λ (u : Tell). w ≡ u.var → side ≡ u.side → ⊥) t ts out) (All-nil (λ (u : Tell). w ≡ u.var → side ≡ u.side → ⊥))));
    heard = λ g. All-cons (Keeps c) t ts (keeps_inside b c t h f.inside (All-head (Keeps b) t [] (e.heard (f.going g)))) (f.heard g);
    still = λ s. let q = f.still s in let r = e.still q.0 in (r.0, q.1 ∙ r.1);
    moves = λ s. elim (f.moves s) [
      | inl q ↦ elim (e.moves q) [ inl r ↦ inl r | inr r ↦ inr (λ same. r (middle a b c e.inside f.inside same)) ]
      | inr q ↦ inr (λ same. q (same ∙ sym (middle a b c e.inside f.inside same)))
    ];
    proper = λ g x. f.proper g (e.proper (f.going g) x);
    crossed = λ s. elim (f.crossed s) [
      | inl q ↦ elim (e.crossed q) [ inl r ↦ inl r | inr r ↦ inr (crossed_inside b c f.inside r) ]
      | inr q ↦ inr q
    ];
  } where
    crossed_inside : (x y : Bounds) → IsInside y x → IsCrossed x → IsCrossed y
    crossed_inside x y i (v, k, less) =
        let length_is = i.same_length in let low = i.lows v k in let high = i.highs v k in (v, omega arith, omega (arith, ints))

-- a tell that a box can be told
abbrev pub IsPlaced : ℕ → Tell → Type 0
IsPlaced n t = (t.var < n) × IsBound t.bound

-- a list of tells
module _ (order : InsideOrder) (tightens : TightensOne) where
  abbrev pub Turns : Joined → List Tell → Joined → Type 0
  Turns j ts k = Effect j.box j.progress ts ts k.box k.progress

  -- what hearing one tell does
  step : (j : Joined) (t : Tell) (k : Joined) → t.var < length j.box → Hears j t k → Turns j (t ∷ []) k
  step j t k h i = one order tightens j.box j.progress t k.box k.progress h i

  placed_after : (j : Joined) (t : Tell) (ts : List Tell) (k : Joined) → Turns j (t ∷ []) k → All (IsPlaced (length j.box)) (t ∷ ts) → All (IsPlaced (length k.box)) ts
  placed_after j t ts k e a = subst (λ (n : ℕ). All (IsPlaced n) ts) (sym e.inside.same_length) (All-tail (IsPlaced (length j.box)) t ts a)

  pub effect : (j : Joined) (ts : List Tell) (k : Joined) → All (IsPlaced (length j.box)) ts → HearsAll Hears j ts k → Turns j ts k
  effect j [] k a e = subst (λ (x : Joined). Turns j [] x) e (effect_none order j.box j.progress [] [] (λ g. All-nil (Keeps j.box)))
  effect j (t ∷ ts) k a (mid, i, rest) =
      let here : IsPlaced (length j.box) t = All-head (IsPlaced (length j.box)) t ts a in
      let e : Turns j (t ∷ []) mid = step j t mid here.0 i in
      let length_is = e.inside.same_length in
      effect_more order tightens j.box j.progress t ts mid.box mid.progress k.box k.progress
      (omega (arith, here.0)) e (effect mid ts k (placed_after j t ts mid e a) rest)

-- one tell more
pub hears_next : (j : Joined) (ts : List Tell) (k : Joined) (t : Tell) (l : Joined) → HearsAll Hears j ts k → Hears k t l → HearsAll Hears j (ts ++ (t ∷ [])) l
hears_next j [] k t l e h = (l, subst (λ (x : Joined). Hears x t l) (sym e) h, refl)
hears_next j (s ∷ ts) k t l (mid, i, rest) h = (mid, i, hears_next mid ts k t l rest h)

-- where the hearing of a list stands after some of its tells
pub record Heard (start : Joined) (ts : List Tell) (i : ℕ) (now : Joined) : Type 0 where
  pub same_length : length now.box ≡ length start.box
  pub heard : HearsAll Hears start (take i ts) now

pub heard_one : InsideOrder → TightensOne → (start : Joined) (ts : List Tell) (i : ℕ) (d : Tell) (now next : Joined) → All (IsPlaced (length start.box)) ts → i < length ts →
    Heard start ts i now → Hears now (get_or ts i d) next → Heard start ts (i + 1) next
heard_one order tightens start ts i d now next placed within h here =
    let same = h.same_length in
    let inside : IsPlaced (length start.box) (get_or ts i d) = placed i d within in
    let e : Turns order tightens now (get_or ts i d ∷ []) next = step order tightens now (get_or ts i d) next (omega (arith, inside.0)) here in
    let length_is = e.inside.same_length in
    record {
      same_length = length_is ∙ same;
      heard = rw (add-one, take-suc ts i d within) (hears_next start (take i ts) now (get_or ts i d) next h.heard here);
    }

-- a tell that narrows the box at the start
one_of_all : (b after : Bounds) (t : Tell) (rest : List Tell) (s : Bool) → (s ≡ false → Keeps after t) → All (Keeps after) (cond s (t ∷ rest) rest) →
    Keeps after t × All (Keeps after) rest
one_of_all b after t rest true keeps all = (All-head (Keeps after) t rest all, All-tail (Keeps after) t rest all)
one_of_all b after t rest false keeps all = (keeps refl, all)

-- what doesn't narrow a box leaves each box inside it as it is, so hearing what narrows it is hearing all
module _ (laws : (b : Bounds) (t : Tell) → narrows b t ≡ false → Keeps b t) (b : Bounds) where
  kept_all : (after : Bounds) → IsInside after b → (ts : List Tell) → All (IsPlaced (length b)) ts → All (Keeps after) (filter (narrows b) ts) → All (Keeps after) ts
  kept_all after i [] placed all = All-nil (Keeps after)
  kept_all after i (t ∷ ts) placed all =
      let here : IsPlaced (length b) t = All-head (IsPlaced (length b)) t ts placed in
      let both : Keeps after t × All (Keeps after) (filter (narrows b) ts) =
      one_of_all b after t (filter (narrows b) ts) (narrows b t) (λ e. keeps_inside b after t here.0 i (laws b t e)) all in
      All-cons (Keeps after) t ts both.0 (kept_all after i ts (All-tail (IsPlaced (length b)) t ts placed) both.1)

  pub effect_of_all : (ts us : List Tell) → All (IsPlaced (length b)) ts → (p : Progress) (after : Bounds) (p' : Progress) →
      Effect b p (filter (narrows b) ts) us after p' → Effect b p ts us after p'
  effect_of_all ts us placed p after p' e = record {
    inside = e.inside;
    holds = λ c i a. e.holds c i (All-filter (narrows b) (Keeps c) ts a);
    going = e.going;
    unmoved = e.unmoved;
    unread = e.unread;
    heard = λ g. kept_all after e.inside ts placed (e.heard g);
    still = e.still;
    moves = e.moves;
    proper = e.proper;
    crossed = e.crossed;
  }
