-- The box once tells are joined: what is gathered of a kernel's tells and heard makes of a box what all of them make.
use Rattle.std.proofs.Common.{◌≡◌, ◌∙◌, ap, sym, refl, subst, ℕ, zero, suc, ℤ, ◌<◌, ◌≤ℤ◌, Bool, true, false, cond, ◌||◌, List, [], ◌∷◌, take, length, ◌⊎◌, inl, inr, Option, Some, None, arith}
use Rattle.std.specs.Prelude.{int_lt}
use Rattle.std.specs.List.{All, filter}
use Rattle.std.proofs.lemmas.Bool.{cond-true, cond-false, cases_Bool, true_from_ne_false, false_from_ne_true}
use Rattle.std.proofs.lemmas.Int.{ints}
use Rattle.std.proofs.lemmas.List.Elements.{All-head, All-tail}
use Rattle.interval.specs.Boxes.{Bounds, low_of, high_of, put_of, IsInside, IsProper, IsCrossed, InsideOrder}
use Rattle.guarded_tell.specs.Words.{Tell, Side, Low, High, Keeps, KeepsSide}
use Rattle.guarded_tell.specs.Hearing.{HearsAll}
use Rattle.tell_laws.specs.Narrowing.{narrows, narrows_side}
use Rattle.fixpoint_laws.specs.Changes.{TightensOne}
use Rattle.fixpoint_laws.specs.Rounds.{Narrows, NarrowsSide, told, told_side}
use Rattle.fixpoint_laws.specs.Greatest.{is_crossed_box}
use Rattle.moved_fixpoint.specs.declared.joiner.Progress.{Progress}
use Rattle.moved_fixpoint.specs.declared.joiner.Progress.TheVariants.{Still, Moved, Crossed, Refused}
use Rattle.moved_fixpoint.specs.Heard.{GoesOn, Becomes, HasPut, told_low, told_high, IsHeard, Joined, Hears}
use Rattle.moved_fixpoint.specs.Sweeps.{with_tell, with_tells, unless_crossed}
use Rattle.moved_fixpoint.proofs.Telling.{told_box, keeps_or_narrows, tightening, keeps_inside}
use Rattle.moved_fixpoint.proofs.Hearing.{IsPlaced, goes_on_or_over}

-- ---- the test of a box
abbrev CrossedIs : Bounds → Bool → Type 0
CrossedIs b true = IsCrossed b
CrossedIs b false = IsProper b

proper_cons : (p : ℤ × ℤ) (b : Bounds) → p.0 ≤ℤ p.1 → IsProper b → IsProper (p ∷ b)
proper_cons p b c f zero h = c
proper_cons p b c f (suc v) h = f v (omega arith)

crossed_later : (p : ℤ × ℤ) (b : Bounds) (m n : Bool) → int_lt p.1 p.0 ≡ m → CrossedIs b n → CrossedIs (p ∷ b) (m || n)
crossed_later p b true n e c = (0, omega arith, omega (arith, ints))
crossed_later p b false true e c = (suc c.0, omega (arith, c.1), c.2)
crossed_later p b false false e c = proper_cons p b (omega (arith, ints)) c

crossed_is : (b : Bounds) → CrossedIs b (is_crossed_box b)
unfolding is_crossed_box
crossed_is [] = λ v h. omega arith
crossed_is (p ∷ b) = crossed_later p b (int_lt p.1 p.0) (is_crossed_box b) refl (crossed_is b)

pub not_both : (b : Bounds) → IsCrossed b → IsProper b → ⊥
not_both b (v, h, c) p = omega (arith, ints, p v h)

some_left : (b : Bounds) (m : Bool) → CrossedIs b m → IsProper b → cond m None (Some b) ≡ Some b
some_left b true x p = absurd (not_both b x p)
some_left b false q p = refl

none_left : (b : Bounds) (m : Bool) → CrossedIs b m → IsCrossed b → cond m None (Some b) ≡ None
none_left b true x c = refl
none_left b false q c = absurd (not_both b c q)

pub unless_proper : (b : Bounds) → IsProper b → unless_crossed b ≡ Some b
unless_proper b p = some_left b (is_crossed_box b) (crossed_is b) p

pub unless_none : (b : Bounds) → IsCrossed b → unless_crossed b ≡ None
unless_none b x = none_left b (is_crossed_box b) (crossed_is b) x

pub crossed_inside : (outer inner : Bounds) → IsInside inner outer → IsCrossed outer → IsCrossed inner
crossed_inside outer inner i (v, k, less) =
    let length_is = i.same_length in let low = i.lows v k in let high = i.highs v k in (v, omega arith, omega (arith, ints))

-- ---- one tell
narrows_true : (s : Side) (b : Bounds) (v : ℕ) (x : ℤ) → NarrowsSide b s v x → narrows_side b s v x ≡ true
narrows_true Low b v x n = true_from_ne_false (int_lt (low_of b v) x) (λ e. absurd (omega (arith, ints)))
narrows_true High b v x n = true_from_ne_false (int_lt x (high_of b v)) (λ e. absurd (omega (arith, ints)))

narrows_false : (s : Side) (b : Bounds) (v : ℕ) (x : ℤ) → KeepsSide b s v x → narrows_side b s v x ≡ false
narrows_false Low b v x k = false_from_ne_true (int_lt (low_of b v) x) (λ e. absurd (omega (arith, ints)))
narrows_false High b v x k = false_from_ne_true (int_lt x (high_of b v)) (λ e. absurd (omega (arith, ints)))

same_told : (s : Side) (b : Bounds) (v : ℕ) (x : ℤ) → told_side b s v x ≡ put_of b v (told_low b s v x) (told_high b s v x)
same_told Low b v x = refl
same_told High b v x = refl

-- a tell that is kept leaves the box as it is
pub with_kept : (b : Bounds) (t : Tell) → Keeps b t → with_tell b t ≡ b
with_kept b t k = cond-false (narrows b t) (told b t) b (narrows_false t.side b t.var t.bound k)

with_tighter : (b : Bounds) (t : Tell) → Narrows b t → with_tell b t ≡ told_box b t
with_tighter b t n = cond-true (narrows b t) (told b t) b (narrows_true t.side b t.var t.bound n) ∙ same_told t.side b t.var t.bound

-- so do tells that are all kept
pub with_all_kept : (b : Bounds) (ts : List Tell) → All (Keeps b) ts → with_tells b ts ≡ b
with_all_kept b [] k = refl
with_all_kept b (t ∷ ts) k = ap (λ (c : Bounds). with_tells c ts) (with_kept b t (All-head (Keeps b) t ts k)) ∙ with_all_kept b ts (All-tail (Keeps b) t ts k)

module _ (order : InsideOrder) (tightens : TightensOne) where
  with_tell_inside : (b : Bounds) (t : Tell) → t.var < length b → IsInside (with_tell b t) b
  with_tell_inside b t h = elim (keeps_or_narrows b t) [
    | inl k ↦ subst (λ (c : Bounds). IsInside c b) (sym (with_kept b t k)) (order.itself b)
    | inr n ↦ subst (λ (c : Bounds). IsInside c b) (sym (with_tighter b t n)) (tightens.inside b t.var _ _ (tightening b t h n))
  ]

  -- the tells that are left can be told the box once the first was joined
  placed_then : (b : Bounds) (t : Tell) (ts : List Tell) → All (IsPlaced (length b)) (t ∷ ts) → All (IsPlaced (length (with_tell b t))) ts
  placed_then b t ts a =
      let here = All-head (IsPlaced (length b)) t ts a in
      let inside = with_tell_inside b t here.0 in
      subst (λ (n : ℕ). All (IsPlaced n) ts) (sym inside.same_length) (All-tail (IsPlaced (length b)) t ts a)

  with_tells_inside : (b : Bounds) (ts : List Tell) → All (IsPlaced (length b)) ts → IsInside (with_tells b ts) b
  with_tells_inside b [] a = order.itself b
  with_tells_inside b (t ∷ ts) a =
      let here = All-head (IsPlaced (length b)) t ts a in
      order.through (with_tells (with_tell b t) ts) (with_tell b t) b (with_tells_inside (with_tell b t) ts (placed_then b t ts a)) (with_tell_inside b t here.0)

  -- the first of the tells leave a box round that which all of them leave
  pub with_first_inside : (n : ℕ) (b : Bounds) (ts : List Tell) → All (IsPlaced (length b)) ts → IsInside (with_tells b ts) (with_tells b (take n ts))
  with_first_inside zero b ts a = with_tells_inside b ts a
  with_first_inside (suc n) b [] a = order.itself b
  with_first_inside (suc n) b (t ∷ ts) a = with_first_inside n (with_tell b t) ts (placed_then b t ts a)

  -- a tell that narrows nothing of a box can be left out inside it
  pub with_narrowing : ((b : Bounds) (t : Tell) → narrows b t ≡ false → Keeps b t) → (b c : Bounds) (ts : List Tell) → All (IsPlaced (length b)) ts → IsInside c b →
      with_tells c (filter (narrows b) ts) ≡ with_tells c ts
  with_narrowing keeps b c [] a i = refl
  with_narrowing keeps b c (t ∷ ts) a i = elim (cases_Bool (narrows b t)) [
    | inl is ↦
        ap (with_tells c) (cond-true (narrows b t) (t ∷ filter (narrows b) ts) (filter (narrows b) ts) is)
        ∙ with_narrowing keeps b (with_tell c t) ts later (order.through (with_tell c t) c b (with_tell_inside c t in_c) i)
    | inr isnt ↦
        ap (with_tells c) (cond-false (narrows b t) (t ∷ filter (narrows b) ts) (filter (narrows b) ts) isnt)
        ∙ with_narrowing keeps b c ts later i
        ∙ ap (λ (x : Bounds). with_tells x ts) (sym (with_kept c t (keeps_inside b c t here.0 i (keeps b t isnt))))
  ] where
    here : IsPlaced (length b) t
    here = All-head (IsPlaced (length b)) t ts a

    later : All (IsPlaced (length b)) ts
    later = All-tail (IsPlaced (length b)) t ts a

    in_c : t.var < length c
    in_c = subst (λ (n : ℕ). t.var < n) (sym i.same_length) here.0

-- ---- what a box hears
hears_nothing : (j : Joined) (ts : List Tell) (k : Joined) → (GoesOn j.progress → ⊥) → HearsAll Hears j ts k → (k.box ≡ j.box) × (k.progress ≡ j.progress)
hears_nothing j [] k over e = (ap (λ (x : Joined). x.box) (sym e), ap (λ (x : Joined). x.progress) (sym e))
hears_nothing j (t ∷ ts) k over (mid, i, rest) =
    let stays = i.over over in
    let then = hears_nothing mid ts k (λ g. over (subst GoesOn stays.1 g)) rest in
    (then.0 ∙ stays.0, then.1 ∙ stays.1)

-- a tell that is heard is joined, unless memory was refused
put_then : (p : Progress) (b : Bounds) (v : ℕ) (low high : ℤ) (after : Bounds) → (p ≡ Refused → ⊥) → HasPut p b v low high after → after ≡ put_of b v low high
put_then Still b v low high after r put = absurd put
put_then Moved b v low high after r put = put.0
put_then Crossed b v low high after r put = put.0
put_then Refused b v low high after r put = absurd (r refl)

heard_then : (b : Bounds) (p : Progress) (t : Tell) (after : Bounds) (p' : Progress) → GoesOn p → (p' ≡ Refused → ⊥) → IsHeard b p t after p' → after ≡ with_tell b t
heard_then b p t after p' going r h = elim (keeps_or_narrows b t) [
  | inl k ↦ let same = h.kept going k in same.0 ∙ sym (with_kept b t k)
  | inr n ↦ put_then p' b t.var _ _ after r (h.put going n) ∙ sym (with_tighter b t n)
]

refused_or_not : (p : Progress) → (p ≡ Refused) ⊎ (p ≡ Refused → ⊥)
refused_or_not Still = inr (λ e. absurd (cc))
refused_or_not Moved = inr (λ e. absurd (cc))
refused_or_not Crossed = inr (λ e. absurd (cc))
refused_or_not Refused = inl refl

-- so is a list of tells, up to one by which the box is crossed
module _ (order : InsideOrder) (tightens : TightensOne) where
  -- one by which the box is crossed ends the hearing
  heard_over : (j mid : Joined) (t : Tell) (ts : List Tell) (k : Joined) → GoesOn j.progress → (k.progress ≡ Refused → ⊥) → All (IsPlaced (length j.box)) (t ∷ ts) → Hears j t mid → HearsAll Hears mid ts k →
      (GoesOn mid.progress → ⊥) → IsInside (with_tells j.box (t ∷ ts)) k.box
  heard_over j mid t ts k going r a h rest over =
      let stays = hears_nothing mid ts k over rest in
      let here = heard_then j.box j.progress t mid.box mid.progress going (λ e. r (stays.1 ∙ e)) h in
      subst (λ (c : Bounds). IsInside (with_tells j.box (t ∷ ts)) c) (sym (stays.0 ∙ here)) (with_tells_inside order tightens (with_tell j.box t) ts (placed_then order tightens j.box t ts a))

  pub all_heard_then : (j : Joined) (ts : List Tell) (k : Joined) → GoesOn j.progress → (k.progress ≡ Refused → ⊥) → All (IsPlaced (length j.box)) ts → HearsAll Hears j ts k → IsInside (with_tells j.box ts) k.box
  all_heard_then j [] k going r a e = subst (λ (x : Joined). IsInside j.box x.box) e (order.itself j.box)
  all_heard_then j (t ∷ ts) k going r a (mid, h, rest) = elim (goes_on_or_over mid.progress) [
    | inl on ↦
        let here = heard_then j.box j.progress t mid.box mid.progress going (λ e. subst GoesOn e on) h in
        subst (λ (x : Bounds). IsInside (with_tells x ts) k.box) here
        (all_heard_then mid ts k on r (subst (λ (x : Bounds). All (IsPlaced (length x)) ts) (sym here) (placed_then order tightens j.box t ts a)) rest)
    | inr over ↦ heard_over j mid t ts k going r a h rest over
  ]

  -- where the round goes on all of them were joined
  pub all_heard : (j : Joined) (ts : List Tell) (k : Joined) → GoesOn k.progress → HearsAll Hears j ts k → k.box ≡ with_tells j.box ts
  all_heard j [] k on e = ap (λ (x : Joined). x.box) (sym e)
  all_heard j (t ∷ ts) k on (mid, h, rest) = elim (goes_on_or_over mid.progress) [
    | inr over ↦ absurd (over (subst GoesOn (hears_nothing mid ts k over rest).1 on))
    | inl going ↦ elim (goes_on_or_over j.progress) [
      | inr over ↦ absurd (over (subst GoesOn (h.over over).1 going))
      | inl first ↦
          all_heard mid ts k on rest
          ∙ ap (λ (x : Bounds). with_tells x ts) (heard_then j.box j.progress t mid.box mid.progress first (λ e. subst GoesOn e going) h)
    ]
  ]

-- what becomes of the box, by what becomes of it where the round goes on and where it was crossed
pub becomes : (p : Progress) (step : Option Bounds) (after : Bounds) → (GoesOn p → step ≡ Some after) → (p ≡ Crossed → step ≡ None) → Becomes step p after
becomes Still step after some none = some tt
becomes Moved step after some none = some tt
becomes Crossed step after some none = none refl
becomes Refused step after some none = tt

pub becomes_some : (p : Progress) (step : Option Bounds) (after : Bounds) → GoesOn p → Becomes step p after → step ≡ Some after
becomes_some Still step after going is = is
becomes_some Moved step after going is = is
becomes_some Crossed step after going is = absurd going
becomes_some Refused step after going is = absurd going

pub becomes_none : (p : Progress) (step : Option Bounds) (after : Bounds) → p ≡ Crossed → Becomes step p after → step ≡ None
becomes_none Still step after e is = absurd (cc)
becomes_none Moved step after e is = absurd (cc)
becomes_none Crossed step after e is = is
becomes_none Refused step after e is = absurd (cc)
