-- A box that joins a list of tells, one after another.
use Rattle.std.proofs.Common.{◌≡◌, ◌≢◌, ℕ, ◌<◌, Bool, true, false, List, [], ◌∷◌, length, ◌⊎◌, inl, inr, ap, sym, refl, ◌∙◌, subst}
use Rattle.std.specs.List.{All}
use Rattle.std.proofs.lemmas.Bool.{true≢false}
use Rattle.std.proofs.lemmas.List.Elements.{All-nil, All-cons, All-head, All-tail}
use Rattle.interval.specs.Boxes.{Bounds, IsInRange, IsInside, InsideOrder}
use Rattle.interval.specs.Limits.{IsBound}
use Rattle.guarded_tell.specs.Words.{Tell}
use Rattle.guarded_tell.specs.declared.kernel.Kernel.{Kernel}
use Rattle.guarded_tell.specs.Words.{Keeps, IsProperIn, AgreeIn}
use Rattle.guarded_tell.specs.Hearing.{HearsAll, MayHearAll}
use Rattle.guarded_tell.specs.Kernels.{vars_of, tells, IsKernel, IsClosedUnder}
use Rattle.fixpoint_laws.specs.Rounds.{Narrows, told, IsJoined, HasRun}
use Rattle.fixpoint_laws.proofs.Places.{inside_in, Local, Monotone, TellPlace}
use Rattle.fixpoint_laws.proofs.Telling.{keeps_or_narrows, told_inside, told_holds, told_moves}

-- what joining tells makes of a box: it stays inside, keeps each box that no tell narrows, and the mark says
-- whether it moved
pub record Effect (b : Bounds) (m : Bool) (ts : List Tell) (after : Bounds) (moved : Bool) : Type 0 where
  pub inside : IsInside after b
  pub holds : (c : Bounds) → IsInside c b → All (Keeps c) ts → IsInside c after
  pub still : moved ≡ false → (after ≡ b) × (m ≡ false) × All (Keeps b) ts
  pub moves : moved ≡ true → (m ≡ true) ⊎ (after ≢ b)

module _ (order : InsideOrder) where
  pub effect_none : (b : Bounds) (m : Bool) → Effect b m [] b m
  effect_none b m = record {
    inside = order.itself b;
    holds = λ c i k. i;
    still = λ e. (refl, e, All-nil (Keeps b));
    moves = λ e. inl e;
  }

  -- one tell: kept or narrowed
  one_kept : (b : Bounds) (m : Bool) (t : Tell) (after : Bounds) (moved : Bool) → Keeps b t → (after ≡ b) × (moved ≡ m) →
      Effect b m (t ∷ []) after moved
  one_kept b m t after moved k e = record {
    inside = subst (λ (x : Bounds). IsInside x b) (sym e.0) (order.itself b);
    holds = λ c i a. subst (λ (x : Bounds). IsInside c x) (sym e.0) i;
    still = λ f. (e.0, sym e.1 ∙ f, All-cons (Keeps b) t [] k (All-nil (Keeps b)));
    moves = λ f. inl (sym e.1 ∙ f);
  }

  one_narrowed : (b : Bounds) (m : Bool) (t : Tell) (after : Bounds) (moved : Bool) → t.var < length b → Narrows b t →
      (after ≡ told b t) × (moved ≡ true) → Effect b m (t ∷ []) after moved
  one_narrowed b m t after moved h n e = record {
    inside = subst (λ (x : Bounds). IsInside x b) (sym e.0) (told_inside b t h n);
    holds = λ c i a. subst (λ (x : Bounds). IsInside c x) (sym e.0) (told_holds b c t h i (All-head (Keeps c) t [] a));
    still = λ f. absurd (true≢false (sym e.1 ∙ f));
    moves = λ f. inr (λ same. told_moves b t h n (sym e.0 ∙ same));
  }

  pub one : (b : Bounds) (m : Bool) (t : Tell) (after : Bounds) (moved : Bool) → t.var < length b →
      IsJoined b m t after moved → Effect b m (t ∷ []) after moved
  one b m t after moved h j = elim (keeps_or_narrows b t) [
    | inl k ↦ one_kept b m t after moved k (j.kept k)
    | inr n ↦ one_narrowed b m t after moved h n (j.narrowed n)
  ]

  -- between boxes that lie in each other's way and are the same at both ends, nothing moved
  pub middle : (a b c : Bounds) → IsInside b a → IsInside c b → c ≡ a → b ≡ a
  middle a b c i j e = order.equal b a i (subst (λ (x : Bounds). IsInside x b) e j)

  pub effect_more : (a b c : Bounds) (m n o : Bool) (t : Tell) (ts : List Tell) →
      Effect a m (t ∷ []) b n → Effect b n ts c o → Effect a m (t ∷ ts) c o
  effect_more a b c m n o t ts e f = record {
    inside = order.through c b a f.inside e.inside;
    holds = λ x i k. f.holds x (e.holds x i (All-cons (Keeps x) t [] (All-head (Keeps x) t ts k) (All-nil (Keeps x)))) (All-tail (Keeps x) t ts k);
    still = λ s. let p = f.still s in let q = e.still p.1 in
        (p.0 ∙ q.0, q.1, All-cons (Keeps a) t ts (All-head (Keeps a) t [] q.2) (subst (λ (x : Bounds). All (Keeps x) ts) q.0 p.2));
    moves = λ s. elim (f.moves s) [
      | inl p ↦ elim (e.moves p) [ inl q ↦ inl q | inr q ↦ inr (λ same. q (middle a b c e.inside f.inside same)) ]
      | inr p ↦ inr (λ same. p (same ∙ sym (middle a b c e.inside f.inside same)))
    ];
  }

-- a tell that a box can be told
abbrev pub IsPlaced : ℕ → Tell → Type 0
IsPlaced n t = (t.var < n) × IsBound t.bound

-- any hearer with a box and a mark in it, which joins each tell into the box
module _ (order : InsideOrder) {H : Type 0} (box : H → Bounds) (mark : H → Bool) (heard : H → Tell → H → Type 0)
    (joins : (h : H) (t : Tell) (g : H) → heard h t g → IsJoined (box h) (mark h) t (box g) (mark g)) where
  pub may_hear_all : (may : H → Tell → Type 0) → ((h : H) (t : Tell) → IsPlaced (length (box h)) t → may h t) →
      (h : H) (ts : List Tell) → All (IsPlaced (length (box h))) ts → MayHearAll may heard h ts
  may_hear_all may placed h [] a = tt
  may_hear_all may placed h (t ∷ ts) a =
      let here : IsPlaced (length (box h)) t = All-head (IsPlaced (length (box h))) t ts a in (
        placed h t here,
        λ g j.
            let e : Effect (box h) (mark h) (t ∷ []) (box g) (mark g) = one order (box h) (mark h) t (box g) (mark g) here.0 (joins h t g j) in
            may_hear_all may placed g ts (subst (λ (n : ℕ). All (IsPlaced n) ts) (sym e.inside.same_length) (All-tail (IsPlaced (length (box h))) t ts a)),
      )

  pub same_name : {N : Type 0} (name : H → N) → ((h : H) (t : Tell) (g : H) → heard h t g → name g ≡ name h) →
      (h : H) (ts : List Tell) (g : H) → HearsAll heard h ts g → name g ≡ name h
  same_name name keeps h [] g e = ap name (sym e)
  same_name name keeps h (t ∷ ts) g (mid, j, rest) = same_name name keeps mid ts g rest ∙ keeps h t mid j

  pub effect : (h : H) (ts : List Tell) (g : H) → All (IsPlaced (length (box h))) ts → HearsAll heard h ts g →
      Effect (box h) (mark h) ts (box g) (mark g)
  effect h [] g a e = subst (λ (x : H). Effect (box h) (mark h) [] (box x) (mark x)) e (effect_none order (box h) (mark h))
  effect h (t ∷ ts) g a (mid, j, rest) =
      let here : IsPlaced (length (box h)) t = All-head (IsPlaced (length (box h))) t ts a in
      let e : Effect (box h) (mark h) (t ∷ []) (box mid) (mark mid) = one order (box h) (mark h) t (box mid) (mark mid) here.0 (joins h t mid j) in
      let after : All (IsPlaced (length (box mid))) ts =
      subst (λ (n : ℕ). All (IsPlaced n) ts) (sym e.inside.same_length) (All-tail (IsPlaced (length (box h))) t ts a) in
      effect_more order (box h) (box mid) (box g) (mark h) (mark mid) (mark g) t ts e (effect mid ts g after rest)

-- all tells of a kernel, heard by a box that agrees with the one they were made for
module _ (place : TellPlace) (local : Local) (k : Kernel) (spare b : Bounds)
    (kernel : IsKernel (length b) k) (agree : AgreeIn (vars_of k) spare b) where
  pub all_placed : All (IsPlaced (length b)) (tells k spare)
  all_placed = subst (λ (ts : List Tell). All (IsPlaced (length b)) ts) (sym (local k spare b agree)) (λ i d h. let p = place k b kernel i d h in (p.1, p.2))

  pub of_own : (m : Bool) (after : Bounds) (moved : Bool) → Effect b m (tells k spare) after moved → Effect b m (tells k b) after moved
  of_own m after moved e = subst (λ (ts : List Tell). Effect b m ts after moved) (local k spare b agree) e

module _ (k : Kernel) (b after : Bounds) (m moved : Bool) (e : Effect b m (tells k b) after moved) where
  pub run_of : Monotone → IsInRange b → IsKernel (length b) k → IsProperIn (vars_of k) b → HasRun k b after
  run_of monotone range kernel proper = record {
    inside = e.inside;
    keeps_closed = λ c p closed i. e.holds c i (monotone k b c kernel range i.same_length proper closed (inside_in k c b kernel i));
  }

  pub still_of : moved ≡ false → after ≡ b
  still_of f = let s = e.still f in s.0

  pub closed_of : IsProperIn (vars_of k) b → moved ≡ false → IsClosedUnder k b
  closed_of proper f = let s = e.still f in record { proper = proper; kept = s.2 }

  pub moves_of : m ≡ false → moved ≡ true → after ≢ b
  moves_of u f = elim (e.moves f) [ inl x ↦ absurd (true≢false (sym x ∙ u)) | inr ne ↦ ne ]
