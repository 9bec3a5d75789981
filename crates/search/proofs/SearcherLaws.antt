-- A searcher's boxes, and what it knows of them, at each move.
use Rattle.std.proofs.Common.{◌≡◌, ◌≢◌, ◌⊎◌, inl, inr, ℕ, ℤ, pos, ◌-ℤ◌, ◌≤ℤ◌, ◌<ℤ◌, Option, Some, None, ◌<◌, Bool, true, false, cond, List, [], ◌∷◌, ◌++◌, length, refl, sym, ap, subst, ◌∙◌, arith, length-append}
use Rattle.std.specs.Prelude.{IfSome, ◌-◌, take, drop}
use Rattle.std.specs.List.{All}
use Rattle.std.specs.Bool.{OnTrue, OnFalse}
use Rattle.std.proofs.lemmas.Int.{ints}
use Rattle.std.proofs.lemmas.List.{append_assoc, map-append, length-set, get_or-set_same, take-append-drop, take_all, take-append-le, drop-append-le, drop_all}
use Rattle.std.proofs.lemmas.List.Elements.{All-nil, All-cons, All-append}
use Rattle.interval.specs.Boxes.{Bounds, low_of, high_of, IsInside, IsProper, IsCrossed, InsideOrder, put_of}
use Rattle.constraint_model.specs.declared.model.FznModel.{FznModel}
use Rattle.trailed_box.specs.Trailed.{Trailed, Left, IsOver, left_of, box_of, boxes_of as left_boxes}
use Rattle.branching.specs.declared.fronts.Front.{Front}
use Rattle.branching.specs.Fronts.{IsFrontOf, FrontsStay}
use Rattle.guarded_tell.specs.declared.kernel.Kernel.{Kernel}
use Rattle.constraint_model.specs.declared.model.Goal.{Goal}
use Rattle.search.specs.declared.kind.Kind.{Kind}
use Rattle.search.specs.Machine.{cut_by}
use Rattle.search.proofs.CutLaws.{at_most_inside}
use Rattle.fixpoint_laws.specs.Changes.{TightensOne}
use Rattle.moved_fixpoint.specs.Made.{IsMadeBy}
use Rattle.narrowing.specs.declared.narrower.Narrower.{Narrower}
use Rattle.narrowing.specs.Narrowers.{Fits, len_of, lanes_for}
use Rattle.search.specs.declared.run.Run.{Run}
use Rattle.search.specs.declared.searcher.Searcher.{Searcher}
use Rattle.search.specs.Stacks.{own_on, below_on, below_of, count_of, IsLeft, TellsCrossed, AreFronts, AreSound, IsFrontNear, AreLeft, CanRestart}
use Rattle.search.proofs.StackLaws.{all_last, all_front}

-- ---- fronts of what is left

no_fronts : (model : FznModel) (fronts : List Front) (front : Front) → AreFronts model [] (fronts ++ front ∷ []) → ⊥
no_fronts model [] front h = h
no_fronts model (f ∷ fronts) front h = h

no_lefts : (model : FznModel) (lefts : List Left) (left : Left) → AreFronts model (lefts ++ left ∷ []) [] → ⊥
no_lefts model [] left h = h
no_lefts model (l ∷ lefts) left h = h

pub fronts_push : (model : FznModel) (lefts : List Left) (fronts : List Front) (left : Left) (front : Front) → AreFronts model lefts fronts → IsFrontOf model left.base front →
    AreFronts model (lefts ++ left ∷ []) (fronts ++ front ∷ [])
fronts_push model [] [] left front h k = (k, tt)
fronts_push model [] (f ∷ fronts) left front h k = absurd h
fronts_push model (l ∷ lefts) [] left front h k = absurd h
fronts_push model (l ∷ lefts) (f ∷ fronts) left front h k = (h.0, fronts_push model lefts fronts left front h.1 k)

pub fronts_pop : (model : FznModel) (lefts : List Left) (fronts : List Front) (left : Left) (front : Front) → AreFronts model (lefts ++ left ∷ []) (fronts ++ front ∷ []) →
    AreFronts model lefts fronts × IsFrontOf model left.base front
fronts_pop model [] [] left front h = (tt, h.0)
fronts_pop model [] (f ∷ fronts) left front h = absurd (no_fronts model fronts front h.1)
fronts_pop model (l ∷ lefts) [] left front h = absurd (no_lefts model lefts left h.1)
fronts_pop model (l ∷ lefts) (f ∷ fronts) left front h = let q = fronts_pop model lefts fronts left front h.1 in ((h.0, q.0), q.1)

-- ---- what is the searcher's own on the stack

-- with one more left, and a front of it, the others are its own as before, and what lies below is the same
module _ (stack lefts : List Left) (fronts others : List Front) (left : Left) (front : Front) (e : stack ≡ lefts ++ left ∷ []) (f : fronts ≡ others ++ front ∷ []) where
  depth : length stack - length fronts ≡ length lefts - length others
  depth = omega (arith, ap length e, length-append lefts (left ∷ []), ap length f, length-append others (front ∷ []))

  pub own_more : own_on stack fronts ≡ own_on lefts others ++ left ∷ []
  own_more =
      ap (λ (n : ℕ). drop n stack) depth ∙ ap (λ (ls : List Left). drop (length lefts - length others) ls) e
      ∙ drop-append-le (length lefts - length others) lefts (left ∷ []) (omega arith)

  pub below_more : below_on stack fronts ≡ below_on lefts others
  below_more =
      ap (λ (n : ℕ). take n stack) depth ∙ ap (λ (ls : List Left). take (length lefts - length others) ls) e
      ∙ take-append-le (length lefts - length others) lefts (left ∷ []) (omega arith)

module _ (stack : List Left) (fronts : List Front) where
  -- without fronts nothing is its own
  pub own_none : fronts ≡ [] → own_on stack fronts ≡ []
  own_none e = drop_all (length stack - length fronts) stack (omega (arith, ap length e))

  pub below_none : fronts ≡ [] → below_on stack fronts ≡ stack
  below_none e = take_all (length stack - length fronts) stack (omega (arith, ap length e))

  pub over_below : IsOver (below_on stack fronts) stack
  over_below = (own_on stack fronts, sym (take-append-drop (length stack - length fronts) stack))

  -- with a front something is left
  pub some_lefts : (model : FznModel) (others : List Front) (front : Front) → fronts ≡ others ++ front ∷ [] → AreFronts model (own_on stack fronts) fronts → stack ≢ []
  some_lefts model others front f h none =
      let own : own_on stack fronts ≡ [] = ap (λ (ls : List Left). own_on ls fronts) none ∙ drop_all (0 - length fronts) [] (omega arith) in
      no_fronts model others front (subst (λ (fs : List Front). AreFronts model [] fs) f (subst (λ (ls : List Left). AreFronts model ls fronts) own h))

-- ---- what is left

module _ (model : FznModel) (kernels : List Kernel) where
  pub sound_none : (stack : List Left) (fronts : List Front) → stack ≡ [] → fronts ≡ [] → AreSound model kernels stack fronts
  sound_none stack fronts e f = record {
    parts = subst (λ (ls : List Left). All (IsLeft kernels) ls) (sym e) (All-nil (IsLeft kernels));
    fronts = subst (λ (ls : List Left). AreFronts model ls fronts) (sym e) (subst (λ (fs : List Front). AreFronts model [] fs) (sym f) tt);
  }

  pub sound_push : (stack more : List Left) (fronts others : List Front) (left : Left) (front : Front) → more ≡ stack ++ left ∷ [] → others ≡ fronts ++ front ∷ [] →
      IsLeft kernels left → IsFrontOf model left.base front → AreSound model kernels stack fronts → AreSound model kernels more others
  sound_push stack more fronts others left front e f l k h = record {
    parts = subst (λ (ls : List Left). All (IsLeft kernels) ls) (sym e) (All-append (IsLeft kernels) stack (left ∷ []) h.parts (All-cons (IsLeft kernels) left [] l (All-nil (IsLeft kernels))));
    fronts = subst (λ (ls : List Left). AreFronts model ls others) (sym e) (subst (λ (fs : List Front). AreFronts model (stack ++ left ∷ []) fs) (sym f) (fronts_push model stack fronts left front h.fronts k));
  }

  module _ (stack lefts : List Left) (fronts others : List Front) (left : Left) (e : stack ≡ lefts ++ left ∷ []) (parts : All (IsLeft kernels) stack) (are_fronts : AreFronts model stack fronts) where
    pub last_left : IsLeft kernels left
    last_left = all_last (IsLeft kernels) lefts left (subst (λ (ls : List Left). All (IsLeft kernels) ls) e parts)

    module _ (front : Front) (f : fronts ≡ others ++ front ∷ []) where
      both : AreFronts model lefts others × IsFrontOf model left.base front
      both = fronts_pop model lefts others left front
          (subst (λ (fs : List Front). AreFronts model (lefts ++ left ∷ []) fs) f (subst (λ (ls : List Left). AreFronts model ls fronts) e are_fronts))

      pub sound_pop : AreSound model kernels lefts others
      sound_pop = record {
        parts = all_front (IsLeft kernels) lefts (left ∷ []) (subst (λ (ls : List Left). All (IsLeft kernels) ls) e parts);
        fronts = both.0;
      }

      pub last_front : IsFrontOf model left.base front
      last_front = both.1

-- ---- boxes

pub opened : {A : Type 0} (t : Bool) (xs : List A) → cond t xs [] ≢ [] → t ≡ true
opened true xs h = refl
opened false xs h = absurd (h refl)

pub when_open : {A : Type 0} (t : Bool) (xs : List A) → t ≡ true → cond t xs [] ≡ xs
when_open t xs e = ap (λ (u : Bool). cond u xs []) e

pub when_closed : {A : Type 0} (t : Bool) (xs : List A) → t ≡ false → cond t xs [] ≡ []
when_closed t xs e = ap (λ (u : Bool). cond u xs []) e

pub some_box : {A : Type 0} (t : Bool) (xs : List A) (x : A) → t ≡ true → cond t (xs ++ x ∷ []) [] ≢ []
some_box t xs x e k = absurd (omega (arith, ap length (sym (when_open t (xs ++ x ∷ []) e) ∙ k), length-append xs (x ∷ [])))

pub boxes_more : (lefts : List Left) (left : Left) → left_boxes (lefts ++ left ∷ []) ≡ left_boxes lefts ++ box_of left ∷ []
boxes_more lefts left = map-append box_of lefts (left ∷ [])

-- a box that was left is the current one again
pub boxes_back : (t : Bool) (stack lefts : List Left) (base current : Bounds) (var : ℕ) (low high : ℤ) → t ≡ true → stack ≡ lefts ++ left_of base var low high ∷ [] →
    current ≡ put_of base var low high → cond t (left_boxes lefts ++ current ∷ []) [] ≡ left_boxes stack
boxes_back t stack lefts base current var low high e s c =
    when_open t (left_boxes lefts ++ current ∷ []) e ∙ ap (λ (b : Bounds). left_boxes lefts ++ b ∷ []) c
    ∙ sym (boxes_more lefts (left_of base var low high)) ∙ ap left_boxes (sym s)

-- one part is left, and the other is the current box
pub boxes_parted : (t : Bool) (stack lefts : List Left) (base current : Bounds) (var : ℕ) (low high : ℤ) → t ≡ true → stack ≡ lefts ++ left_of base var low high ∷ [] →
    cond t (left_boxes stack ++ current ∷ []) [] ≡ left_boxes lefts ++ put_of base var low high ∷ current ∷ []
boxes_parted t stack lefts base current var low high e s =
    when_open t (left_boxes stack ++ current ∷ []) e ∙ ap (λ (ls : List Left). left_boxes ls ++ current ∷ []) s
    ∙ ap (λ (bs : List Bounds). bs ++ current ∷ []) (boxes_more lefts (left_of base var low high))
    ∙ append_assoc (left_boxes lefts) (put_of base var low high ∷ []) (current ∷ [])

-- ---- fronts

pub near_inside : InsideOrder → (model : FznModel) (b c : Bounds) (front : Front) → IsInside c b → IsFrontNear model b front → IsFrontNear model c front
near_inside order model b c front i h = record { outer = h.outer; inside = order.through c b h.outer i h.inside; is_front = h.is_front }

pub front_here : FrontsStay → (model : FznModel) (b : Bounds) (front : Front) → IsProper b → IsFrontNear model b front → IsFrontOf model b front
front_here stay model b front proper h = stay model h.outer b front h.is_front h.inside proper

-- ---- a cut box

pub cut_lies : InsideOrder → (goal : Goal) (best : Option ℤ) (b : Bounds) → IsInside (cut_by Kind.Least goal best b) b
cut_lies order goal None b = order.itself b
cut_lies order goal (Some best) b = at_most_inside order goal (best -ℤ pos 1) b

-- ---- crossed boxes

-- what lies inside a crossed box is crossed
pub crossed_inside : (inner outer : Bounds) → IsInside inner outer → IsCrossed outer → IsCrossed inner
crossed_inside inner outer i (v, h, lt) =
    let low = i.lows v h in
    let high = i.highs v h in
    let same = i.same_length in
    (v, omega (arith, h, same), omega (arith, ints, low, high, lt))

-- a box that is proper isn't told to be crossed
pub told_proper : (b : Bounds) → IsProper b → TellsCrossed false b
told_proper b proper = record { crossed = λ e. absurd (let f : false ≡ true = e in cc); proper = λ _. proper }

-- no number is left for a pair
pair_crossed : (b : Bounds) (v : ℕ) (low high : ℤ) → v < length b → high <ℤ low → IsCrossed (put_of b v low high)
pair_crossed b v low high h lt =
    let at = get_or-set_same b v (low, high) (pos 0, pos 0) h in
    let l : low_of (put_of b v low high) v ≡ low = ap (λ (q : ℤ × ℤ). q.0) at in
    let u : high_of (put_of b v low high) v ≡ high = ap (λ (q : ℤ × ℤ). q.1) at in
    let same = length-set b v (low, high) in
    (v, omega (arith, h, same), omega (arith, ints, l, u, lt))

-- it is known whether a box is crossed once a pair is cut
pub told_cut : TightensOne → (b : Bounds) (v : ℕ) (low high : ℤ) (was now : Bool) → v < length b → IsInside (put_of b v low high) b → TellsCrossed was b →
    OnTrue now ((was ≡ true) ⊎ (high <ℤ low)) → OnFalse now ((was ≡ false) × (low ≤ℤ high)) → TellsCrossed now (put_of b v low high)
told_cut tightens b v low high was true h i told (inl e) k = record {
  crossed = λ _. crossed_inside (put_of b v low high) b i (told.crossed e);
  proper = λ e. absurd (let f : true ≡ false = e in cc);
}
told_cut tightens b v low high was true h i told (inr lt) k = record {
  crossed = λ _. pair_crossed b v low high h lt;
  proper = λ e. absurd (let f : true ≡ false = e in cc);
}
told_cut tightens b v low high was false h i told j (e, le) = told_proper (put_of b v low high) (tightens.proper b v low high h (told.proper e) le)

-- where some number is left for a pair, its bounds are in order
pub pair_proper : (b : Bounds) (v : ℕ) (low high : ℤ) → v < length b → IsProper (put_of b v low high) → low ≤ℤ high
pair_proper b v low high h proper =
    let at = get_or-set_same b v (low, high) (pos 0, pos 0) h in
    let l : low_of (put_of b v low high) v ≡ low = ap (λ (q : ℤ × ℤ). q.0) at in
    let u : high_of (put_of b v low high) v ≡ high = ap (λ (q : ℤ × ℤ). q.1) at in
    let same = length-set b v (low, high) in
    let le = proper v (omega (arith, h, same)) in
    omega (arith, ints, l, u, le)

-- it wasn't crossed, and the cut leaves some number
pub not_crossed : (t : Bool) (P : Type 0) → t ≡ false → OnFalse t P → P
not_crossed t P e h = subst (λ (u : Bool). OnFalse u P) e h

-- ---- the searcher of a run that is over

-- the pair by which a box was made is one of those that the narrower serves
pub pair_within : (n : Narrower) (kernels : List Kernel) (b : Bounds) (changed : Option ℕ) → Fits n kernels (length b) → IsMadeBy changed kernels b → IfSome changed (λ pair. pair < len_of n)
pair_within n kernels b None fits made = tt
pair_within n kernels b (Some pair) fits made =
    let same : length b ≡ length made.closed = ap (λ (x : Bounds). length x) made.is_put ∙ length-set made.closed pair (made.low, made.high) in
    let len = fits.len in
    let within = made.in_box in
    omega arith

-- the boxes are given back as they were given, with more left above
pub given_back : (start boxes : Trailed) (kernels : List Kernel) (lanes : ℕ) (first last : Searcher) → first.boxes.current ≡ start.current → below_of first ≡ start.stack →
    CanRestart kernels lanes (count_of first) last → below_of last ≡ below_of first → boxes ≡ last.boxes → IsOver (below_of last) boxes.stack →
    IsOver start.stack boxes.stack × (length boxes.current ≡ length start.current)
given_back start boxes kernels lanes first last current below again bottom same over =
    (subst (λ (ls : List Left). IsOver ls boxes.stack) (bottom ∙ below) over, ap (λ (t : Trailed). length t.current) same ∙ again.same_count ∙ ap length current)

-- what it leaves serves boxes of as many variables
pub serves_start : (start : Bounds) (kernels : List Kernel) (lanes : ℕ) (first last : Searcher) → first.boxes.current ≡ start →
    CanRestart kernels lanes (count_of first) last → CanRestart kernels lanes (length start) last
serves_start start kernels lanes first last current again = subst (λ (b : Bounds). CanRestart kernels lanes (length b) last) current again

pub from_left : {L : Type 0} (run : Run L) (s : Searcher) (count : ℕ) → AreLeft run s → count_of s ≡ count → CanRestart run.program.now.kernels run.lanes count s
from_left run s count left same = record {
  same_count = same;
  fits = subst (λ (n : ℕ). Fits s.narrower run.program.now.kernels n) same left.fits;
  same_lanes = left.lanes;
}

-- where one lane is asked for there is one
pub one_lane : (kernels : List Kernel) → lanes_for kernels 1 ≡ 1
one_lane [] = refl
one_lane (k ∷ kernels) = refl
