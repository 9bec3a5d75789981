-- Kernels that rest: what a narrower knows of them, and what it kept of them where boxes were left for later.
use Rattle.std.proofs.Common.{◌≡◌, ◌≢◌, ℕ, ℤ, true, ◌<◌, ◌≤ℤ◌, ◌⊎◌, inl, inr, List, [], ◌∷◌, ◌++◌, length, get_or, refl, sym, ◌∙◌, ap, subst, arith}
use Rattle.std.specs.Prelude.{slice_set}
use Rattle.std.proofs.lemmas.Bool.{cases_eq}
use Rattle.std.proofs.lemmas.List.{length-append, get_or_append_left, get_or_push}
use Rattle.interval.specs.Boxes.{Bounds, put_of, IsInside}
use Rattle.guarded_tell.specs.declared.kernel.Kernel.{Kernel}
use Rattle.trailed_box.specs.Trailed.{Left, left_of}
use Rattle.moved_fixpoint.specs.declared.rests.Rests.{Rests}
use Rattle.moved_fixpoint.specs.Moved.{Set, count_of}
use Rattle.moved_fixpoint.specs.Resting.{AreAwake, AreFresh, AreLeft, AreResting, HasEach, IsBack, KeepCounts, KeepStacks, Knows as KnowsOn, KnownUnlessMoved}
use Rattle.narrowing.specs.declared.alone.Alone.{Alone}
use Rattle.narrowing.specs.declared.narrower.Narrower.{Narrower}
use Rattle.narrowing.specs.Narrowers.{len_of, Fits, IsAloneFor, Knows, LetsRest, AreLayers, LetRest}

-- ---- layers

rests_same : (kernels : List Kernel) (o p a d : Set) (l m : Left) → o ≡ p → a ≡ d → l ≡ m → AreResting o a l.base kernels → AreResting p d m.base kernels
rests_same kernels o p a d l m e f g r =
    subst (λ (x : Set). AreResting x d m.base kernels) e
    (subst (λ (x : Set). AreResting o x m.base kernels) f
    (subst (λ (x : Left). AreResting o a x.base kernels) g r))

pub layers_push : (kernels : List Kernel) (opens alerts : List Set) (stack : List Left) (o a : Set) (left : Left) → AreLayers kernels opens alerts stack → AreResting o a left.base kernels
    → AreLayers kernels (opens ++ o ∷ []) (alerts ++ a ∷ []) (stack ++ left ∷ [])
layers_push kernels opens alerts stack o a left layers r =
    let n = layers.open_count in
    let m = layers.alert_count in
    record {
      open_count = omega (arith, length-append opens (o ∷ []), length-append stack (left ∷ []));
      alert_count = omega (arith, length-append alerts (a ∷ []), length-append stack (left ∷ []));
      each = λ i p d l h.
          let whole = length-append stack (left ∷ []) in
          let last : i ≡ length stack → AreResting (get_or (opens ++ o ∷ []) i p) (get_or (alerts ++ a ∷ []) i d) (get_or (stack ++ left ∷ []) i l).base kernels =
          λ e. rests_same kernels o _ a _ left _ (sym (get_or_push opens o p i (n ∙ sym e))) (sym (get_or_push alerts a d i (m ∙ sym e))) (sym (get_or_push stack left l i (sym e))) r in
          let before : i ≢ length stack → AreResting (get_or (opens ++ o ∷ []) i p) (get_or (alerts ++ a ∷ []) i d) (get_or (stack ++ left ∷ []) i l).base kernels =
          λ ne.
          let k : i < length stack = omega arith in
          rests_same kernels (get_or opens i p) _ (get_or alerts i d) _ (get_or stack i l) _
          (sym (get_or_append_left opens (o ∷ []) p i (omega arith))) (sym (get_or_append_left alerts (a ∷ []) d i (omega arith))) (sym (get_or_append_left stack (left ∷ []) l i k)) (layers.each i p d l k) in
          by_place last before (cases_eq i (length stack));
    }
  where
    by_place : {P Q R : Type 0} → (P → R) → (Q → R) → P ⊎ Q → R
    by_place f g (inl x) = f x
    by_place f g (inr y) = g y

pub layers_pop : (kernels : List Kernel) (opens alerts : List Set) (stack : List Left) (o a : Set) (left : Left) → AreLayers kernels (opens ++ o ∷ []) (alerts ++ a ∷ []) (stack ++ left ∷ [])
    → AreLayers kernels opens alerts stack × AreResting o a left.base kernels
layers_pop kernels opens alerts stack o a left layers =
    let n : length opens ≡ length stack = omega (arith, layers.open_count, length-append opens (o ∷ []), length-append stack (left ∷ [])) in
    let m : length alerts ≡ length stack = omega (arith, layers.alert_count, length-append alerts (a ∷ []), length-append stack (left ∷ [])) in
    let front : AreLayers kernels opens alerts stack = record {
      open_count = n;
      alert_count = m;
      each = λ i p d l h.
          rests_same kernels _ (get_or opens i p) _ (get_or alerts i d) _ (get_or stack i l)
          (get_or_append_left opens (o ∷ []) p i (omega arith)) (get_or_append_left alerts (a ∷ []) d i (omega arith)) (get_or_append_left stack (left ∷ []) l i h)
          (layers.each i p d l (omega (arith, length-append stack (left ∷ []))));
    } in
    let last : AreResting o a left.base kernels =
    rests_same kernels _ o _ a _ left
    (get_or_push opens o [] (length stack) n) (get_or_push alerts a [] (length stack) m) (get_or_push stack left left (length stack) refl)
    (layers.each (length stack) [] [] left (omega (arith, length-append stack (left ∷ [])))) in
    (front, last)

layers_same : (kernels : List Kernel) (opens ps alerts ds : List Set) (stack : List Left) → ps ≡ opens → ds ≡ alerts → AreLayers kernels opens alerts stack → AreLayers kernels ps ds stack
layers_same kernels opens ps alerts ds stack e f layers =
    subst (λ (x : List Set). AreLayers kernels x ds stack) (sym e) (subst (λ (x : List Set). AreLayers kernels opens x stack) (sym f) layers)

-- ---- the calls of a narrower

module _ (n : Narrower) (alone : Alone) (is : n ≡ Narrower.Alone alone) where
  abbrev rests : Rests
  rests = alone.sets.asking.rests

  layers_of : (kernels : List Kernel) (stack : List Left) → LetRest n kernels stack → AreLayers kernels rests.open.stack rests.alert.stack stack
  layers_of kernels stack h = subst (λ (m : Narrower). LetRest m kernels stack) is h

  pub one_known : KnownUnlessMoved → (moved : Set) (v : ℕ) → v < len_of n → moved ≡ slice_set alone.sets.moved v true → (kernels : List Kernel) (b : Bounds) (low high : ℤ) → IsInside (put_of b v low high) b → low ≤ℤ high
      → Knows n kernels b → KnowsOn alone.sets.asking.asked rests.open.current rests.alert.current moved (put_of b v low high) kernels
  one_known law moved v h set kernels b low high inside le knows =
      let known = subst (λ (m : Narrower). Knows m kernels b) is knows in
      let below : v < count_of alone.sets.moved = subst (λ (m : Narrower). v < len_of m) is h in
      subst (λ (s : Set). KnowsOn alone.sets.asking.asked rests.open.current rests.alert.current s (put_of b v low high) kernels) (sym set)
      (law.put b kernels alone.sets.asking.asked rests.open.current rests.alert.current alone.sets.moved v low high below inside le known)

  -- all are asked and open
  pub all_known : KnownUnlessMoved → (asked moved : Set) (new : Rests) → HasEach (count_of alone.sets.asking.asked) asked → KeepCounts rests new → AreFresh new
      → (kernels : List Kernel) (count : ℕ) (b : Bounds) → Fits n kernels count → KnowsOn asked new.open.current new.alert.current moved b kernels
  all_known law asked moved new each counts fresh kernels count b fits =
      let own = fits_alone kernels count fits in
      let a = own.sets.asked_count in
      let o = own.rests.open_count in
      law.all_asked b kernels asked new.open.current new.alert.current moved
      (λ j h. each j (omega arith))
      (λ j h. fresh.open_each j (omega (arith, counts.open_count)))
    where
      fits_alone : (kernels : List Kernel) (count : ℕ) → Fits n kernels count → IsAloneFor alone kernels count
      fits_alone kernels count fits = (subst (λ (m : Narrower). Fits m kernels count) is fits).serves

  -- all are open and alert
  pub all_awake : KnownUnlessMoved → (asked moved : Set) (new : Rests) → KeepCounts rests new → AreAwake new
      → (kernels : List Kernel) (count : ℕ) (b : Bounds) → Fits n kernels count → KnowsOn asked new.open.current new.alert.current moved b kernels
  all_awake law asked moved new counts awake kernels count b fits =
      let own : IsAloneFor alone kernels count = (subst (λ (m : Narrower). Fits m kernels count) is fits).serves in
      let o = own.rests.open_count in
      let a = own.rests.alert_count in
      law.all_alert b kernels asked new.open.current new.alert.current moved
      (λ j h. awake.open_each j (omega (arith, counts.open_count)))
      (λ j h. awake.alert_each j (omega (arith, counts.alert_count)))

  pub none_awake : (new : Rests) → AreAwake new → (kernels : List Kernel) → AreLayers kernels new.open.stack new.alert.stack []
  none_awake new awake kernels = record {
    open_count = ap length awake.open_stack;
    alert_count = ap length awake.alert_stack;
    each = λ i o a l h. absurd (omega arith);
  }

  pub none_left : (new : Rests) → AreFresh new → (kernels : List Kernel) → AreLayers kernels new.open.stack new.alert.stack []
  none_left new fresh kernels = record {
    open_count = ap length fresh.open_stack;
    alert_count = ap length fresh.alert_stack;
    each = λ i o a l h. absurd (omega arith);
  }

  pub layers_kept : (new : Rests) → KeepStacks rests new → (kernels : List Kernel) (stack : List Left) → LetRest n kernels stack → AreLayers kernels new.open.stack new.alert.stack stack
  layers_kept new keep kernels stack h = layers_same kernels rests.open.stack new.open.stack rests.alert.stack new.alert.stack stack keep.open_stack keep.alert_stack (layers_of kernels stack h)

  rests_of : (kernels : List Kernel) (b : Bounds) → LetsRest n kernels b → AreResting rests.open.current rests.alert.current b kernels
  rests_of kernels b h = subst (λ (m : Narrower). LetsRest m kernels b) is h

  pub rests_left : (new : Rests) → AreLeft rests new → (kernels : List Kernel) (b : Bounds) → LetsRest n kernels b → AreResting new.open.current new.alert.current b kernels
  rests_left new left kernels b h =
      subst (λ (s : Set). AreResting s new.alert.current b kernels) (sym left.open_current)
      (subst (λ (s : Set). AreResting rests.open.current s b kernels) (sym left.alert_current) (rests_of kernels b h))

  pub layers_left : (new : Rests) → AreLeft rests new → (kernels : List Kernel) (stack : List Left) (b : Bounds) (var : ℕ) (low high : ℤ) → LetsRest n kernels b → LetRest n kernels stack
      → AreLayers kernels new.open.stack new.alert.stack (stack ++ left_of b var low high ∷ [])
  layers_left new left kernels stack b var low high r h =
      layers_same kernels (rests.open.stack ++ rests.open.current ∷ []) new.open.stack (rests.alert.stack ++ rests.alert.current ∷ []) new.alert.stack (stack ++ left_of b var low high ∷ [])
      left.open_stack left.alert_stack
      (layers_push kernels rests.open.stack rests.alert.stack stack rests.open.current rests.alert.current (left_of b var low high) (layers_of kernels stack h) (rests_of kernels b r))

  some_left : (xs : List Set) (stack : List Left) (left : Left) (P : Type 0) → length xs ≡ length (stack ++ left ∷ []) → xs ≡ [] ⊎ P → P
  some_left xs stack left P len (inl e) = absurd (omega (arith, ap length e, length-append stack (left ∷ [])))
  some_left xs stack left P len (inr p) = p

  pub went_back : (new : Rests) → IsBack rests.open new.open → IsBack rests.alert new.alert → (kernels : List Kernel) (stack : List Left) (left : Left) → LetRest n kernels (stack ++ left ∷ [])
      → AreLayers kernels new.open.stack new.alert.stack stack × AreResting new.open.current new.alert.current left.base kernels
  went_back new one other kernels stack left h =
      let layers = layers_of kernels (stack ++ left ∷ []) h in
      let e = some_left rests.open.stack stack left _ layers.open_count one.back in
      let f = some_left rests.alert.stack stack left _ layers.alert_count other.back in
      layers_pop kernels new.open.stack new.alert.stack stack new.open.current new.alert.current left
      (layers_same kernels rests.open.stack (new.open.stack ++ new.open.current ∷ []) rests.alert.stack (new.alert.stack ++ new.alert.current ∷ []) (stack ++ left ∷ []) (sym e) (sym f) layers)

module _ (law : KnownUnlessMoved) where
  pub known_where_rests : (n : Narrower) (kernels : List Kernel) (b : Bounds) → LetsRest n kernels b → Knows n kernels b
  known_where_rests (Narrower.Alone alone) kernels b h = law.resting b kernels alone.sets.asking.asked alone.sets.asking.rests.open.current alone.sets.asking.rests.alert.current alone.sets.moved h
  known_where_rests (Narrower.Lanes lanes) kernels b h = tt
