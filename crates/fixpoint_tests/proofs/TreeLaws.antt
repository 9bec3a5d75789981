-- Trees of boxes: what is left for later, and what propagation begins with on a part.
use Rattle.std.proofs.Common.{◌≡◌, ℕ, ℤ, ◌<◌, ◌≤ℤ◌, ◌⊎◌, inl, inr, true, List, [], ◌∷◌, ◌++◌, length, refl, sym, ◌∙◌, ap, subst, arith}
use Rattle.std.specs.Prelude.{slice_set}
use Rattle.std.specs.List.{All}
use Rattle.std.proofs.lemmas.Int.{ints}
use Rattle.std.proofs.lemmas.List.{length-append, length-set}
use Rattle.interval.specs.Boxes.{Bounds, IsProper, low_of, high_of, put_of}
use Rattle.guarded_tell.specs.declared.kernel.Kernel.{Kernel}
use Rattle.guarded_tell.specs.Kernels.{IsKernel}
use Rattle.fixpoint_laws.specs.Changes.{TightensOne}
use Rattle.trailed_box.specs.declared.trail.Part.{Part}
use Rattle.trailed_box.specs.Trailed.{Trailed, Left, left_of}
use Rattle.moved_set.specs.Sets.{Naming}
use Rattle.moved_set.specs.Layers.{Layers}
use Rattle.moved_fixpoint.specs.Moved.{Set, count_of, AreMasksOf, AreMovedOrQuiet, Fit, QuietUnlessMoved}
use Rattle.moved_fixpoint.specs.Resting.{AreFresh, AreLeft, AreResting, FitRests, HasEach, IsBack, KeepCounts, Knows, KnownUnlessMoved}
use Rattle.moved_fixpoint.specs.declared.rests.Rests.{Rests}
use Rattle.moved_fixpoint.specs.declared.sets.MovedSets.{MovedSets}
use Rattle.fixpoint_tests.specs.Trees.{AreFor, CanSettle, IsPartOf, IsSettled, Keeps, LeavesPart}

-- what stands last in two lists, and what before it
snoc_same : {A : Type 0} (xs ys : List A) (x y : A) → xs ++ x ∷ [] ≡ ys ++ y ∷ [] → (xs ≡ ys) × (x ≡ y)
snoc_same [] [] x y e = let f : x ≡ y = cc in (refl, f)
snoc_same [] (z ∷ ys) x y e = absurd (omega (arith, ap length e, length-append ys (y ∷ [])))
snoc_same (z ∷ xs) [] x y e = absurd (omega (arith, ap length e, length-append xs (x ∷ [])))
snoc_same (z ∷ xs) (w ∷ ys) x y e =
    let f : z ≡ w = cc in
    let g : xs ++ x ∷ [] ≡ ys ++ y ∷ [] = cc in
    let same = snoc_same xs ys x y g in
    let h : xs ≡ ys = same.0 in
    let k : z ∷ xs ≡ w ∷ ys = cc in
    (k, same.1)

pub no_snoc : {A : Type 0} {P : Type 0} (stack xs : List A) (x : A) → stack ≡ [] → stack ≡ xs ++ x ∷ [] → P
no_snoc stack xs x e f = absurd (omega (arith, ap length e, ap length f, length-append xs (x ∷ [])))

pub lowest_part : (b : Bounds) (v : ℕ) → v < length b → IsProper b → IsPartOf b (record { var = v; low = low_of b v; high = low_of b v })
lowest_part b v h proper =
    let le = proper v h in
    record {
      tightens = record { variable = h; low_rises = omega (arith, ints); high_falls = le };
      rises = omega (arith, ints);
    }

pub highest_part : (b : Bounds) (v : ℕ) → v < length b → IsProper b → IsPartOf b (record { var = v; low = high_of b v; high = high_of b v })
highest_part b v h proper =
    let le = proper v h in
    record {
      tightens = record { variable = h; low_rises = le; high_falls = omega (arith, ints) };
      rises = omega (arith, ints);
    }

-- a part of a box where kernels rest
pub put_settles : QuietUnlessMoved → KnownUnlessMoved → TightensOne → (kernels : List Kernel) (masks : Naming) (b next : Bounds) (part : Part) (old : MovedSets) (moved : Set) →
    next ≡ put_of b part.var part.low part.high → moved ≡ slice_set old.moved part.var true → AreFor kernels masks (length b) old → IsSettled kernels b old.asking.rests → IsPartOf b part →
    CanSettle kernels masks next (record { moved = moved; asking = old.asking; visits = old.visits })
put_settles quiet known tighter kernels masks b next part old moved e is fits settled p =
    let v = part.var in
    let t = p.tightens.variable in
    let c = fits.fit.moved_count in
    let h : v < count_of old.moved = omega (arith, t, c) in
    let same : length next ≡ length b = ap length e ∙ length-set b v (part.low, part.high) in
    let rests = old.asking.rests in
    record {
      are_for = record {
        some = omega (arith, fits.some, same);
        are_kernels = subst (λ (n : ℕ). All (IsKernel n) kernels) (sym same) fits.are_kernels;
        are_masks = subst (λ (n : ℕ). AreMasksOf kernels n masks) (sym same) fits.are_masks;
        fit = record { moved_count = ap length is ∙ length-set old.moved v true ∙ fits.fit.moved_count ∙ sym same; asked_count = fits.fit.asked_count };
        fit_rests = fits.fit_rests;
      };
      quiet = subst (λ (s : Set). AreMovedOrQuiet s next kernels) (sym is)
          (subst (λ (x : Bounds). AreMovedOrQuiet (slice_set old.moved v true) x kernels) (sym e)
          (quiet.put b kernels old.moved v part.low part.high fits.are_kernels h (quiet.closed b kernels old.moved settled.closed)));
      knows = subst (λ (s : Set). Knows old.asking.asked rests.open.current rests.alert.current s next kernels) (sym is)
          (subst (λ (x : Bounds). Knows old.asking.asked rests.open.current rests.alert.current (slice_set old.moved v true) x kernels) (sym e)
          (known.put b kernels old.asking.asked rests.open.current rests.alert.current old.moved v part.low part.high h (tighter.inside b v part.low part.high p.tightens) p.rises
          (known.resting b kernels old.asking.asked rests.open.current rests.alert.current old.moved settled.resting)));
    }

-- what stays where the sets are left
pub left_for : (kernels : List Kernel) (masks : Naming) (n : ℕ) (old new : MovedSets) → new.moved ≡ old.moved → new.asking.asked ≡ old.asking.asked → AreLeft old.asking.rests new.asking.rests →
    AreFor kernels masks n old → AreFor kernels masks n new
left_for kernels masks n old new e f left fits = record {
  some = fits.some;
  are_kernels = fits.are_kernels;
  are_masks = fits.are_masks;
  fit = record { moved_count = ap length e ∙ fits.fit.moved_count; asked_count = ap length f ∙ fits.fit.asked_count };
  fit_rests = record { open_count = ap length left.open_current ∙ fits.fit_rests.open_count; alert_count = ap length left.alert_current ∙ fits.fit_rests.alert_count };
}

resting_same : (kernels : List Kernel) (b : Bounds) (o p a d : Set) → p ≡ o → d ≡ a → AreResting o a b kernels → AreResting p d b kernels
resting_same kernels b o p a d e f h = subst (λ (s : Set). AreResting s d b kernels) (sym e) (subst (λ (s : Set). AreResting o s b kernels) (sym f) h)

pub left_settled : (kernels : List Kernel) (b c : Bounds) (old new : Rests) → c ≡ b → AreLeft old new → IsSettled kernels b old → IsSettled kernels c new
left_settled kernels b c old new e left settled = subst (λ (x : Bounds). IsSettled kernels x new) (sym e) (record {
  closed = settled.closed;
  resting = resting_same kernels b old.open.current new.open.current old.alert.current new.alert.current left.open_current left.alert_current settled.resting;
})

-- what is so where they go back
layer_back : (old new : Layers) (stack : List Set) (current : Set) → IsBack old new → old.stack ≡ stack ++ current ∷ [] → (new.stack ≡ stack) × (new.current ≡ current)
layer_back old new stack current back e = by_case back.back
  where
    by_case : (old.stack ≡ []) ⊎ (old.stack ≡ new.stack ++ new.current ∷ []) → (new.stack ≡ stack) × (new.current ≡ current)
    by_case (inl f) = no_snoc old.stack stack current f e
    by_case (inr f) = snoc_same new.stack stack new.current current (sym f ∙ e)

module _ (part : Part) (before after : Trailed) (rests : Rests) (kernels : List Kernel) (masks : Naming) where
  module _ (old new : MovedSets) (leaves : LeavesPart part before after rests old.asking.rests) (open_back : IsBack old.asking.rests.open new.asking.rests.open) (alert_back : IsBack old.asking.rests.alert new.asking.rests.alert) where
    open_is : (new.asking.rests.open.stack ≡ rests.open.stack) × (new.asking.rests.open.current ≡ rests.open.current)
    open_is = layer_back old.asking.rests.open new.asking.rests.open rests.open.stack rests.open.current open_back leaves.open_stack

    alert_is : (new.asking.rests.alert.stack ≡ rests.alert.stack) × (new.asking.rests.alert.current ≡ rests.alert.current)
    alert_is = layer_back old.asking.rests.alert new.asking.rests.alert rests.alert.stack rests.alert.current alert_back leaves.alert_stack

    pub back_for : new.moved ≡ old.moved → new.asking.asked ≡ old.asking.asked → (n m : ℕ) → m ≡ n → AreFor kernels masks n old → AreFor kernels masks m new
    back_for e f n m same fits = subst (λ (k : ℕ). AreFor kernels masks k new) (sym same) (record {
      some = fits.some;
      are_kernels = fits.are_kernels;
      are_masks = fits.are_masks;
      fit = record { moved_count = ap length e ∙ fits.fit.moved_count; asked_count = ap length f ∙ fits.fit.asked_count };
      fit_rests = record { open_count = open_back.same_count ∙ fits.fit_rests.open_count; alert_count = alert_back.same_count ∙ fits.fit_rests.alert_count };
    })

    module _ (popped : Trailed) (given : Part) (is : after.stack ≡ popped.stack ++ left_of popped.current given.var given.low given.high ∷ []) where
      same : (popped.stack ≡ before.stack) × (left_of popped.current given.var given.low given.high ≡ left_of before.current part.var part.low part.high)
      same = snoc_same popped.stack before.stack _ _ (sym is ∙ leaves.stack)

      pub back_settled : IsSettled kernels before.current rests → IsSettled kernels popped.current new.asking.rests
      back_settled settled = subst (λ (l : Left). IsSettled kernels l.base new.asking.rests) (sym same.1) (record {
        closed = settled.closed;
        resting = resting_same kernels before.current rests.open.current new.asking.rests.open.current rests.alert.current new.asking.rests.alert.current open_is.1 alert_is.1 settled.resting;
      })

      pub back_part : IsPartOf before.current part → IsPartOf popped.current given
      back_part p = subst (λ (l : Left). IsPartOf l.base (record { var = l.var; low = l.low; high = l.high })) (sym same.1) p

      pub back_keeps : (last : Trailed) (newer : Rests) → Keeps popped last new.asking.rests newer → Keeps before last rests newer
      back_keeps last newer keeps = record {
        stack = keeps.stack ∙ same.0;
        same_length = keeps.same_length ∙ ap (λ (l : Left). length l.base) same.1;
        stacks = record { open_stack = keeps.stacks.open_stack ∙ open_is.0; alert_stack = keeps.stacks.alert_stack ∙ alert_is.0 };
      }

-- what was left stays left while boxes are narrowed that keep it
pub leaves_on : (part : Part) (a b c : Trailed) (r s t : Rests) → LeavesPart part a b r s → Keeps b c s t → LeavesPart part a c r t
leaves_on part a b c r s t leaves keeps = record {
  stack = keeps.stack ∙ leaves.stack;
  same_length = keeps.same_length ∙ leaves.same_length;
  open_stack = keeps.stacks.open_stack ∙ leaves.open_stack;
  alert_stack = keeps.stacks.alert_stack ∙ leaves.alert_stack;
}

pub keeps_on : (a b c : Trailed) (r s t : Rests) → Keeps a b r s → Keeps b c s t → Keeps a c r t
keeps_on a b c r s t one other = record {
  stack = other.stack ∙ one.stack;
  same_length = other.same_length ∙ one.same_length;
  stacks = record { open_stack = other.stacks.open_stack ∙ one.stacks.open_stack; alert_stack = other.stacks.alert_stack ∙ one.stacks.alert_stack };
}

-- what stays where a box was narrowed
pub settled_for : (kernels : List Kernel) (masks : Naming) (n m : ℕ) (old new : MovedSets) → m ≡ n → Fit n (length kernels) new.moved new.asking.asked → FitRests (length kernels) new.asking.rests →
    AreFor kernels masks n old → AreFor kernels masks m new
settled_for kernels masks n m old new same fit rests fits = subst (λ (k : ℕ). AreFor kernels masks k new) (sym same) (record {
  some = fits.some;
  are_kernels = fits.are_kernels;
  are_masks = fits.are_masks;
  fit = fit;
  fit_rests = rests;
})

-- a box of which nothing is known
pub all_settle : QuietUnlessMoved → KnownUnlessMoved → (kernels : List Kernel) (masks : Naming) (b : Bounds) (count : ℕ) (old new : MovedSets) → 0 < count → length b ≡ count →
    All (IsKernel count) kernels → AreMasksOf kernels count masks → Fit count (length kernels) old.moved old.asking.asked → FitRests (length kernels) old.asking.rests →
    count_of new.moved ≡ count_of old.moved → HasEach (count_of old.moved) new.moved → count_of new.asking.asked ≡ count_of old.asking.asked → HasEach (count_of old.asking.asked) new.asking.asked →
    KeepCounts old.asking.rests new.asking.rests → AreFresh new.asking.rests → CanSettle kernels masks b new
all_settle quiet known kernels masks b count old new some len runs naming fit rests moved moved_each asked asked_each counts fresh =
    let m = fit.moved_count in
    let a = fit.asked_count in
    let o = rests.open_count in
    let oc = counts.open_count in
    record {
      are_for = subst (λ (k : ℕ). AreFor kernels masks k new) (sym len) (record {
        some = some;
        are_kernels = runs;
        are_masks = naming;
        fit = record { moved_count = moved ∙ m; asked_count = asked ∙ a };
        fit_rests = record { open_count = oc ∙ o; alert_count = counts.alert_count ∙ rests.alert_count };
      });
      quiet = quiet.all b kernels new.moved (subst (λ (k : ℕ). All (IsKernel k) kernels) (sym len) runs) (λ v h. moved_each v (omega arith));
      knows = known.all_asked b kernels new.asking.asked new.asking.rests.open.current new.asking.rests.alert.current new.moved
          (λ j h. asked_each j (omega arith)) (λ j h. fresh.open_each j (omega arith));
    }
