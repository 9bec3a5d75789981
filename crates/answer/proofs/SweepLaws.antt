-- No sweep moves a box in which some variable has no number left.
use mathlib.Core.Logic.{dite}
use native.Mathlib.Decide.{ℕ_discrete}
use Rattle.std.proofs.Common.{◌≡◌, ◌≢◌, ◌⊎◌, inl, inr, ℕ, zero, suc, ℤ, pos, ◌<◌, ◌<ℤ◌, ◌≤ℤ◌, Bool, true, false, cond, List, [], ◌∷◌, length, Option, None, Some, refl, sym, ap, subst, ◌∙◌, arith}
use Rattle.std.specs.Prelude.{◌||◌, int_lt}
use Rattle.std.specs.Option.{option_and_then}
use Rattle.std.proofs.lemmas.Int.{ints}
use Rattle.std.proofs.lemmas.List.{get_or-set_other, length-set}
use Rattle.interval.specs.Boxes.{Bounds, low_of, high_of, put_of, IsCrossed}
use Rattle.guarded_tell.specs.declared.kernel.Kernel.{Kernel}
use Rattle.guarded_tell.specs.Words.{Tell, Side, Low, High}
use Rattle.guarded_tell.specs.Kernels.{tells}
use Rattle.tell_laws.specs.Narrowing.{narrows_side, narrows}
use Rattle.fixpoint_laws.specs.Fixpoints.{Fails}
use Rattle.fixpoint_laws.specs.Rounds.{told_side, told}
use Rattle.fixpoint_laws.specs.Greatest.{is_crossed_box}
use Rattle.moved_fixpoint.specs.Sweeps.{with_tell, with_tells, unless_crossed, after_kernel, sweep_forth, sweep_back, sweep_by, is_forth, SweepsLead, SpendsSweeps}
use Rattle.answer.proofs.ObjectiveLaws.{low_put, high_put}

-- ---- a crossed box

between : (a b c d : ℤ) → a <ℤ b → b ≤ℤ c → c ≤ℤ d → d ≤ℤ a → ⊥
between a b c d h k l m = omega (arith, ints)

pub crossed_fails : (b : Bounds) (kernels : List Kernel) → IsCrossed b → Fails b kernels
crossed_fails b kernels (v, within, crossed) c closed inside =
    let same = inside.same_length in
    between (high_of b v) (low_of b v) (low_of c v) (high_of c v) crossed (inside.lows v within) (closed.proper v (omega (arith, within, same))) (inside.highs v within)

is_crossed : (b : Bounds) (v : ℕ) → v < length b → high_of b v <ℤ low_of b v → is_crossed_box b ≡ true
unfolding is_crossed_box
is_crossed [] v within crossed = absurd (omega arith)
is_crossed (p ∷ b) zero within crossed = here (int_lt p.1 p.0) refl
  where
    here : (t : Bool) → int_lt p.1 p.0 ≡ t → (t || is_crossed_box b) ≡ true
    here true e = refl
    here false e = absurd (omega (arith, ints))
is_crossed (p ∷ b) (suc v) within crossed = later (int_lt p.1 p.0) (is_crossed b v (omega arith) crossed)
  where
    later : (t : Bool) → is_crossed_box b ≡ true → (t || is_crossed_box b) ≡ true
    later true e = refl
    later false e = e

pub crossed_box : (b : Bounds) → IsCrossed b → is_crossed_box b ≡ true
crossed_box b h = is_crossed b h.0 h.1 h.2

-- ---- a tell, and tells

low_other : (b : Bounds) (v w : ℕ) (low high : ℤ) → w ≢ v → low_of (put_of b v low high) w ≡ low_of b w
low_other b v w low high other = ap (λ (p : ℤ × ℤ). p.0) (get_or-set_other b v w (low, high) (pos 0, pos 0) other)

high_other : (b : Bounds) (v w : ℕ) (low high : ℤ) → w ≢ v → high_of (put_of b v low high) w ≡ high_of b w
high_other b v w low high other = ap (λ (p : ℤ × ℤ). p.1) (get_or-set_other b v w (low, high) (pos 0, pos 0) other)

-- a pair put tighter leaves a crossed box crossed
put_crossed : (b : Bounds) (v : ℕ) (low high : ℤ) → low_of b v ≤ℤ low → high ≤ℤ high_of b v → IsCrossed b → IsCrossed (put_of b v low high)
put_crossed b v low high l h (w, within, crossed) = (
  w,
  (let e = length-set b v (low, high) in omega (arith, e, within)),
  dite (ℕ_discrete w v)
      (λ (same : w ≡ v).
      let here : v < length b = subst (λ (n : ℕ). n < length b) same within in
      let at_v : high_of b v <ℤ low_of b v = subst (λ (n : ℕ). high_of b n <ℤ low_of b n) same crossed in
      subst (λ (n : ℕ). high_of (put_of b v low high) n <ℤ low_of (put_of b v low high) n) (sym same)
      (closer (high_of b v) (low_of b v) low high (low_of (put_of b v low high) v) (high_of (put_of b v low high) v) at_v l h (low_put b v low high here) (high_put b v low high here)))
      (λ (other : w ≢ v).
      as_before (high_of b w) (low_of b w) (low_of (put_of b v low high) w) (high_of (put_of b v low high) w) crossed (low_other b v w low high other) (high_other b v w low high other)),
)
  where
    closer : (old_high old_low low high new_low new_high : ℤ) → old_high <ℤ old_low → old_low ≤ℤ low → high ≤ℤ old_high → new_low ≡ low → new_high ≡ high → new_high <ℤ new_low
    closer old_high old_low low high new_low new_high a b c d e = omega (arith, ints)

    as_before : (old_high old_low new_low new_high : ℤ) → old_high <ℤ old_low → new_low ≡ old_low → new_high ≡ old_high → new_high <ℤ new_low
    as_before old_high old_low new_low new_high a d e = omega (arith, ints)

itself : (z : ℤ) → z ≤ℤ z
itself z = omega (arith, ints)

lower : (x y : ℤ) → int_lt x y ≡ true → x ≤ℤ y
lower x y e = omega (arith, ints)

side_crossed : (b : Bounds) (side : Side) (v : ℕ) (bound : ℤ) → narrows_side b side v bound ≡ true → IsCrossed b → IsCrossed (told_side b side v bound)
side_crossed b Low v bound e h = put_crossed b v bound (high_of b v) (lower (low_of b v) bound e) (itself (high_of b v)) h
side_crossed b High v bound e h = put_crossed b v (low_of b v) bound (itself (low_of b v)) (lower bound (high_of b v) e) h

tell_crossed : (b : Bounds) (t : Tell) → IsCrossed b → IsCrossed (with_tell b t)
tell_crossed b t h = by_test (narrows b t) refl
  where
    by_test : (test : Bool) → narrows b t ≡ test → IsCrossed (cond test (told b t) b)
    by_test true e = side_crossed b t.side t.var t.bound e h
    by_test false e = h

tells_crossed : (b : Bounds) (ts : List Tell) → IsCrossed b → IsCrossed (with_tells b ts)
tells_crossed b [] h = h
tells_crossed b (t ∷ ts) h = tells_crossed (with_tell b t) ts (tell_crossed b t h)

none_left : (b : Bounds) → IsCrossed b → unless_crossed b ≡ None
none_left b h = by_test (is_crossed_box b) (crossed_box b h)
  where
    by_test : (test : Bool) → test ≡ true → cond test None (Some b) ≡ None
    by_test true e = refl
    by_test false e = absurd cc

kernel_fails : (k : Kernel) (b : Bounds) → IsCrossed b → after_kernel k b ≡ None
kernel_fails k b h = none_left (with_tells b (tells k b)) (tells_crossed b (tells k b) h)

-- ---- sweeps

-- a sweep gives nothing, or there are no kernels and it gives the box itself
abbrev Stays : Bounds → Option Bounds → Type 0
Stays b after = (after ≡ None) ⊎ (after ≡ Some b)

forth_stays : (kernels : List Kernel) (b : Bounds) → IsCrossed b → Stays b (sweep_forth kernels b)
unfolding sweep_forth
forth_stays [] b h = inr refl
forth_stays (k ∷ ks) b h = inl (ap (option_and_then (sweep_forth ks)) (kernel_fails k b h))

back_stays : (kernels : List Kernel) (b : Bounds) → IsCrossed b → Stays b (sweep_back kernels b)
unfolding sweep_back
back_stays [] b h = inr refl
back_stays (k ∷ ks) b h = elim (back_stays ks b h) [
  | inl none ↦ inl (ap (option_and_then (after_kernel k)) none)
  | inr some ↦ inl (ap (option_and_then (after_kernel k)) some ∙ kernel_fails k b h)
]

by_stays : (forth : Bool) (kernels : List Kernel) (b : Bounds) → IsCrossed b → Stays b (sweep_by forth kernels b)
by_stays true kernels b h = forth_stays kernels b h
by_stays false kernels b h = back_stays kernels b h

no_move : (b c : Bounds) (after : Option Bounds) → Stays b after → after ≡ Some c → b ≡ c
no_move b c after (inl none) e = absurd (let bad : None ≡ Some c = sym none ∙ e in cc)
no_move b c after (inr some) e = let same : Some b ≡ Some c = sym some ∙ e in cc

never_leads : (kernels : List Kernel) (n : ℕ) (a c : Bounds) → IsCrossed a → SweepsLead kernels (suc n) a c → ⊥
unfolding SweepsLead
never_leads kernels zero a c h (b, lead, e, moves) =
    moves (no_move b c (sweep_by (is_forth 0) kernels b) (by_stays (is_forth 0) kernels b (subst IsCrossed lead h)) e)
never_leads kernels (suc n) a c h (b, lead, e, moves) = never_leads kernels n a b h lead

pub crossed_spends_nothing : (kernels : List Kernel) (limit : ℕ) (b : Bounds) → IsCrossed b → SpendsSweeps kernels limit b → ⊥
crossed_spends_nothing kernels zero b h spends = spends.limited refl
crossed_spends_nothing kernels (suc n) b h spends = never_leads kernels n b spends.into h spends.lead
