-- A round of the kernels that are asked is a sweep over all of them: those that are passed over leave the box as it is.
use Rattle.std.proofs.Common.{◌≡◌, ◌∙◌, ap, sym, subst, ℕ, zero, suc, ◌+◌, ◌<◌, ◌≤◌, ◌-◌, false, List, [], ◌∷◌, drop, length, get_or, Some, None, arith}
use Rattle.std.specs.Option.{option_and_then}
use Rattle.std.proofs.lemmas.List.{drop_more, drop_all}
use Rattle.interval.specs.Boxes.{Bounds, IsProper}
use Rattle.guarded_tell.specs.declared.kernel.Kernel.{Kernel}
use Rattle.guarded_tell.specs.Kernels.{tells, IsClosedUnder}
use Rattle.moved_fixpoint.specs.declared.rests.Rests.{Rests}
use Rattle.moved_fixpoint.specs.declared.joiner.Progress.{Progress}
use Rattle.moved_fixpoint.specs.Moved.{Set}
use Rattle.moved_fixpoint.specs.Heard.{GoesOn, Becomes}
use Rattle.moved_fixpoint.specs.Runs.{KernelRuns}
use Rattle.moved_fixpoint.specs.Sweeps.{after_kernel, unless_crossed, sweep_forth, sweep_back}
use Rattle.moved_fixpoint.proofs.AskedLaws.{not_in}
use Rattle.moved_fixpoint.proofs.WithTells.{with_all_kept, unless_proper, becomes, becomes_some, becomes_none}
use Rattle.moved_fixpoint.proofs.Rounding.{Stands, some_kernel}

-- a quiet kernel leaves the box as it is
quiet_steps : (k : Kernel) (b : Bounds) → IsProper b → IsClosedUnder k b → after_kernel k b ≡ Some b
quiet_steps k b proper closed = ap unless_crossed (with_all_kept b (tells k b) closed.kept) ∙ unless_proper b proper

-- each kernel at these places leaves the box as it is
abbrev AreStill : List Kernel → Bounds → ℕ → ℕ → Type 0
AreStill kernels b from to = (y : ℕ) (d : Kernel) → from ≤ y → y < to → after_kernel (get_or kernels y d) b ≡ Some b

-- so it is where none of them is asked
are_still : (kernels : List Kernel) (a : Bounds) (lo hi : ℕ) (b : Bounds) (s : Set) (rests : Rests) (p : Progress) → Stands kernels a lo hi b s rests p → GoesOn p → (from to : ℕ) → to ≤ length kernels →
    ((y : ℕ) → from ≤ y → y < to → get_or s y false ≡ false) → AreStill kernels b from to
are_still kernels a lo hi b s rests p x going from to short misses y d above below =
    let rest = x.at_rest going in
    quiet_steps (get_or kernels y d) b (x.proper going) (rest.quiet y d (omega arith) (not_in s y (misses y above below)))

module _ (kernels : List Kernel) where
  -- ---- forth: the kernels that are left are swept behind those that were run
  forth_step : (i : ℕ) (d : Kernel) (b : Bounds) → i < length kernels → sweep_forth (drop i kernels) b ≡ option_and_then (sweep_forth (drop (i + 1) kernels)) (after_kernel (get_or kernels i d) b)
  unfolding sweep_forth
  forth_step i d b h = ap (λ (ks : List Kernel). sweep_forth ks b) (drop_more kernels i d h)

  forth_skips : (n i : ℕ) (b : Bounds) → i + n ≤ length kernels → AreStill kernels b i (i + n) → sweep_forth (drop i kernels) b ≡ sweep_forth (drop (i + n) kernels) b
  forth_skips zero i b h still = ap (λ (m : ℕ). sweep_forth (drop m kernels) b) (omega arith)
  forth_skips (suc n) i b h still =
      let d = some_kernel kernels i (omega arith) in
      forth_step i d b (omega arith)
      ∙ ap (option_and_then (sweep_forth (drop (i + 1) kernels))) (still i d (omega arith) (omega arith))
      ∙ forth_skips n (i + 1) b (omega arith) (λ y e above below. still y e (omega arith) (omega arith))
      ∙ ap (λ (m : ℕ). sweep_forth (drop m kernels) b) (omega arith)

  pub forth_passed : (a : Bounds) (lo hi : ℕ) (b : Bounds) (s : Set) (rests : Rests) (p : Progress) → Stands kernels a lo hi b s rests p → GoesOn p → (i j : ℕ) → i ≤ j → j ≤ length kernels →
      ((y : ℕ) → i ≤ y → y < j → get_or s y false ≡ false) → sweep_forth (drop i kernels) b ≡ sweep_forth (drop j kernels) b
  forth_passed a lo hi b s rests p x going i j le short misses =
      let to : i + (j - i) ≡ j = omega arith in
      forth_skips (j - i) i b (omega arith) (λ y d above below. are_still kernels a lo hi b s rests p x going i j short misses y d above (omega arith))
      ∙ ap (λ (m : ℕ). sweep_forth (drop m kernels) b) to

  module _ (i : ℕ) (h : i < length kernels) (b : Bounds) (s : Set) (rests : Rests) (p : Progress) (c : Bounds) (s' : Set) (rests' : Rests) (p' : Progress)
      (run : KernelRuns kernels i b s rests p c s' rests' p') (going : GoesOn p) where
    abbrev here : Kernel
    here = some_kernel kernels i h

    step_here : Becomes (after_kernel (get_or kernels i here) b) p' c
    step_here = let r = run here in r.stepped going

    pub forth_run : GoesOn p' → sweep_forth (drop i kernels) b ≡ sweep_forth (drop (i + 1) kernels) c
    forth_run on = forth_step i here b h ∙ ap (option_and_then (sweep_forth (drop (i + 1) kernels))) (becomes_some p' _ c on step_here)

    pub forth_over : (start : Bounds) → sweep_forth kernels start ≡ sweep_forth (drop i kernels) b → (GoesOn p' → ⊥) → Becomes (sweep_forth kernels start) p' c
    forth_over start swept over =
        becomes p' (sweep_forth kernels start) c (λ g. absurd (over g))
        (λ e. swept ∙ forth_step i here b h ∙ ap (option_and_then (sweep_forth (drop (i + 1) kernels))) (becomes_none p' _ c e step_here))

  pub forth_last : (start b : Bounds) (i : ℕ) (p : Progress) → length kernels ≤ i → GoesOn p → sweep_forth kernels start ≡ sweep_forth (drop i kernels) b → Becomes (sweep_forth kernels start) p b
  unfolding sweep_forth
  forth_last start b i p h going swept =
      becomes p (sweep_forth kernels start) b (λ g. swept ∙ ap (λ (ks : List Kernel). sweep_forth ks b) (drop_all i kernels h)) (λ e. absurd (subst GoesOn e going))

  -- ---- back: the kernels that were run or passed over are swept
  back_step : (i : ℕ) (d : Kernel) (a : Bounds) → i < length kernels → sweep_back (drop i kernels) a ≡ option_and_then (after_kernel (get_or kernels i d)) (sweep_back (drop (i + 1) kernels) a)
  unfolding sweep_back
  back_step i d a h = ap (λ (ks : List Kernel). sweep_back ks a) (drop_more kernels i d h)

  back_skips : (n i : ℕ) (a b : Bounds) → i + n ≤ length kernels → AreStill kernels b i (i + n) → sweep_back (drop (i + n) kernels) a ≡ Some b → sweep_back (drop i kernels) a ≡ Some b
  back_skips zero i a b h still swept = ap (λ (m : ℕ). sweep_back (drop m kernels) a) (omega arith) ∙ swept
  back_skips (suc n) i a b h still swept =
      let d = some_kernel kernels i (omega arith) in
      let later = back_skips n (i + 1) a b (omega arith) (λ y e above below. still y e (omega arith) (omega arith)) (ap (λ (m : ℕ). sweep_back (drop m kernels) a) (omega arith) ∙ swept) in
      back_step i d a (omega arith) ∙ ap (option_and_then (after_kernel (get_or kernels i d))) later ∙ still i d (omega arith) (omega arith)

  pub back_passed : (a : Bounds) (lo hi : ℕ) (b : Bounds) (s : Set) (rests : Rests) (p : Progress) → Stands kernels a lo hi b s rests p → GoesOn p → (start : Bounds) (i j : ℕ) → j ≤ i → i ≤ length kernels →
      ((y : ℕ) → j ≤ y → y < i → get_or s y false ≡ false) → sweep_back (drop i kernels) start ≡ Some b → sweep_back (drop j kernels) start ≡ Some b
  back_passed a lo hi b s rests p x going start i j le short misses swept =
      let to : j + (i - j) ≡ i = omega arith in
      back_skips (i - j) j start b (omega arith) (λ y d above below. are_still kernels a lo hi b s rests p x going j i short misses y d above (omega arith))
      (ap (λ (m : ℕ). sweep_back (drop m kernels) start) to ∙ swept)

  pub back_first : (start : Bounds) → sweep_back (drop (length kernels) kernels) start ≡ Some start
  unfolding sweep_back
  back_first start = ap (λ (ks : List Kernel). sweep_back ks start) (drop_all (length kernels) kernels (omega arith))

-- where some of the last kernels leave a variable no number, so do all
back_none : (kernels : List Kernel) (i : ℕ) (a : Bounds) → sweep_back (drop i kernels) a ≡ None → sweep_back kernels a ≡ None
unfolding sweep_back
back_none kernels zero a none = none
back_none [] (suc i) a none = none
back_none (k ∷ ks) (suc i) a none = ap (option_and_then (after_kernel k)) (back_none ks i a none)

module _ (kernels : List Kernel) (left : ℕ) (some : 0 < left) (h : left ≤ length kernels) (b : Bounds) (s : Set) (rests : Rests) (p : Progress) (c : Bounds) (s' : Set) (rests' : Rests) (p' : Progress)
    (run : KernelRuns kernels (left - 1) b s rests p c s' rests' p') (going : GoesOn p) (start : Bounds) (swept : sweep_back (drop left kernels) start ≡ Some b) where
  abbrev last_one : Kernel
  last_one = some_kernel kernels (left - 1) (omega arith)

  back_to : sweep_back (drop (left - 1) kernels) start ≡ after_kernel (get_or kernels (left - 1) last_one) b
  back_to =
      let here : left - 1 + 1 ≡ left = omega arith in
      back_step kernels (left - 1) last_one start (omega arith)
      ∙ ap (option_and_then (after_kernel (get_or kernels (left - 1) last_one))) (ap (λ (m : ℕ). sweep_back (drop m kernels) start) here ∙ swept)

  step_last : Becomes (after_kernel (get_or kernels (left - 1) last_one) b) p' c
  step_last = let r = run last_one in r.stepped going

  pub back_run : GoesOn p' → sweep_back (drop (left - 1) kernels) start ≡ Some c
  back_run on = back_to ∙ becomes_some p' _ c on step_last

  pub back_over : (GoesOn p' → ⊥) → Becomes (sweep_back kernels start) p' c
  back_over over = becomes p' (sweep_back kernels start) c (λ g. absurd (over g)) (λ e. back_none kernels (left - 1) start (back_to ∙ becomes_none p' _ c e step_last))

pub back_last : (kernels : List Kernel) (start b : Bounds) (i : ℕ) (p : Progress) → i ≤ 0 → GoesOn p → sweep_back (drop i kernels) start ≡ Some b → Becomes (sweep_back kernels start) p b
back_last kernels start b i p h going swept =
    let none : i ≡ 0 = omega arith in
    becomes p (sweep_back kernels start) b (λ g. ap (λ (m : ℕ). sweep_back (drop m kernels) start) (sym none) ∙ swept) (λ e. absurd (subst GoesOn e going))
