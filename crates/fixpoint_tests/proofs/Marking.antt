-- What a set that names what moved has to meet: one of all variables, and one after a variable got other bounds.
use Rattle.std.proofs.Common.{◌≡◌, ℕ, zero, suc, ℤ, Bool, true, false, not, ◌<◌, ◌≤◌, List, [], ◌∷◌, ◌∙◌, length, replicate, arith, ap, subst, sym, refl}
use Rattle.std.specs.Prelude.{slice_index, slice_set, unsigned_abs}
use Rattle.std.specs.List.{All}
use Rattle.std.proofs.lemmas.List.{get_or-replicate, length-replicate, length-set}
use Rattle.std.proofs.lemmas.List.Elements.{All-nil, All-cons}
use Rattle.interval.specs.Limits.{IsBound, bound_limit, largest_number, box_limit}
use Rattle.interval.specs.Boxes.{Bounds, IsInRange, low_of, high_of, put_of}
use Rattle.guarded_tell.specs.declared.kernel.Kernel.{Kernel}
use Rattle.guarded_tell.specs.declared.kernel.Kernel.TheVariants.{Abs}
use Rattle.guarded_tell.specs.Kernels.{vars_of, HasNumbers, IsKernel}
use Rattle.moved_set.specs.Sets.{IsIn}
use Rattle.moved_fixpoint.specs.declared.rests.Rests.{Rests}
use Rattle.moved_fixpoint.specs.Resting.{AreAwake, FitRests, KeepCounts, Knows, KnownUnlessMoved}
use Rattle.moved_fixpoint.specs.Moved.{Set, count_of, AreMovedOrQuiet, Fit, QuietUnlessMoved}

two_variables : (i : ℕ) → i < 2 → slice_index (0 ∷ 1 ∷ []) i < 4
two_variables zero h = omega arith
two_variables (suc zero) h = omega arith
two_variables (suc (suc i)) h = absurd (omega arith)

absolute : IsKernel 4 (Abs 0 1)
unfolding vars_of HasNumbers
absolute = record { variables = record { each = λ i h. two_variables i (omega arith) }; numbers = tt }

pub absolutes : All (IsKernel 4) (Abs 0 1 ∷ [])
absolutes = All-cons (IsKernel 4) (Abs 0 1) [] absolute (All-nil (IsKernel 4))

-- where all variables are marked, each kernel is quiet unless one of its variables moved
pub all_marked : QuietUnlessMoved → (count : ℕ) (b : Bounds) (kernels : List Kernel) (set : Set) (n : ℕ) → set ≡ replicate n true → n ≡ count → length b ≡ count →
    All (IsKernel count) kernels → AreMovedOrQuiet set b kernels
all_marked law count b kernels set n e same h all = law.all b kernels set (subst (λ (m : ℕ). All (IsKernel m) kernels) (sym h) all)
    (λ v l. subst (λ (s : Set). IsIn s v) (sym e) (get_or-replicate n v true false (omega arith)))

-- all variables are marked
pub marked_fit : (count kernels : ℕ) (old moved asked : Set) (n : ℕ) → moved ≡ replicate n true → n ≡ count → Fit count kernels old asked → Fit count kernels moved asked
marked_fit count kernels old moved asked n e same fit = record {
  moved_count = ap (λ (s : Set). length s) e ∙ length-replicate n true ∙ same;
  asked_count = fit.asked_count;
}

-- one more is
pub put_fits : (count kernels : ℕ) (asked set marked : Set) (v : ℕ) → marked ≡ slice_set set v true → Fit count kernels set asked → Fit count kernels marked asked
put_fits count kernels asked set marked v e fit = record {
  moved_count = ap (λ (s : Set). length s) e ∙ length-set set v true ∙ fit.moved_count;
  asked_count = fit.asked_count;
}

-- where a variable got other bounds and was marked, each kernel is quiet unless one of its variables moved
pub put_quiet : QuietUnlessMoved → (count : ℕ) (b next : Bounds) (kernels : List Kernel) (set marked : Set) (v : ℕ) (low high : ℤ) → length b ≡ count →
    All (IsKernel count) kernels → marked ≡ slice_set set v true → next ≡ put_of b v low high → v < count → count_of set ≡ length b →
    AreMovedOrQuiet set b kernels → AreMovedOrQuiet marked next kernels
put_quiet law count b next kernels set marked v low high n all e f h same quiet =
    subst (λ (s : Set). AreMovedOrQuiet s next kernels) (sym e)
    (subst (λ (c : Bounds). AreMovedOrQuiet (slice_set set v true) c kernels) (sym f)
    (law.put b kernels set v low high (subst (λ (m : ℕ). All (IsKernel m) kernels) (sym n) all) (omega arith) quiet))

pub is_true : (b : Bool) → not b ≡ false → b ≡ true
is_true true e = refl
is_true false e = sym e

-- where no kernel rests, all is known that propagation begins with
pub all_awake : KnownUnlessMoved → (kernels : List Kernel) (b : Bounds) (asked moved : Set) (old new : Rests) → FitRests (length kernels) old → KeepCounts old new → AreAwake new →
    Knows asked new.open.current new.alert.current moved b kernels
all_awake law kernels b asked moved old new fit counts awake =
    let o = fit.open_count in
    let a = fit.alert_count in
    law.all_alert b kernels asked new.open.current new.alert.current moved
    (λ j h. awake.open_each j (omega (arith, counts.open_count)))
    (λ j h. awake.alert_each j (omega (arith, counts.alert_count)))
