-- What was noted is drawn: kernels that name a variable that moved and heed that are asked.
use Rattle.std.proofs.Common.{◌≡◌, ℕ, ◌+◌, ◌<◌, true, false, List, length, take, get_or, inl, inr, refl, sym, subst, arith}
use Rattle.std.specs.Prelude.{Contains, ◌↔◌, replicate}
use Rattle.std.specs.List.{All}
use Rattle.std.proofs.lemmas.List.{get_or_default, take_more, get_or-replicate}
use Rattle.std.proofs.lemmas.List.Elements.{All-push, Contains-get_or}
use Rattle.interval.specs.Boxes.{Bounds, IsProper, InsideOrder}
use Rattle.guarded_tell.specs.declared.kernel.Kernel.{Kernel}
use Rattle.guarded_tell.specs.Words.{IsProperIn}
use Rattle.guarded_tell.specs.Kernels.{vars_of, IsKernel, IsClosedUnder}
use Rattle.kernel_visits.specs.Rests.{IsQuietUntilFixed}
use Rattle.moved_set.specs.Sets.{IsIn, Naming, IsNaming, set_at}
use Rattle.moved_fixpoint.specs.declared.rests.Rests.{Rests}
use Rattle.moved_fixpoint.specs.Moved.{Set, AreMovedOrQuiet}
use Rattle.moved_fixpoint.specs.Resting.{Knows}
use Rattle.moved_fixpoint.specs.Rested.{Heeds}
use Rattle.moved_fixpoint.specs.Asked.{AreAtRest, AreAskedFor, AreDrawn, IsAskedBy}
use Rattle.moved_fixpoint.proofs.AskedLaws.{in_range}
use Rattle.moved_fixpoint.proofs.RestLaws.{in_or_not, proper_of, entailed_quiet, entailed_here, quiet_here}

-- where the kernels that name a variable that moved and heed that are asked, the others are quiet and rest
module _ (order : InsideOrder) (kernels : List Kernel) (naming : Naming) (named : IsNaming kernels naming) (moved old new : Set) (rests : Rests) (b : Bounds)
    (proper : IsProper b) (all : All (IsKernel (length b)) kernels) (same : length old ≡ length kernels)
    (quiet : AreMovedOrQuiet moved b kernels) (knows : Knows old rests.open.current rests.alert.current moved b kernels)
    (drawn : AreDrawn naming moved rests b old new) where
  module _ (j : ℕ) (k : Kernel) (h : j < length kernels) (none : IsIn new j → ⊥) where
    -- none of its variables moved of which it heeds that
    unheeded : (x w : ℕ) → x < length (vars_of (get_or kernels j k)) → IsIn moved (get_or (vars_of (get_or kernels j k)) x w) →
        Heeds rests b j (get_or (vars_of (get_or kernels j k)) x w) → ⊥
    unheeded x w l is_in heeds =
        let v : ℕ = get_or (vars_of (get_or kernels j k)) x w in
        none (drawn.drawn v j is_in (omega arith) ((named.each j k v h).1 (x, l, get_or_default (vars_of (get_or kernels j k)) x v w l)) heeds)

    rests_open : IsIn rests.open.current j → (IsIn rests.alert.current j → ⊥) → IsQuietUntilFixed (get_or kernels j k) b
    rests_open is_open dozing = knows.dormant j k h (λ is_in. none (drawn.kept j (omega arith) is_in)) dozing (λ x w l is_in fixed. unheeded x w l is_in (is_open, inr fixed))

    proper_here : IsProperIn (vars_of (get_or kernels j k)) b
    proper_here = proper_of (get_or kernels j k) (length b) b (all j k h) refl proper

    rests_then : (IsIn rests.alert.current j → ⊥) → IsQuietUntilFixed (get_or kernels j k) b
    rests_then dozing = elim (in_or_not rests.open.current j) [
      | inl is_open ↦ rests_open is_open dozing
      | inr shut ↦ entailed_quiet (get_or kernels j k) b (knows.entailed j k h shut)
    ]

    quiet_then : IsClosedUnder (get_or kernels j k) b
    quiet_then = elim (in_or_not rests.open.current j) [
      | inr shut ↦ entailed_here order (get_or kernels j k) b proper_here (knows.entailed j k h shut)
      | inl is_open ↦ elim (in_or_not rests.alert.current j) [
        | inl alert ↦ quiet j k h (λ x w l is_in. unheeded x w l is_in (is_open, inl alert))
        | inr dozing ↦ quiet_here order (get_or kernels j k) b proper_here (rests_open is_open dozing)
      ]
    ]

  pub drawn_rest : AreAtRest new rests b kernels
  drawn_rest = record { quiet = quiet_then; entailed = knows.entailed; dormant = rests_then }

-- where all kernels are asked, those are that name a variable that moved
pub all_drawn : (naming : Naming) (moved : Set) (rests : Rests) (b : Bounds) (old : Set) → AreDrawn naming moved rests b old (replicate (length old) true)
all_drawn naming moved rests b old = record {
  kept = λ j h is_in. get_or-replicate (length old) j true false h;
  drawn = λ v j is_in h names heeds. get_or-replicate (length old) j true false h;
}

-- where those are asked that name one of all variables that moved
pub each_drawn : (naming : Naming) (moved : Set) (rests : Rests) (b : Bounds) (vs : List ℕ) (old new : Set) → ((v : ℕ) → Contains vs v ↔ IsIn moved v) → length new ≡ length old →
    ((j : ℕ) → IsIn old j → IsIn new j) → AreAskedFor naming rests b vs new → AreDrawn naming moved rests b old new
each_drawn naming moved rests b vs old new few same kept asked = record {
  kept = λ j h is_in. kept j is_in;
  drawn = λ v j is_in h names heeds. found v j h names heeds ((few v).1 is_in);
} where
  found : (v j : ℕ) → j < length old → IsIn (set_at naming j) v → Heeds rests b j v → Contains vs v → IsIn new j
  found v j h names heeds (x, l, e) =
      asked j (omega arith) x v l (subst (λ (w : ℕ). IsIn (set_at naming j) w) (sym e) names) (subst (λ (w : ℕ). Heeds rests b j w) (sym e) heeds)

-- one variable more
pub asked_for_more : (naming : Naming) (rests : Rests) (b : Bounds) (vs : List ℕ) (i : ℕ) (mid new : Set) → i < length vs →
    AreAskedFor naming rests b (take i vs) mid → IsAskedBy (λ j. set_at naming j) rests b (get_or vs i 0) mid new → AreAskedFor naming rests b (take (i + 1) vs) new
asked_for_more naming rests b vs i mid new h asked more j k =
    let len = more.same_count in
    let old_ones : All (λ (v : ℕ). IsIn (set_at naming j) v → Heeds rests b j v → IsIn new j) (take i vs) =
    λ x e l names heeds. more.kept j (asked j (omega arith) x e l names heeds) in
    subst (λ (xs : List ℕ). All (λ (v : ℕ). IsIn (set_at naming j) v → Heeds rests b j v → IsIn new j) xs) (sym (take_more vs i 0 h))
    (All-push (λ (v : ℕ). IsIn (set_at naming j) v → Heeds rests b j v → IsIn new j) (take i vs) (get_or vs i 0) old_ones (more.told j (omega arith)))

-- what is listed of a set is some of the variables
pub few_there : (naming : Naming) (moved : Set) (vs : List ℕ) → ((v : ℕ) → Contains vs v ↔ IsIn moved v) → length moved ≡ naming.count → All (λ (v : ℕ). v < naming.count) vs
few_there naming moved vs all same k d l =
    let v : ℕ = get_or vs k d in
    let below = in_range moved v ((all v).0 (Contains-get_or vs k d l)) in
    omega arith
