-- How callers come by a set that names what moved.
use Rattle.std.proofs.Common.{◌≡◌, ℕ, zero, suc, ℤ, ◌<◌, true, false, length, get_or, inl, inr, sym, refl, subst, ◌∙◌, arith}
use Rattle.std.specs.Prelude.{slice_set}
use Rattle.std.specs.List.{Contains}
use Rattle.std.proofs.lemmas.Bool.{cases_eq}
use Rattle.std.proofs.lemmas.List.{get_or-set_same, get_or-set_other}
use Rattle.interval.specs.Boxes.{Bounds, put_of}
use Rattle.guarded_tell.specs.declared.kernel.Kernel.{Kernel}
use Rattle.guarded_tell.specs.Kernels.{vars_of, IsKernel, IsClosedUnder}
use Rattle.moved_set.specs.Sets.{IsIn}
use Rattle.moved_fixpoint.specs.Moved.{Set, count_of, Misses, QuietUnlessMoved}
use Rattle.moved_fixpoint.specs.Runs.{SameAt}
use Rattle.moved_fixpoint.proofs.Telling.{same_elsewhere}
use Rattle.moved_fixpoint.proofs.RunLemmas.{Local, TellPlace, stays_closed}

-- a kernel that names no variable tells nothing
nameless : TellPlace → (b : Bounds) (k : Kernel) → IsKernel (length b) k → length (vars_of k) ≡ 0 → IsClosedUnder k b
nameless place b k kernel none = record {
  proper = λ i h. absurd (omega arith);
  kept = λ i t h. let q = place k b kernel i t h in absurd (contains_none q.0);
} where
  contains_none : {v : ℕ} → Contains (vars_of k) v → ⊥
  contains_none (j, l, e) = omega arith

all_moved : TellPlace → (b : Bounds) (k : Kernel) (set : Set) → IsKernel (length b) k → ((v : ℕ) → v < length b → IsIn set v) →
    Misses set (vars_of k) → (n : ℕ) → length (vars_of k) ≡ n → IsClosedUnder k b
all_moved place b k set kernel each misses zero e = nameless place b k kernel e
all_moved place b k set kernel each misses (suc n) e =
    let some : 0 < length (vars_of k) = omega arith in
    absurd (misses 0 0 some (each (get_or (vars_of k) 0 0) (kernel.variables.each 0 some)))

-- a set with one more variable
pub marked : (set : Set) (v : ℕ) → v < count_of set → IsIn (slice_set set v true) v
marked set v h = get_or-set_same set v true false h

pub marked_more : (set : Set) (v w : ℕ) → v < count_of set → IsIn set w → IsIn (slice_set set v true) w
marked_more set v w h is_in = elim (cases_eq w v) [
  | inl e ↦ subst (λ (x : ℕ). IsIn (slice_set set v true) x) (sym e) (marked set v h)
  | inr ne ↦ get_or-set_other set v w true false ne ∙ is_in
]

pub quiet_unless_moved : TellPlace → Local → QuietUnlessMoved
quiet_unless_moved place local = record {
  closed = λ b kernels set closed j k h misses. closed.quiet j k h;
  all = λ b kernels set kernel each j k h misses. all_moved place b (get_or kernels j k) set (kernel j k h) each misses _ refl;
  put = λ b kernels set v low high kernel in_set quiet j k h misses.
      stays_closed place local (get_or kernels j k) (put_of b v low high) b (kernel j k h)
      (λ i d l. elsewhere b set v low high in_set (get_or (vars_of (get_or kernels j k)) i d) (misses i d l))
      (quiet j k h (λ i d l is_in. misses i d l (marked_more set v _ in_set is_in)));
} where
  elsewhere : (b : Bounds) (set : Set) (v : ℕ) (low high : ℤ) → v < count_of set → (w : ℕ) → (IsIn (slice_set set v true) w → ⊥) → SameAt (put_of b v low high) b w
  elsewhere b set v low high h w out =
      same_elsewhere b v low high w (λ e. out (subst (λ (x : ℕ). IsIn (slice_set set v true) x) (sym e) (marked set v h)))
