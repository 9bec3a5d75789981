-- What a narrower that notes variables may narrow.
use Rattle.std.proofs.Common.{◌≡◌, ℕ, zero, suc, ℤ, true, false, ◌<◌, List, length, get_or, replicate, inl, inr, refl, sym, subst, ap, ◌∙◌, arith}
use Rattle.std.proofs.lemmas.Bool.{cases_eq}
use Rattle.std.proofs.lemmas.List.{length-set, length-replicate, get_or-set_other}
use Rattle.std.specs.Prelude.{slice_set}
use Rattle.std.specs.List.{All}
use Rattle.interval.specs.Boxes.{Bounds, put_of}
use Rattle.guarded_tell.specs.declared.kernel.Kernel.{Kernel}
use Rattle.guarded_tell.specs.Kernels.{IsKernel}
use Rattle.fixpoint_laws.specs.Fixpoints.{IsClosed}
use Rattle.moved_set.specs.Sets.{IsIn}
use Rattle.moved_fixpoint.specs.Made.{IsMadeAt}
use Rattle.moved_fixpoint.specs.Moved.{Set, count_of, AreMovedOrQuiet, QuietUnlessMoved}
use Rattle.moved_fixpoint.specs.Resting.{HasEach}
use Rattle.narrowing.specs.declared.alone.Alone.{Alone}
use Rattle.narrowing.specs.declared.narrower.Narrower.{Narrower}
use Rattle.narrowing.specs.Narrowers.{len_of, AreQuietUnlessNoted}

module _ (law : QuietUnlessMoved) where
  pub quiet_where_closed : (n : Narrower) (kernels : List Kernel) (b : Bounds) → IsClosed b kernels → AreQuietUnlessNoted n kernels b
  quiet_where_closed (Narrower.Alone alone) kernels b closed = law.closed b kernels alone.sets.moved closed
  quiet_where_closed (Narrower.Lanes lanes) kernels b closed = tt

  module _ (n : Narrower) (alone : Alone) (is : n ≡ Narrower.Alone alone) (moved : Set) where
    -- a variable is noted, and its bounds are put
    pub one_noted : (v : ℕ) → v < len_of n → moved ≡ slice_set alone.sets.moved v true → (kernels : List Kernel) (b : Bounds) (low high : ℤ) →
        All (IsKernel (length b)) kernels → AreQuietUnlessNoted n kernels b → AreMovedOrQuiet moved (put_of b v low high) kernels
    one_noted v h set kernels b low high are quiet =
        let known : AreMovedOrQuiet alone.sets.moved b kernels = subst (λ (m : Narrower). AreQuietUnlessNoted m kernels b) is quiet in
        let below : v < count_of alone.sets.moved = subst (λ (m : Narrower). v < len_of m) is h in
        subst (λ (s : Set). AreMovedOrQuiet s (put_of b v low high) kernels) (sym set) (law.put b kernels alone.sets.moved v low high are below known)

    -- all are noted
    pub all_noted : HasEach (count_of alone.sets.moved) moved → (kernels : List Kernel) (b : Bounds) → length b ≡ len_of n →
        All (IsKernel (length b)) kernels → AreMovedOrQuiet moved b kernels
    all_noted each kernels b e are =
        let same : length b ≡ count_of alone.sets.moved = subst (λ (m : Narrower). length b ≡ len_of m) is e in
        law.all b kernels moved are
        (λ v h. each v (omega arith))

    -- one alone is noted, whose bounds were put in a closed box
    pub alone_noted : (v : ℕ) → v < len_of n → moved ≡ slice_set (replicate (count_of alone.sets.moved) false) v true → (kernels : List Kernel) (b : Bounds) →
        All (IsKernel (length b)) kernels → IsMadeAt kernels v b → AreMovedOrQuiet moved b kernels
    alone_noted v h set kernels b are made =
        let none : Set = replicate (count_of alone.sets.moved) false in
        let below : v < count_of alone.sets.moved = subst (λ (m : Narrower). v < len_of m) is h in
        let same : length b ≡ length made.closed = ap (λ (x : Bounds). length x) made.is_put ∙ length-set made.closed v (made.low, made.high) in
        let put : AreMovedOrQuiet (slice_set none v true) (put_of made.closed v made.low made.high) kernels =
        law.put made.closed kernels none v made.low made.high (subst (λ (k : ℕ). All (IsKernel k) kernels) same are) (omega (arith, length-replicate (count_of alone.sets.moved) false)) (law.closed made.closed kernels none made.is_closed) in
        subst (λ (s : Set). AreMovedOrQuiet s b kernels) (sym set) (subst (λ (x : Bounds). AreMovedOrQuiet (slice_set none v true) x kernels) (sym made.is_put) put)

-- ---- a set of one variable alone

none_there : (count w : ℕ) → get_or (replicate count false) w false ≡ false
none_there zero w = refl
none_there (suc count) zero = refl
none_there (suc count) (suc w) = none_there count w

pub one_alone : (count v : ℕ) (moved : Set) → moved ≡ slice_set (replicate count false) v true → (w : ℕ) → IsIn moved w → w ≡ v
one_alone count v moved e w is_in = elim (cases_eq w v) [
  | inl same ↦ same
  | inr other ↦
      let there : get_or moved w false ≡ false = ap (λ (s : Set). get_or s w false) e ∙ get_or-set_other (replicate count false) v w true false other ∙ none_there count w in
      absurd (let q : true ≡ false = sym is_in ∙ there in cc)
]
