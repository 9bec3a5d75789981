-- What is seen of a kernel that narrows nothing says how long it rests.
use Rattle.std.proofs.Common.{◌≡◌, ℕ, List, length, ℤ, Option, None, Some, to_z, of_z, true, false, refl, sym, ◌∙◌, arith}
use Rattle.std.specs.Prelude.{MatchOption}
use Rattle.std.proofs.lemmas.Bool.{true≢false}
use Rattle.std.proofs.lemmas.Int.{ints}
use Rattle.std.specs.List.{All}
use mir.Syntax.{w64}
use Rattle.tells.specs.declared.tell.Lit.{Lit}
use Rattle.interval.specs.Limits.{ClampOrder}
use Rattle.interval.specs.Quotients.{QuotientOrder}
use Rattle.interval.specs.Boxes.{Bounds, IsInside}
use Rattle.guarded_tell.specs.Words.{Keeps, IsProperIn, is_sure, is_out}
use Rattle.small_sums.specs.declared.pairs.Pair.{Pair}
use Rattle.guarded_tell.specs.declared.kernel.Kernel.{Kernel}
use Rattle.guarded_tell.specs.declared.kernel.Kernel.TheVariants.{Eq, Clause}
use Rattle.kernel_visits.specs.declared.shape.Shape.TheVariants.{AtMost, Same, Either, Triple}
use Rattle.kernel_visits.specs.declared.resting.Rest.{Rest}
use Rattle.kernel_visits.specs.declared.resting.Rest.TheVariants.{Awake, UntilFixed, ForGood}
use Rattle.guarded_tell.specs.Kernels.{vars_of, tells, IsKernel}
use Rattle.kernel_visits.specs.Shapes.{IsDifferenceIn, IsShapeOf}
use Rattle.kernel_visits.specs.Rests.{IsEntailed, IsQuietUntilFixed, IsRest, IsQuietFor, IsAtMostFor, IsSameFor, IsUnequalFor, IsEitherFor, IsTripleFor, IsClauseFor, IsOpenSum}
use Rattle.kernel_visits.proofs.ShapeQuiet.{at_most_shape, same_shape, either_shape, triple_shape}
use Rattle.kernel_visits.proofs.RestLaws.{at_most_entailed, same_entailed, same_until_fixed, either_entailed, triple_entailed, clause_entailed, sum_until_fixed}

-- what is seen of a sum that must not be the limit is seen of an equation whose literal is out
unequal_for : (b : Bounds) (l : Lit) (limit : ℤ) (p : Pair) → is_out l b ≡ true → is_sure l b ≡ false → (r : Rest) → IsUnequalFor limit p r → IsSameFor b l limit p r
unequal_for b l limit p out unsure Awake q = record {
  sure_first = λ e. absurd (true≢false (sym e ∙ unsure));
  sure_second = λ e. absurd (true≢false (sym e ∙ unsure));
  out = λ e f. q;
  open_low = λ e f. absurd (true≢false (sym out ∙ f));
  open_high = λ e f. absurd (true≢false (sym out ∙ f));
  open_wide = λ e f. absurd (true≢false (sym out ∙ f));
}
unequal_for b l limit p out unsure UntilFixed q = (out, q.0, q.1)
unequal_for b l limit p out unsure ForGood q = (out, q)

pub unequal_seen : (b : Bounds) (l : Lit) (limit : ℤ) (p : Pair) → is_out l b ≡ true → is_sure l b ≡ false →
    (o : Option Rest) → MatchOption o (Unit {0}) (IsUnequalFor limit p) → MatchOption o (Unit {0}) (IsSameFor b l limit p)
unequal_seen b l limit p out unsure None q = tt
unequal_seen b l limit p out unsure (Some r) q = unequal_for b l limit p out unsure r q

module _ (quotients : QuotientOrder) (clamped : ClampOrder) (b : Bounds) (k : Kernel) (kernel : IsKernel (length b) k) where
  itself : IsInside b b
  itself = record { same_length = refl; lows = λ v h. omega (arith, ints); highs = λ v h. omega (arith, ints) }

  -- a kernel that rests is quiet
  pub rest_kept : IsProperIn (vars_of k) b → (r : Rest) → (r ≡ Awake → ⊥) → IsRest k b r → All (Keeps b) (tells k b)
  rest_kept proper Awake n q = absurd (n refl)
  rest_kept proper UntilFixed n q = (q b itself proper (λ i d h fixed. fixed)).kept
  rest_kept proper ForGood n q = (q b itself proper).kept

  module _ (proper : IsProperIn (vars_of k) b) where
    for_good : IsEntailed k b → IsQuietFor k b ForGood
    for_good e = record { kept = (e b itself proper).kept; rest = e }

    pub until_fixed : IsQuietUntilFixed k b → IsQuietFor k b UntilFixed
    until_fixed q = record { kept = (q b itself proper (λ i d h fixed. fixed)).kept; rest = q }

    module _ (l : Lit) (x y : ℕ) (limit : ℤ) (p : Pair) (within : IsDifferenceIn b x y p) where
      at_most_for : IsShapeOf k (AtMost l x y limit) → (r : Rest) → IsAtMostFor b l (to_z w64 (of_z w64 limit)) p r → IsQuietFor k b r
      at_most_for shape Awake q = record { kept = at_most_shape quotients clamped b k kernel l x y limit p within shape q; rest = tt }
      at_most_for shape UntilFixed q = absurd q
      at_most_for shape ForGood q = for_good (at_most_entailed quotients clamped b k kernel l x y limit p within shape q)

      pub at_most_seen : IsShapeOf k (AtMost l x y limit) → (o : Option Rest) → MatchOption o (Unit {0}) (IsAtMostFor b l (to_z w64 (of_z w64 limit)) p) → MatchOption o (Unit {0}) (IsQuietFor k b)
      at_most_seen shape None m = tt
      at_most_seen shape (Some r) m = at_most_for shape r m

      same_for : IsShapeOf k (Same l x y limit) → (r : Rest) → IsSameFor b l (to_z w64 (of_z w64 limit)) p r → IsQuietFor k b r
      same_for shape Awake q = record { kept = same_shape quotients clamped b k kernel l x y limit p within shape q; rest = tt }
      same_for shape UntilFixed q = until_fixed (same_until_fixed quotients clamped b k kernel l x y limit p within shape q)
      same_for shape ForGood q = for_good (same_entailed quotients clamped b k kernel l x y limit p within shape q)

      pub same_seen : IsShapeOf k (Same l x y limit) → (o : Option Rest) → MatchOption o (Unit {0}) (IsSameFor b l (to_z w64 (of_z w64 limit)) p) → MatchOption o (Unit {0}) (IsQuietFor k b)
      same_seen shape None m = tt
      same_seen shape (Some r) m = same_for shape r m

    module _ (l m : Lit) (shape : IsShapeOf k (Either l m)) where
      either_for : (r : Rest) → IsEitherFor l m b r → IsQuietFor k b r
      either_for Awake q = record { kept = either_shape b k l m shape q.0 q.1; rest = tt }
      either_for UntilFixed q = absurd q
      either_for ForGood q = for_good (either_entailed quotients clamped b k kernel l m shape q)

      pub either_seen : (o : Option Rest) → MatchOption o (Unit {0}) (IsEitherFor l m b) → MatchOption o (Unit {0}) (IsQuietFor k b)
      either_seen None q = tt
      either_seen (Some r) q = either_for r q

    module _ (l m n : Lit) (shape : IsShapeOf k (Triple l m n)) where
      triple_for : (r : Rest) → IsTripleFor l m n b r → IsQuietFor k b r
      triple_for Awake q = record { kept = triple_shape b k l m n shape q; rest = tt }
      triple_for UntilFixed q = absurd q
      triple_for ForGood q = for_good (triple_entailed quotients clamped b k kernel l m n shape q)

      pub triple_seen : (o : Option Rest) → MatchOption o (Unit {0}) (IsTripleFor l m n b) → MatchOption o (Unit {0}) (IsQuietFor k b)
      triple_seen None q = tt
      triple_seen (Some r) q = triple_for r q

  -- ---- by the places that were remembered

  pub clause_for : (lits : List Lit) (place : ℕ) → k ≡ Clause lits → (r : Rest) → IsClauseFor lits place b r → IsRest k b r
  clause_for lits place e Awake q = tt
  clause_for lits place e UntilFixed q = absurd q
  clause_for lits place e ForGood q = clause_entailed quotients clamped b k kernel lits place e q

  pub clause_seen : (lits : List Lit) (place : ℕ) → k ≡ Clause lits → All (Keeps b) (tells k b) → (r : Rest) → IsClauseFor lits place b r → IsQuietFor k b r
  clause_seen lits place e kept r q = record { kept = kept; rest = clause_for lits place e r q }

  pub open_rests : (l : Lit) (coeffs : List ℤ) (vars : List ℕ) (limit : ℤ) → k ≡ Eq l coeffs vars limit → IsOpenSum b l coeffs vars → IsQuietUntilFixed k b
  open_rests l coeffs vars limit e q = sum_until_fixed quotients clamped b k kernel l coeffs vars limit e q.0 q.1
