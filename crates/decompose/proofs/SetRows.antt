-- The rows of sets.
use Rattle.std.proofs.Common.{◌↔◌, ℕ, ℤ, pos, ◌+ℤ◌, ◌≤ℤ◌, ◌<ℤ◌, ◌<◌, ◌≤◌, true, List, [], ◌∷◌, length, refl, arith}
use Rattle.std.specs.Prelude.{IsTrue}
use Rattle.std.specs.List.{All, AllPairs}
use Rattle.std.proofs.lemmas.Int.{ints}
use Rattle.std.proofs.lemmas.List.Elements.{All-nil, All-cons, All-weaker}
use Rattle.std.proofs.lemmas.List.Kept.{AllPairs-cons}
use Rattle.interval.specs.Limits.{IsNumber}
use Rattle.guarded_tell.specs.Words.{Lit}
use Rattle.guarded_tell.specs.declared.kernel.Kernel.{Kernel}
use Rattle.guarded_tell.specs.Words.{value_of, literal_true}
use Rattle.set_tells.specs.InSet.{IsSet, range_limit}
use Rattle.guarded_tell.specs.Kernels.{vars_of, HasNumbers, Holds as KernelHolds}
use Rattle.constraint_model.specs.declared.model.Term.{Term}
use Rattle.constraint_model.specs.declared.model.VarDecl.{VarDecl}
use Rattle.constraint_model.specs.declared.meanings.Scalar.{Scalar}
use Rattle.constraint_model.specs.declared.meanings.Meaning.{Meaning}
use Rattle.constraint_model.specs.declared.table.Letter.{Letter}
use Rattle.constraint_model.specs.declared.table.ConstraintName.{ConstraintName}
use Rattle.constraint_model.specs.Limits.{most_entries}
use Rattle.constraint_model.specs.Fits.{kernels_of}
use Rattle.constraint_model.specs.Numbers.{IsInProfile}
use Rattle.constraint_model.specs.Ranges.{Range, IsIn, AreApart, AreApartFrom}
use Rattle.constraint_model.specs.Relations.{value, HoldsOn, IsTrueNumber, IsWithin}
use Rattle.constraint_model.specs.WellFormed.{IsMeaningOf}
use Rattle.decompose.specs.Program.{with_constants}
use Rattle.decompose.specs.Kernels.{variable_of, always, literal_of, row_of}
use Rattle.decompose.specs.Places.{numbering_of}
use Rattle.decompose.proofs.Means.{HasVariable, MeansOne, RowMeans, size_of}
use Rattle.decompose.proofs.Served.{Law, at_integer, at_boolean, at_set, at_two, at_three}
use Rattle.decompose.proofs.ConstantLaws.{variable_inside}
use Rattle.decompose.proofs.OneKernel.{alone, all_two, are_variables, iff_both, iff_same, iff_true, positive_true, profile_number, same_meaning, sign_means, value_is}

-- ---- the ranges of a set

abbrev AreInProfile : List Range → Type 0
AreInProfile ranges = All (λ (r : Range). IsInProfile r.0 × IsInProfile r.1) ranges

few_ranges : (n : ℕ) → n ≤ most_entries → n ≤ range_limit
unfolding range_limit
few_ranges n h = omega arith

-- ranges that lie behind a bound lie behind each lesser one
all_behind : (low bound : ℤ) (rs : List Range) → low ≤ℤ bound → AreApartFrom bound rs → All (λ (s : Range). low <ℤ s.0) rs
all_behind low bound [] below h = All-nil (λ (s : Range). low <ℤ s.0)
all_behind low bound (r ∷ rs) below h =
    let behind : bound <ℤ r.0 = h.0 in
    let has : r.0 ≤ℤ r.1 = h.1 in
    All-cons (λ (s : Range). low <ℤ s.0) r rs (omega (arith, ints)) (all_behind low (r.1 +ℤ pos 1) rs (omega (arith, ints)) h.2)

abbrev Before : Range → Range → Type 0
Before r s = (r.1 +ℤ pos 1) <ℤ s.0

itself : (z : ℤ) → z ≤ℤ z
itself z = omega (arith, ints)

all_apart_from : (bound : ℤ) (rs : List Range) → AreApartFrom bound rs → AllPairs Before rs
all_apart_from bound [] h = λ i j d less inside. absurd (omega arith)
all_apart_from bound (r ∷ rs) h = AllPairs-cons Before r rs (all_behind (r.1 +ℤ pos 1) (r.1 +ℤ pos 1) rs (itself (r.1 +ℤ pos 1)) h.2) (all_apart_from (r.1 +ℤ pos 1) rs h.2)

all_apart : (rs : List Range) → AreApart rs → AllPairs Before rs
all_apart [] h = λ i j d less inside. absurd (omega arith)
all_apart (r ∷ rs) h = AllPairs-cons Before r rs (all_behind (r.1 +ℤ pos 1) (r.1 +ℤ pos 1) rs (itself (r.1 +ℤ pos 1)) h.1) (all_apart_from (r.1 +ℤ pos 1) rs h.1)

all_ordered_from : (bound : ℤ) (rs : List Range) → AreApartFrom bound rs → All (λ (r : Range). r.0 ≤ℤ r.1) rs
all_ordered_from bound [] h = All-nil (λ (r : Range). r.0 ≤ℤ r.1)
all_ordered_from bound (r ∷ rs) h = All-cons (λ (s : Range). s.0 ≤ℤ s.1) r rs h.1 (all_ordered_from (r.1 +ℤ pos 1) rs h.2)

all_ordered : (rs : List Range) → AreApart rs → All (λ (r : Range). r.0 ≤ℤ r.1) rs
all_ordered [] h = All-nil (λ (r : Range). r.0 ≤ℤ r.1)
all_ordered (r ∷ rs) h = All-cons (λ (s : Range). s.0 ≤ℤ s.1) r rs h.0 (all_ordered_from (r.1 +ℤ pos 1) rs h.1)

-- the ranges of a model are a set that can be run
set_is : (rs : List Range) → length rs ≤ most_entries → AreApart rs → AreInProfile rs → IsSet rs
set_is rs short apart inside = record {
  short = few_ranges (length rs) short;
  firsts = All-weaker (λ (r : Range). IsInProfile r.0 × IsInProfile r.1) (λ (r : Range). IsNumber r.0) (λ r h. profile_number r.0 h.0) rs inside;
  lasts = All-weaker (λ (r : Range). IsInProfile r.0 × IsInProfile r.1) (λ (r : Range). IsNumber r.1) (λ r h. profile_number r.1 h.1) rs inside;
  ordered = all_ordered rs apart;
  apart = all_apart rs apart;
}

-- ---- the rows

module _ (vars : List VarDecl) (constants : List ℤ) where
  -- a literal that is true where P holds is true exactly where the set has the value
  membership_is : (P : List ℤ → Type 0) (l : Lit) (x : Term) (rs : List Range)
      → l.var < size_of vars constants
      → ((a : List ℤ) → IsWithin a vars → IsTrue (literal_true l (value_of (with_constants constants a) l.var)) ↔ P a)
      → HasVariable vars constants x → IsMeaningOf vars (Meaning.Set rs)
      → MeansOne vars constants (λ a. P a ↔ IsIn rs (value a x)) (Kernel.InSet l (variable_of (numbering_of vars constants) x) rs)
  unfolding vars_of HasNumbers KernelHolds
  membership_is P l x rs inside lit has set = record {
    can_run = record {
      variables =
          let v = variable_of (numbering_of vars constants) x in
          are_variables (size_of vars constants) (l.var ∷ v ∷ [])
          (all_two (λ v. v < size_of vars constants) l.var v inside (variable_inside vars constants x has));
      numbers = set_is rs set.0 set.1 set.2;
    };
    meaning = λ a w. iff_both (lit a w) (iff_same (IsIn rs) _ (value a x) (value_is vars constants a w x has));
  }

  member_is : (x : Term) (rs : List Range) → HasVariable vars constants x → IsMeaningOf vars (Meaning.Set rs)
      → MeansOne vars constants (λ a. IsIn rs (value a x)) (Kernel.InSet always (variable_of (numbering_of vars constants) x) rs)
  member_is x rs has set =
      same_meaning vars constants (λ a. Unit {0} ↔ IsIn rs (value a x)) (λ a. IsIn rs (value a x)) (Kernel.InSet always (variable_of (numbering_of vars constants) x) rs)
      (membership_is (λ a. Unit {0}) always x rs (omega arith) (λ a w. (λ h. tt, λ u. refl)) has set)
      (λ a w. iff_true tt)

  reified_member_is : (x : Term) (rs : List Range) (r : Term) → HasVariable vars constants x → IsMeaningOf vars (Meaning.Set rs) → HasVariable vars constants r
      → MeansOne vars constants (λ a. IsTrueNumber (value a r) ↔ IsIn rs (value a x)) (Kernel.InSet (literal_of (numbering_of vars constants) r) (variable_of (numbering_of vars constants) x) rs)
  reified_member_is x rs r has set has_r =
      membership_is (λ a. IsTrueNumber (value a r)) (literal_of (numbering_of vars constants) r) x rs (variable_inside vars constants r has_r) (λ a w. sign_means vars constants a w true IsTrueNumber positive_true r has_r) has set

  set_in_row : (s : Scalar) (rs : List Range) → HasVariable vars constants s.term → IsMeaningOf vars (Meaning.Set rs) → RowMeans vars constants ConstraintName.SetIn (Meaning.One s ∷ Meaning.Set rs ∷ [])
  unfolding row_of kernels_of HoldsOn
  set_in_row s rs has set = alone vars constants refl (member_is s.term rs has set)

  set_in_reif_row : (s : Scalar) (rs : List Range) (r : Scalar) → HasVariable vars constants s.term → IsMeaningOf vars (Meaning.Set rs) → HasVariable vars constants r.term
      → RowMeans vars constants ConstraintName.SetInReif (Meaning.One s ∷ Meaning.Set rs ∷ Meaning.One r ∷ [])
  unfolding row_of kernels_of HoldsOn
  set_in_reif_row s rs r has set has_r =
      alone vars constants refl (reified_member_is s.term rs r.term has set has_r)

  pub set_in : Law vars constants ConstraintName.SetIn (Letter.Integer ∷ Letter.Set ∷ [])
  set_in ms served lengths =
      at_two vars constants Letter.Integer Letter.Set (RowMeans vars constants ConstraintName.SetIn)
      (λ m n hm hn.
      at_integer vars constants (λ i. RowMeans vars constants ConstraintName.SetIn (i ∷ n ∷ []))
      (λ s is. at_set vars constants (λ j. RowMeans vars constants ConstraintName.SetIn (Meaning.One s ∷ j ∷ [])) (λ rs set. set_in_row s rs is.has set) n hn)
      m hm)
      ms served

  pub set_in_reif : Law vars constants ConstraintName.SetInReif (Letter.Integer ∷ Letter.Set ∷ Letter.Boolean ∷ [])
  set_in_reif ms served lengths =
      at_three vars constants Letter.Integer Letter.Set Letter.Boolean (RowMeans vars constants ConstraintName.SetInReif)
      (λ m n o hm hn ho.
      at_integer vars constants (λ i. RowMeans vars constants ConstraintName.SetInReif (i ∷ n ∷ o ∷ []))
      (λ s is.
      at_set vars constants (λ j. RowMeans vars constants ConstraintName.SetInReif (Meaning.One s ∷ j ∷ o ∷ []))
      (λ rs set.
      at_boolean vars constants (λ k. RowMeans vars constants ConstraintName.SetInReif (Meaning.One s ∷ Meaning.Set rs ∷ k ∷ []))
      (λ r ir. set_in_reif_row s rs r is.has set ir.has) o ho)
      n hn)
      m hm)
      ms served
