-- What is the first that is wrong is one, and nothing is wrong with a solution.
use Rattle.std.proofs.Common.{◌≡◌, ◌⊎◌, inl, inr, ◌<◌, ◌≤◌, ◌-◌, ◌+◌, ℕ, zero, suc, ℤ, pos, List, [], ◌∷◌, length, Option, Some, None, MatchOption, slice_get, All, refl, sym, ap, subst, arith}
use Rattle.std.specs.Prelude.{◌≤ℤ◌, slice_index_or, ⊤}
use Rattle.std.proofs.lemmas.Bool.{cases_order}
use Rattle.constraint_model.specs.declared.model.VarDecl.{VarDecl}
use Rattle.constraint_model.specs.declared.model.Constraint.{Constraint}
use Rattle.constraint_model.specs.declared.model.FznModel.{FznModel}
use Rattle.constraint_model.specs.Relations.{Holds, IsSolution, IsWithin}
use Rattle.constraint_check.specs.Asked.{HoldsNumbered}
use Rattle.fzn_check.specs.Wrong.{IsFirstOutside, IsFirstViolated, IsInBounds, IsWrong}
use Rattle.fzn_check.specs.Endings.{IsFirstBad}
use Rattle.fzn_check.specs.declared.wrong.Wrong.{Wrong}

-- the first place at which a fact fails is one
pub first_alone : (holds : ℕ → Type 0) (a b : ℕ) → ¬ holds a → ¬ holds b → ((k : ℕ) → k < a → holds k) → ((k : ℕ) → k < b → holds k) → a ≡ b
first_alone holds a b fails other before earlier = elim (cases_order a b) [
  | inl same ↦ same
  | inr apart ↦ elim apart [ inl less ↦ absurd (fails (earlier a less)) | inr more ↦ absurd (other (before b more)) ]
]

inside_of : (vars : List VarDecl) (a : List ℤ) (v : ℕ) → IsWithin a vars → v < length vars → IsInBounds vars a v
inside_of [] a v within inside = absurd (omega arith)
inside_of (d ∷ ds) [] v within inside = absurd within
inside_of (d ∷ ds) (z ∷ zs) zero within inside = λ e. (within.0, within.1)
inside_of (d ∷ ds) (z ∷ zs) (suc v) within inside = λ e. inside_of ds zs v within.2 (omega arith) e

one_holds : (cs : List Constraint) (a : List ℤ) (i : ℕ) → All (λ c. Holds c a) cs → MatchOption (slice_get cs i) ⊤ (λ c. Holds c a)
one_holds [] a i each = tt
one_holds (c ∷ cs) a zero each = each 0 c (omega arith)
one_holds (c ∷ cs) a (suc i) each = one_holds cs a i (λ k d inside. each (suc k) d (omega arith))

-- nothing is wrong with a solution
pub none_wrong : (model : FznModel) (a : List ℤ) (w : Wrong) → IsSolution model a → IsWrong model a w → ⊥
none_wrong model a (Wrong.Outside v) solves wrong = wrong.outside (inside_of model.vars a v solves.within wrong.declared)
none_wrong model a (Wrong.Violates number) solves wrong = wrong.violated (one_holds model.constraints a (number - 1) solves.holds)

-- the first that is wrong is one
outside_alone : (vars : List VarDecl) (a : List ℤ) (v u : ℕ) → IsFirstOutside vars a v → IsFirstOutside vars a u → v ≡ u
outside_alone vars a v u h g = first_alone (IsInBounds vars a) v u h.outside g.outside h.before g.before

violated_alone : (model : FznModel) (a : List ℤ) (m n : ℕ) → IsFirstViolated model a m → IsFirstViolated model a n → m ≡ n
violated_alone model a m n h g =
    first_alone (λ k. 1 ≤ k → HoldsNumbered model a k) m n (λ holds. h.violated (holds h.from_one)) (λ holds. g.violated (holds g.from_one))
    (λ k less low. h.before k low less) (λ k less low. g.before k low less)

pub wrong_alone : (model : FznModel) (a : List ℤ) (w u : Wrong) → IsWrong model a w → IsWrong model a u → w ≡ u
wrong_alone model a (Wrong.Outside v) (Wrong.Outside u) h g = ap Wrong.Outside (outside_alone model.vars a v u h g)
wrong_alone model a (Wrong.Outside v) (Wrong.Violates n) h g = absurd (h.outside (inside_of model.vars a v g.within h.declared))
wrong_alone model a (Wrong.Violates m) (Wrong.Outside u) h g = absurd (g.outside (inside_of model.vars a u h.within g.declared))
wrong_alone model a (Wrong.Violates m) (Wrong.Violates n) h g = ap Wrong.Violates (violated_alone model a m n h g)

-- the first solution that is wrong is one, and so is what is wrong with it
bad_fails : (model : FznModel) (solutions : List (List ℤ)) (place : ℕ) (w : Wrong) → IsFirstBad model solutions place w → IsSolution model (slice_index_or solutions place []) → ⊥
bad_fails model solutions place w bad solves = none_wrong model (slice_index_or solutions place []) w solves bad.is_wrong

pub place_alone : (model : FznModel) (solutions : List (List ℤ)) (p q : ℕ) (w u : Wrong) → IsFirstBad model solutions p w → IsFirstBad model solutions q u → p ≡ q
place_alone model solutions p q w u h g =
    first_alone (λ k. IsSolution model (slice_index_or solutions k [])) p q (bad_fails model solutions p w h) (bad_fails model solutions q u g) h.before g.before

pub bad_alone : (model : FznModel) (solutions : List (List ℤ)) (p q : ℕ) (w u : Wrong) → IsFirstBad model solutions p w → IsFirstBad model solutions q u → w ≡ u
bad_alone model solutions p q w u h g =
    let same = place_alone model solutions p q w u h g in
    wrong_alone model (slice_index_or solutions q []) w u (subst (λ (k : ℕ). IsWrong model (slice_index_or solutions k []) w) same h.is_wrong) g.is_wrong

-- where all are solutions none is wrong
pub all_right : (model : FznModel) (solutions : List (List ℤ)) (place : ℕ) (w : Wrong) → All (IsSolution model) solutions → IsFirstBad model solutions place w → ⊥
all_right model solutions place w each bad = bad_fails model solutions place w bad (each place [] bad.inside)
