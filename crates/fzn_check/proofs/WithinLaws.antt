-- Variables within their bounds, and what is wrong.
use Rattle.std.proofs.Common.{◌≡◌, ◌+◌, ◌-◌, ◌<◌, ◌≤◌, ◌⊎◌, ℕ, zero, suc, ℤ, pos, List, [], ◌∷◌, length, get_or, refl, sym, ap, subst, ◌∙◌, arith, Option, Some, None, MatchOption, slice_get, All}
use Rattle.std.specs.Prelude.{◌≤ℤ◌, slice_index_or, ⊤}
use Rattle.std.proofs.lemmas.List.Elements.{All-cons}
use Rattle.constraint_model.specs.declared.model.VarDecl.{VarDecl}
use Rattle.constraint_model.specs.declared.model.Constraint.{Constraint}
use Rattle.constraint_model.specs.declared.model.FznModel.{FznModel}
use Rattle.constraint_model.specs.Relations.{Holds, IsSolution, IsWithin}
use Rattle.fzn_check.specs.Wrong.{HoldsAt, IsInBounds, IsFirstFailing, IsFirstOf, IsFirstViolated}

pub all_inside : (vars : List VarDecl) (a : List ℤ) → length a ≡ length vars → ((v : ℕ) → v < length vars → IsInBounds vars a v) → IsWithin a vars
all_inside [] [] same each = tt
all_inside [] (z ∷ zs) same each = absurd (omega arith)
all_inside (d ∷ ds) [] same each = absurd (omega arith)
all_inside (d ∷ ds) (z ∷ zs) same each =
    let first = each 0 (omega arith) d in
    (first.0, first.1, all_inside ds zs (omega arith) (λ v inside. each (suc v) (omega arith)))

-- each constraint of a list holds where each holds that is got
all_hold : (cs : List Constraint) (a : List ℤ) → ((i : ℕ) → i < length cs → MatchOption (slice_get cs i) ⊤ (λ c. Holds c a)) → All (λ c. Holds c a) cs
all_hold [] a each = λ k d inside. absurd (omega arith)
all_hold (c ∷ cs) a each = All-cons (λ x. Holds x a) c cs (each 0 (omega arith)) (all_hold cs a (λ i short. each (suc i) (omega arith)))

no_sub : (i : ℕ) → i + 1 - 1 ≡ i
no_sub i = omega arith

pub solution_is : (model : FznModel) (a : List ℤ) → IsWithin a model.vars → ((j : ℕ) → j < length model.constraints → HoldsAt model a j) → IsSolution model a
solution_is model a within each = record {
  within = within;
  holds = all_hold model.constraints a (λ i inside. subst (λ (k : ℕ). MatchOption (slice_get model.constraints k) ⊤ (λ c. Holds c a)) (no_sub i) (each i inside));
}

pub violated_is : (model : FznModel) (a : List ℤ) (place : ℕ) → IsWithin a model.vars → IsFirstOf (HoldsAt model a) (length model.constraints) place → IsFirstViolated model a (place + 1)
violated_is model a place within first =
    let inside = first.inside in
    record {
      within = within;
      from_one = omega arith;
      declared = omega arith;
      violated = first.fails;
      before = λ m low less. (let back : m - 1 + 1 ≡ m = omega arith in subst (λ (n : ℕ). MatchOption (slice_get model.constraints (n - 1)) ⊤ (λ c. Holds c a)) back (first.before (m - 1) (omega arith)));
    }
