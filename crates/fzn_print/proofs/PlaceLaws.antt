-- Where a variable is printed.
use Rattle.std.proofs.Common.{◌≡◌, ◌<◌, ℕ, zero, suc, List, [], ◌∷◌, length, get_or, subst, ◌∙◌, arith, ⊎_elim}
use Rattle.std.specs.Prelude.{Contains, flat_map}
use Rattle.std.proofs.lemmas.List.{get_or_default}
use Rattle.std.proofs.lemmas.List.Elements.{Contains-append_left, Contains-append_right, Contains-append_cases, Contains-get_or}
use Rattle.constraint_model.specs.declared.model.Term.{Term}
use Rattle.constraint_model.specs.declared.model.Output.{Output}
use Rattle.fzn_print.specs.Reading.{terms_in}

-- what stands in an output is printed
pub printed_in : (outputs : List Output) (i : ℕ) (o : Output) (t : Term) → i < length outputs → o ≡ get_or outputs i o → Contains (terms_in o) t → Contains (flat_map terms_in outputs) t
printed_in [] i o t inside is there = absurd (omega arith)
printed_in (x ∷ xs) zero o t inside is there = Contains-append_left (terms_in x) (flat_map terms_in xs) t (subst (λ (y : Output). Contains (terms_in y) t) is there)
printed_in (x ∷ xs) (suc i) o t inside is there = Contains-append_right (terms_in x) (flat_map terms_in xs) t (printed_in xs i o t (omega arith) is there)

-- what stands in no output isn't
pub printed_nowhere : (outputs : List Output) (t : Term) → ((k : ℕ) (d : Output) → k < length outputs → Contains (terms_in (get_or outputs k d)) t → ⊥) → Contains (flat_map terms_in outputs) t → ⊥
printed_nowhere [] t none there = let inside = there.1 in absurd (omega arith)
printed_nowhere (x ∷ xs) t none there =
    ⊎_elim (λ h. none 0 x (omega arith) h) (λ h. printed_nowhere xs t (λ k d inside found. none (suc k) d (omega arith) found) h)
    (Contains-append_cases (terms_in x) (flat_map terms_in xs) t there)

-- an entry that is the variable
pub entry_there : (entries : List Term) (i : ℕ) (d t : Term) → i < length entries → get_or entries i d ≡ t → Contains entries t
entry_there entries i d t inside is = subst (Contains entries) is (Contains-get_or entries i d inside)

-- where no entry is, the variable isn't among them
pub entry_nowhere : (entries : List Term) (d t : Term) → ((k : ℕ) → k < length entries → get_or entries k d ≡ t → ⊥) → Contains entries t → ⊥
entry_nowhere entries d t none there = none there.0 there.1 (get_or_default entries there.0 d t there.1 ∙ there.2)
