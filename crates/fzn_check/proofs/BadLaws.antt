-- The first solution that is wrong, found place by place.
use Rattle.std.proofs.Common.{◌≡◌, ◌∙◌, ◌<◌, ◌≤◌, ◌+◌, ℕ, ℤ, List, [], length, All, get_or, below_more, subst, sym, arith}
use Rattle.std.specs.Prelude.{slice_index_or}
use Rattle.std.proofs.lemmas.List.{get_or_default}
use Rattle.constraint_model.specs.declared.model.VarDecl.{VarDecl}
use Rattle.constraint_model.specs.declared.model.FznModel.{FznModel}
use Rattle.constraint_model.specs.Numbers.{IsInProfile}
use Rattle.constraint_model.specs.Relations.{IsSolution}
use Rattle.fzn_print.specs.Reading.{AreValues}
use Rattle.fzn_check.specs.Wrong.{IsWrong}
use Rattle.fzn_check.specs.Endings.{IsFirstBad}
use Rattle.fzn_check.specs.declared.wrong.Wrong.{Wrong}
use Rattle.fzn_check.proofs.StepLaws.{in_profile}

-- each solution before this place is one
abbrev pub AreRight : FznModel → List (List ℤ) → ℕ → Type 0
AreRight model solutions place = (k : ℕ) → k < place → IsSolution model (slice_index_or solutions k [])

pub numbers_at : (vars : List VarDecl) (solutions : List (List ℤ)) (place : ℕ) (a b : List ℤ) → All (AreValues vars) solutions → place < length solutions → a ≡ get_or solutions place a → b ≡ a
    → All IsInProfile b
numbers_at vars solutions place a b values inside is same = subst (All IsInProfile) (sym same) (in_profile vars a (subst (AreValues vars) (sym is) (values place a inside)))

at_place : (solutions : List (List ℤ)) (place : ℕ) (a b : List ℤ) → place < length solutions → a ≡ get_or solutions place a → b ≡ a → b ≡ slice_index_or solutions place []
at_place solutions place a b inside is same = same ∙ is ∙ get_or_default solutions place a [] inside

pub next_right : (model : FznModel) (solutions : List (List ℤ)) (place : ℕ) (a b : List ℤ) → AreRight model solutions place → place < length solutions → a ≡ get_or solutions place a → b ≡ a
    → IsSolution model b → AreRight model solutions (place + 1)
next_right model solutions place a b before inside is same right =
    below_more (λ k. IsSolution model (slice_index_or solutions k [])) place before (subst (IsSolution model) (at_place solutions place a b inside is same) right)

pub found_bad : (model : FznModel) (solutions : List (List ℤ)) (place : ℕ) (a b : List ℤ) (wrong : Wrong) → AreRight model solutions place → place < length solutions → a ≡ get_or solutions place a → b ≡ a
    → IsWrong model b wrong → IsFirstBad model solutions place wrong
found_bad model solutions place a b wrong before inside is same bad =
    record { inside = inside; is_wrong = subst (λ (x : List ℤ). IsWrong model x wrong) (at_place solutions place a b inside is same) bad; before = before }

pub all_are_right : (model : FznModel) (solutions : List (List ℤ)) (place : ℕ) → AreRight model solutions place → length solutions ≤ place → All (IsSolution model) solutions
all_are_right model solutions place before over = λ k d inside. subst (IsSolution model) (get_or_default solutions k [] d inside) (before k (omega arith))
