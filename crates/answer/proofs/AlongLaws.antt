-- Results beside what their parts lead to.
use Rattle.std.proofs.Common.{◌≡◌, ℕ, suc, ◌+◌, ◌<◌, List, [], ◌∷◌, length, get_or, All, flat_map, Option, None, refl, sym, subst, ◌∙◌, arith}
use Rattle.std.proofs.lemmas.Option.{slice_get_within}
use Rattle.std.proofs.lemmas.List.Elements.{All-nil, All-cons, All-append}
use Rattle.interval.specs.Boxes.{Bounds}
use Rattle.constraint_model.specs.declared.model.FznModel.{FznModel}
use Rattle.constraint_model.specs.Searches.{IsSearchOf}
use Rattle.decompose.specs.Kernels.{kernels_of}
use Rattle.subproblems.specs.Paths.{PathLaws}
use Rattle.tree_cover.specs.declared.part.Part.{Part}
use Rattle.answer.specs.Places.{StandsAt, AreResults}
use Rattle.answer.proofs.PartPaths.{ArePathsOf, one_at}

-- each result is one of what stands beside it, from this place on
abbrev pub Along : {E : Type 0} → (ℕ → Option Bounds → E → Type 0) → ℕ → List (Option Bounds) → List E → Type 0
Along Is number [] [] = Unit {0}
Along Is number [] (r ∷ rs) = ⊥
Along Is number (path ∷ paths) [] = ⊥
Along Is number (path ∷ paths) (r ∷ rs) = Is number path r × Along Is (suc number) paths rs

pub stands_later : {E : Type 0} (x : E) (xs : List E) (place : ℕ) (y : E) → StandsAt xs place y → StandsAt (x ∷ xs) (suc place) y
stands_later x xs place y h = h

pub stands_first : {E : Type 0} (x : E) (xs : List E) → StandsAt (x ∷ xs) 0 x
stands_first x xs = refl

pub along : {E : Type 0} (Is : ℕ → Option Bounds → E → Type 0) (number : ℕ) (paths : List (Option Bounds)) (rs : List E) → length paths ≡ length rs →
    ((j : ℕ) (r : E) → StandsAt rs j r → Is (number + j) (get_or paths j None) r) → Along Is number paths rs
along Is number [] [] e each = tt
along Is number [] (r ∷ rs) e each = absurd (omega arith)
along Is number (p ∷ ps) [] e each = absurd (omega arith)
along {E = E} Is number (p ∷ ps) (r ∷ rs) e each = (
  (let same : number + 0 ≡ number = omega arith in subst (λ (n : ℕ). Is n p r) same (each 0 r (stands_first r rs))),
  along Is (suc number) ps rs (omega arith) (λ (j : ℕ) (s : E) (h : StandsAt rs j s).
      let same : number + suc j ≡ suc number + j = omega arith in
      subst (λ (n : ℕ). Is n (get_or ps j None) s) same (each (suc j) s (stands_later r rs j s h))),
)

-- what holds at each place holds of all
pub all_at : {E : Type 0} (P : E → Type 0) (xs : List E) → ((j : ℕ) (x : E) → StandsAt xs j x → P x) → All P xs
all_at P [] each = All-nil P
all_at {E = E} P (x ∷ xs) each = All-cons P x xs (each 0 x (stands_first x xs)) (all_at P xs (λ (j : ℕ) (y : E) (h : StandsAt xs j y). each (suc j) y (stands_later x xs j y h)))

pub all_in_each : {X E : Type 0} (P : X → Type 0) (f : E → List X) (rs : List E) → ((j : ℕ) (r : E) → StandsAt rs j r → All P (f r)) → All P (flat_map f rs)
all_in_each P f [] each = All-nil P
all_in_each {E = E} P f (r ∷ rs) each =
    All-append P (f r) (flat_map f rs) (each 0 r (stands_first r rs))
    (all_in_each P f rs (λ (j : ℕ) (s : E) (h : StandsAt rs j s). each (suc j) s (stands_later r rs j s h)))

-- one entry stands at a place
pub one_entry : {E : Type 0} (xs : List E) (place : ℕ) (x y : E) → StandsAt xs place x → StandsAt xs place y → x ≡ y
one_entry xs place x y h k = cc

-- the results of all parts stand beside what the parts lead to
pub results_along : (laws : PathLaws) (model : FznModel) → IsSearchOf model → (parts : List Part) (b : Bounds) (paths : List (Option Bounds)) → ArePathsOf model (kernels_of model) parts b paths →
    {E : Type 0} (Is : ℕ → Option Bounds → E → Type 0) (results : List E) → AreResults model parts b Is results → Along Is 0 paths results
results_along laws model rule parts b paths are {E} Is results h =
    along Is 0 paths results (are.count ∙ sym h.count) (λ (j : ℕ) (r : E) (s : StandsAt results j r).
    let own = h.each j r s in
    let below : j < length parts = let e = h.count in let l = slice_get_within results j r s in omega arith in
    let same = one_at laws model (kernels_of model) parts b j own.path (get_or paths j None) rule own.leads (are.each j below) in
    let number : j ≡ 0 + j = omega arith in
    subst (λ (n : ℕ). Is n (get_or paths j None) r) number (subst (λ (p : Option Bounds). Is j p r) same own.is_result))
