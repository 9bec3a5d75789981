-- With no part open, what the searches for the first solution collect first is the first of all solutions; and with none
-- stopped, what those for all solutions collect is all of them.
use Rattle.std.proofs.Common.{◌≡◌, ℕ, suc, ◌+◌, ◌<◌, List, [], ◌∷◌, ◌++◌, take, All, flat_map, Option, None, Some, refl, sym, ap, subst, ◌∙◌, inl, inr, arith}
use Rattle.std.proofs.lemmas.Bool.{cases_lt}
use Rattle.std.proofs.lemmas.List.Elements.{All-head, All-tail}
use Rattle.interval.specs.Boxes.{Bounds}
use Rattle.constraint_model.specs.declared.model.FznModel.{FznModel}
use Rattle.constraint_model.specs.Searches.{IsSearchOf}
use Rattle.decompose.specs.Kernels.{kernels_of}
use Rattle.branching.specs.Tree.{OneList, SolutionsIn}
use Rattle.subproblems.specs.Cuts.{CanBeCut}
use Rattle.subproblems.specs.Paths.{SolutionsOf, SolutionsOfAll, PathLaws}
use Rattle.search.specs.declared.ends.FirstEnd.{FirstEnd}
use Rattle.search.specs.declared.ends.AllEnd.{AllEnd}
use Rattle.search.specs.Ends.{head_of}
use Rattle.tree_cover.specs.declared.part.Part.{Part}
use Rattle.answer.specs.declared.options.Options.{Options}
use Rattle.answer.specs.Lists.{Assignment}
use Rattle.answer.specs.Places.{StandsAt, AreResults}
use Rattle.answer.specs.Results.{IsFirstResult, AreFirstResults, first_collected, IsOpen, IsAllResult, all_collected, IsAllSpent}
use Rattle.answer.specs.Parts.{AreParts}
use Rattle.answer.proofs.PartPaths.{ListedByParts, every_at}
use Rattle.answer.proofs.AlongLaws.{Along, one_entry, stands_first, stands_later, results_along}

no_head : (xs : List Assignment) → None ≡ head_of xs → xs ≡ []
no_head [] e = refl
no_head (x ∷ xs) e = absurd cc

a_head : (a : Assignment) (xs : List Assignment) → Some a ≡ head_of xs → (others : List Assignment) × (xs ≡ a ∷ others)
a_head a [] e = absurd cc
a_head a (x ∷ xs) e = (xs, (let same : a ≡ x = cc in ap (λ (y : Assignment). y ∷ xs) (sym same)))

module _ (one : OneList) (model : FznModel) (rule : IsSearchOf model) (options : Options) (results : List FirstEnd) (closed : IsOpen results → ⊥) where
  abbrev Is : ℕ → Option Bounds → FirstEnd → Type 0
  Is = IsFirstResult model options results

  -- an end that is one of what the number leads to gives the head of its list
  done_head : (number : ℕ) (path : Option Bounds) (answer : Option Assignment) (own : List Assignment) → Is number path (FirstEnd.Done answer) →
      SolutionsOf model (kernels_of model) path own → answer ≡ head_of own
  done_head number None answer own h s = h ∙ ap head_of (sym s)
  done_head number (Some sub) answer own h s = h.is_head ∙ ap head_of (one model (kernels_of model) sub h.solutions own rule h.listed s)

  -- no lesser number has a solution
  abbrev NoneBefore : ℕ → Type 0
  NoneBefore number = (j : ℕ) (a : Assignment) → j < number → StandsAt results j (FirstEnd.Done (Some a)) → ⊥

  abbrev AreRest : ℕ → List FirstEnd → Type 0
  AreRest number rs = (j : ℕ) (r : FirstEnd) → StandsAt rs j r → StandsAt results (number + j) r

  not_cut : (number : ℕ) (path : Option Bounds) (lesser : ℕ) → NoneBefore number → Is number path (FirstEnd.Cut lesser) → ⊥
  not_cut number path lesser none h = none lesser h.0 h.1 h.2

  rest_after : (number : ℕ) (r : FirstEnd) (rs : List FirstEnd) → AreRest number (r ∷ rs) → AreRest (suc number) rs
  rest_after number r rs rest j s h =
      let same : number + suc j ≡ suc number + j = omega arith in
      subst (λ (n : ℕ). StandsAt results n s) same (rest (suc j) s (stands_later r rs j s h))

  first_there : (number : ℕ) (r : FirstEnd) (rs : List FirstEnd) → AreRest number (r ∷ rs) → StandsAt results number r
  first_there number r rs rest = let same : number + 0 ≡ number = omega arith in subst (λ (n : ℕ). StandsAt results n r) same (rest 0 r (stands_first r rs))

  none_after : (number : ℕ) (rs : List FirstEnd) → AreRest number (FirstEnd.Done None ∷ rs) → NoneBefore number → NoneBefore (suc number)
  none_after number rs rest none j a below h = elim (cases_lt j number) [
    | inl l ↦ none j a l h
    | inr l ↦ let same : number + 0 ≡ j = omega arith in
        let e = one_entry results j (FirstEnd.Done None) (FirstEnd.Done (Some a))
        (subst (λ (n : ℕ). StandsAt results n (FirstEnd.Done None)) same (rest 0 (FirstEnd.Done None) (stands_first (FirstEnd.Done None) rs))) h in
        absurd cc
  ]

  heads : (number : ℕ) (paths : List (Option Bounds)) (rs : List FirstEnd) (found : List Assignment) → Along Is number paths rs →
      SolutionsOfAll model (kernels_of model) paths found → AreRest number rs → NoneBefore number →
      take 1 (flat_map first_collected rs) ≡ take 1 found
  heads number [] [] found h s rest none = ap (take 1) (sym s)
  heads number [] (r ∷ rs) found h s rest none = absurd h
  heads number (p ∷ ps) [] found h s rest none = absurd h
  heads number (p ∷ ps) (FirstEnd.Spent nodes why ∷ rs) found h s rest none =
      absurd (closed (number, record { nodes = nodes; why = why; stopped = first_there number (FirstEnd.Spent nodes why) rs rest; none_before = none }))
  heads number (p ∷ ps) (FirstEnd.Cut lesser ∷ rs) found h s rest none = absurd (not_cut number p lesser none h.0)
  heads number (p ∷ ps) (FirstEnd.Done None ∷ rs) found h (own, others, is_own, are_others, e) rest none =
      let empty = no_head own (done_head number p None own h.0 is_own) in
      heads (suc number) ps rs others h.1 are_others
      (rest_after number (FirstEnd.Done None) rs rest) (none_after number rs rest none)
      ∙ ap (take 1) (sym (e ∙ ap (λ (xs : List Assignment). xs ++ others) empty))
  heads number (p ∷ ps) (FirstEnd.Done (Some a) ∷ rs) found h (own, others, is_own, are_others, e) rest none =
      let head = a_head a own (done_head number p (Some a) own h.0 is_own) in
      ap (take 1) (sym (e ∙ ap (λ (xs : List Assignment). xs ++ others) head.1))

-- the first of all solutions
pub first_of_all : (one : OneList) (laws : PathLaws) (by_parts : ListedByParts) (model : FznModel) (options : Options) (parts : List Part) (are_parts : AreParts parts) (b : Bounds) (results : List FirstEnd) (found : List Assignment) →
    CanBeCut model (kernels_of model) b → AreFirstResults model options parts b results → (IsOpen results → ⊥) → SolutionsIn model (kernels_of model) b found →
    take 1 (flat_map first_collected results) ≡ take 1 found
first_of_all one laws by_parts model options parts are_parts b results found can are closed s =
    let paths = every_at laws model (kernels_of model) parts b are_parts.each can in
    heads one model can.search options results closed 0 paths.0 results found
    (results_along laws model can.search parts b paths.0 paths.1 (IsFirstResult model options results) results are)
    (by_parts model (kernels_of model) parts b paths.0 found can are_parts paths.1 s)
    (λ (j : ℕ) (r : FirstEnd) (h : StandsAt results j r). let same : j ≡ 0 + j = omega arith in subst (λ (n : ℕ). StandsAt results n r) same h)
    (λ (j : ℕ) (a : Assignment) (below : j < 0) (h : StandsAt results j (FirstEnd.Done (Some a))). omega arith)

-- ---- all solutions

module _ (one : OneList) (model : FznModel) (rule : IsSearchOf model) (options : Options) where
  done_all : (number : ℕ) (path : Option Bounds) (given own : List Assignment) → IsAllResult model options number path (AllEnd.Done given) →
      SolutionsOf model (kernels_of model) path own → given ≡ own
  done_all number None given own h s = same given h ∙ sym s
    where
      same : (given : List Assignment) → AllEnd.Done given ≡ AllEnd.Done [] → given ≡ []
      same given e = cc
  done_all number (Some sub) given own h s = one model (kernels_of model) sub given own rule h.listed s

  lists : (number : ℕ) (paths : List (Option Bounds)) (rs : List AllEnd) (found : List Assignment) → Along (IsAllResult model options) number paths rs →
      SolutionsOfAll model (kernels_of model) paths found → All (λ r. IsAllSpent r → ⊥) rs → flat_map all_collected rs ≡ found
  lists number [] [] found h s unspent = sym s
  lists number [] (r ∷ rs) found h s unspent = absurd h
  lists number (p ∷ ps) [] found h s unspent = absurd h
  lists number (p ∷ ps) (AllEnd.Spent nodes why given ∷ rs) found h s unspent =
      absurd (All-head (λ r. IsAllSpent r → ⊥) (AllEnd.Spent nodes why given) rs unspent tt)
  lists number (p ∷ ps) (AllEnd.Done given ∷ rs) found h (own, others, is_own, are_others, e) unspent =
      ap (λ (xs : List Assignment). xs ++ flat_map all_collected rs) (done_all number p given own h.0 is_own)
      ∙ ap (λ (xs : List Assignment). own ++ xs) (lists (suc number) ps rs others h.1 are_others (All-tail (λ r. IsAllSpent r → ⊥) (AllEnd.Done given) rs unspent))
      ∙ sym e

-- the list of all solutions
pub all_of_all : (one : OneList) (laws : PathLaws) (by_parts : ListedByParts) (model : FznModel) (options : Options) (parts : List Part) (are_parts : AreParts parts) (b : Bounds) (results : List AllEnd) (found : List Assignment) →
    CanBeCut model (kernels_of model) b → AreResults model parts b (IsAllResult model options) results → All (λ r. IsAllSpent r → ⊥) results → SolutionsIn model (kernels_of model) b found →
    flat_map all_collected results ≡ found
all_of_all one laws by_parts model options parts are_parts b results found can are unspent s =
    let paths = every_at laws model (kernels_of model) parts b are_parts.each can in
    lists one model can.search options 0 paths.0 results found
    (results_along laws model can.search parts b paths.0 paths.1 (IsAllResult model options) results are)
    (by_parts model (kernels_of model) parts b paths.0 found can are_parts paths.1 s) unspent
