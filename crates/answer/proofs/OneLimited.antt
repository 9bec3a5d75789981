-- With the limit on rounds pinned a model has one answer, where it has no objective or one worker searches.
use Rattle.std.proofs.Common.{◌≡◌, ◌≢◌, ◌⊎◌, inl, inr, ℤ, ◌≤ℤ◌, ◌<ℤ◌, Bool, true, false, List, [], ◌∷◌, ◌++◌, take, flat_map, All, Any, Option, None, Some, refl, sym, ap, subst, subst₂, ◌∙◌, arith}
use Rattle.std.proofs.lemmas.Int.{ints}
use Rattle.std.proofs.lemmas.List.Elements.{All-head, All-tail}
use Rattle.constraint_model.specs.declared.model.Goal.{Goal}
use Rattle.constraint_model.specs.declared.model.FznModel.{FznModel}
use Rattle.constraint_model.specs.Searches.{IsSearchOf}
use Rattle.decompose.specs.Program.{start_of}
use Rattle.branching.specs.Tree.{OneList}
use Rattle.subproblems.specs.Paths.{PathLaws}
use Rattle.search.specs.declared.ends.AllEnd.{AllEnd}
use Rattle.search.specs.Laws.{AreRoundsPinned, EndLaws}
use Rattle.fzn_print.specs.declared.answers.Answer.{Answer}
use Rattle.tree_cover.specs.declared.part.Part.{Part}
use Rattle.tree_cover.specs.Covers.{parts_to}
use Rattle.answer.specs.declared.options.Options.{Options}
use Rattle.answer.specs.Cuts.{cut_to}
use Rattle.answer.specs.Lists.{Assignment}
use Rattle.answer.specs.Results.{listed, first_of, AreFirstResults, first_collected, IsAllResult, all_collected, IsAllSpent, LeastResult, IsLeastResult, AreLeastResults, collected_in, IsLeastSpent}
use Rattle.answer.specs.Unfinished.{mark_where, CostsMore, CostsAsMuch, IsFirstLeast, IsBestOf, IsFirstCollected, AreAllCollected, IsBestCollected, IsLeastCollected, GivesCollected, IsUnfinished}
use Rattle.answer.specs.Unspent.{IsUnspentFirst, IsUnspentAll, IsUnspentLeast, IsUnspentFor}
use Rattle.answer.specs.Answers.{IsWhole, IsAnswer}
use Rattle.answer.proofs.ObjectiveLaws.{has_cost}
use Rattle.answer.proofs.GivenLaws.{some_limit, none_open, all_unlimited, least_unlimited, none_spent}
use Rattle.answer.proofs.OneFinished.{one_finished, same_answer, same_cost}
use Rattle.answer.proofs.OneResults.{first_agree, same_all, same_least}

none_of_any : {E : Type 0} (Spent : E → Type 0) (results : List E) → All (λ r. Spent r → ⊥) results → Any Spent results → ⊥
none_of_any Spent results all (k, x, l, e, s) = all k x l (subst Spent (sym e) s)

-- ---- the best of what was collected

module _ (goal : Goal) (objective : goal ≢ Goal.Satisfy) where
  less_than_itself : (x y : ℤ) → x <ℤ y → y ≤ℤ x → ⊥
  less_than_itself x y h k = omega (arith, ints)

  -- none costs less than one that costs less itself
  not_less : (a b : Assignment) → CostsMore goal a b → CostsAsMuch goal b a → ⊥
  not_less a b h k =
      let own = has_cost goal a objective in
      let its = has_cost goal b objective in
      less_than_itself own.0 its.0 (h own.0 its.0 own.1 its.1) (k its.0 own.0 its.1 own.1)

  behind : (P : Assignment → Type 0) (xs : List Assignment) (a : Assignment) (ys : List Assignment) → All P (xs ++ a ∷ ys) → P a
  behind P [] a ys h = All-head P a ys h
  behind P (x ∷ xs) a ys h = behind P xs a ys (All-tail P x (xs ++ a ∷ ys) h)

  -- the first of those that cost least is one
  one_least_place : (xs ys us vs : List Assignment) (a b : Assignment) → xs ++ a ∷ ys ≡ us ++ b ∷ vs → All (CostsMore goal a) xs → All (CostsAsMuch goal a) ys → All (CostsMore goal b) us → All (CostsAsMuch goal b) vs → a ≡ b
  one_least_place [] ys [] vs a b e more much least none = cc
  one_least_place [] ys (u ∷ us) vs a b e more much least none =
      let same : a ≡ u = cc in
      let rest : ys ≡ us ++ b ∷ vs = cc in
      let dearer = subst (CostsMore goal b) (sym same) (All-head (CostsMore goal b) u us least) in
      absurd (not_less b a dearer (behind (CostsAsMuch goal a) us b vs (subst (All (CostsAsMuch goal a)) rest much)))
  one_least_place (x ∷ xs) ys [] vs a b e more much least none =
      let same : x ≡ b = cc in
      let rest : xs ++ a ∷ ys ≡ vs = cc in
      let dearer = subst (CostsMore goal a) same (All-head (CostsMore goal a) x xs more) in
      absurd (not_less a b dearer (behind (CostsAsMuch goal b) xs a ys (subst (All (CostsAsMuch goal b)) (sym rest) none)))
  one_least_place (x ∷ xs) ys (u ∷ us) vs a b e more much least none =
      let rest : xs ++ a ∷ ys ≡ us ++ b ∷ vs = cc in
      one_least_place xs ys us vs a b rest (All-tail (CostsMore goal a) x xs more) much (All-tail (CostsMore goal b) u us least) none

  one_first_least : (collected : List Assignment) (a b : Assignment) → IsFirstLeast goal collected a → IsFirstLeast goal collected b → a ≡ b
  one_first_least collected a b h k =
      one_least_place h.before h.after k.before k.after a b (sym h.there ∙ k.there) h.before_cost_more h.after_cost_as_much k.before_cost_more k.after_cost_as_much

  nothing_least : (collected : List Assignment) (a : Assignment) → collected ≡ [] → IsFirstLeast goal collected a → ⊥
  nothing_least collected a empty h = no_front h.before a h.after (sym h.there ∙ empty)
    where
      no_front : (xs : List Assignment) (a : Assignment) (ys : List Assignment) → xs ++ a ∷ ys ≡ [] → ⊥
      no_front [] a ys e = let bad : a ∷ ys ≡ [] = e in cc
      no_front (x ∷ xs) a ys e = let bad : x ∷ (xs ++ a ∷ ys) ≡ [] = e in cc

  one_best : (collected : List Assignment) (a b : Option Assignment) → IsBestOf goal collected a → IsBestOf goal collected b → a ≡ b
  one_best collected None None h k = refl
  one_best collected None (Some b) h k = absurd (nothing_least collected b h k)
  one_best collected (Some a) None h k = absurd (nothing_least collected a k h)
  one_best collected (Some a) (Some b) h k = ap (λ (x : Assignment). Some x) (one_first_least collected a b h k)

-- the first of what was collected, or else the best
first_or_best : (xs ys : List Assignment) (a b : Assignment) → take 1 xs ≡ take 1 ys → a ≡ b → take 1 (xs ++ a ∷ []) ≡ take 1 (ys ++ b ∷ [])
first_or_best [] [] a b e best = ap (λ (x : Assignment). x ∷ []) best
first_or_best [] (y ∷ ys) a b e best = absurd (let bad : [] ≡ y ∷ [] = e in cc)
first_or_best (x ∷ xs) [] a b e best = absurd (let bad : x ∷ [] ≡ [] = e in cc)
first_or_best (x ∷ xs) (y ∷ ys) a b e best = e

module _ (ends : EndLaws) (laws : PathLaws) (one : OneList) (model : FznModel) (rule : IsSearchOf model) (options : Options) (pinned : AreRoundsPinned (first_of model options [])) where
  abbrev parts : List Part
  parts = parts_to options.depth

  -- ---- no objective

  module _ (satisfy : model.goal ≡ Goal.Satisfy) where
    module _ (first : options.all ≡ false) where
      first_left : (x : Answer) → IsUnfinished model options x → IsFirstCollected model options x
      first_left x h = subst₂ (λ (g : Goal) (all : Bool). GivesCollected g all model options x) satisfy first h

      not_both_firsts : (x y : Answer) → IsWhole model options x → IsUnfinished model options y → ⊥
      not_both_firsts x y h k =
          let left = first_left y k in
          let limit = some_limit options (λ no_nodes no_rounds. none_open model options no_nodes no_rounds parts (start_of model) left.results left.are left.is_open) in
          let unspent : IsUnspentFirst model options (start_of model) = subst₂ (λ (g : Goal) (all : Bool). IsUnspentFor g all model options) satisfy first (h.unspent limit) in
          unspent.none_open ((first_agree ends laws model rule options pinned parts (start_of model) left.results unspent.results left.are unspent.are).1 left.is_open)

      first_limited : (x y : Answer) → IsAnswer model options x → IsAnswer model options y → x ≡ y
      first_limited x y (inl h) (inl k) = one_finished one model rule options.all x y h.finished k.finished
      first_limited x y (inl h) (inr k) = absurd (not_both_firsts x y h k)
      first_limited x y (inr h) (inl k) = absurd (not_both_firsts y x k h)
      first_limited x y (inr h) (inr k) =
          let left = first_left x h in
          let right = first_left y k in
          let agree = first_agree ends laws model rule options pinned parts (start_of model) left.results right.results left.are right.are in
          let same = left.solutions ∙ agree.0 ∙ sym right.solutions in
          same_answer x y same (left.mark ∙ ap mark_where same ∙ sym right.mark)

    module _ (all : options.all ≡ true) where
      all_left : (x : Answer) → IsUnfinished model options x → AreAllCollected model options x
      all_left x h = subst₂ (λ (g : Goal) (every_one : Bool). GivesCollected g every_one model options x) satisfy all h

      not_both_alls : (x y : Answer) → IsWhole model options x → IsUnfinished model options y → ⊥
      not_both_alls x y h k =
          let left = all_left y k in
          let limit = some_limit options (λ no_nodes no_rounds. none_spent model parts (start_of model) (IsAllResult model options) IsAllSpent left.results left.are
          (all_unlimited model options no_nodes no_rounds) left.spent) in
          let unspent : IsUnspentAll model options = subst₂ (λ (g : Goal) (every_one : Bool). IsUnspentFor g every_one model options) satisfy all (h.unspent limit) in
          let same = same_all ends laws model rule options pinned parts unspent.results left.results unspent.are left.are in
          none_of_any IsAllSpent left.results (subst (λ (rs : List AllEnd). All (λ r. IsAllSpent r → ⊥) rs) same unspent.unspent) left.spent

      all_limited : (x y : Answer) → IsAnswer model options x → IsAnswer model options y → x ≡ y
      all_limited x y (inl h) (inl k) = one_finished one model rule options.all x y h.finished k.finished
      all_limited x y (inl h) (inr k) = absurd (not_both_alls x y h k)
      all_limited x y (inr h) (inl k) = absurd (not_both_alls y x k h)
      all_limited x y (inr h) (inr k) =
          let left = all_left x h in
          let right = all_left y k in
          let same = left.solutions ∙ ap (flat_map all_collected) (same_all ends laws model rule options pinned parts left.results right.results left.are right.are) ∙ sym right.solutions in
          same_answer x y same (left.mark ∙ ap mark_where same ∙ sym right.mark)

    satisfied : (all : Bool) → options.all ≡ all → (x y : Answer) → IsAnswer model options x → IsAnswer model options y → x ≡ y
    satisfied false e x y h k = first_limited e x y h k
    satisfied true e x y h k = all_limited e x y h k

  -- ---- an objective, and one worker

  module _ (objective : model.goal ≢ Goal.Satisfy) (sole : options.workers ≡ 1) where
    left_of : (goal : Goal) (all : Bool) (x : Answer) → goal ≢ Goal.Satisfy → GivesCollected goal all model options x → IsBestCollected model options x ⊎ IsLeastCollected model options x
    left_of Goal.Satisfy all x o h = absurd (o refl)
    left_of (Goal.Minimize t) all x o h = h
    left_of (Goal.Maximize t) all x o h = h

    unspent_of : (goal : Goal) (all : Bool) → goal ≢ Goal.Satisfy → IsUnspentFor goal all model options → IsUnspentLeast model options
    unspent_of Goal.Satisfy all o h = absurd (o refl)
    unspent_of (Goal.Minimize t) all o h = h
    unspent_of (Goal.Maximize t) all o h = h

    abbrev Spent : LeastResult → Type 0
    Spent result = IsLeastSpent result.1

    same_results : (results others : List LeastResult) → AreLeastResults model options parts results → AreLeastResults model options parts others → results ≡ others
    same_results results others h k = same_least ends laws model rule options pinned parts sole results others h k

    -- the first phase is stopped each time, or never
    not_both_phases : (results others : List LeastResult) → AreLeastResults model options parts results → AreLeastResults model options parts others → All (λ result. IsLeastSpent result.1 → ⊥) results →
        Any (λ result. IsLeastSpent result.1) others → ⊥
    not_both_phases results others h k unspent spent =
        none_of_any Spent others (subst (λ (rs : List LeastResult). All (λ result. IsLeastSpent result.1 → ⊥) rs) (same_results results others h k) unspent) spent

    not_whole_and_left : (x y : Answer) → IsWhole model options x → IsBestCollected model options y ⊎ IsLeastCollected model options y → ⊥
    not_whole_and_left x y h (inl k) =
        let limit = some_limit options (λ no_nodes no_rounds. none_spent model parts (start_of model) (IsLeastResult model options k.are.posted) Spent k.results k.are.are
        (least_unlimited model options no_nodes no_rounds k.are.posted) k.spent) in
        let unspent = unspent_of model.goal options.all objective (h.unspent limit) in
        not_both_phases unspent.results k.results unspent.are k.are unspent.unspent k.spent
    not_whole_and_left x y h (inr k) =
        let cut = cut_to model.goal k.cost (start_of model) in
        let limit = some_limit options (λ no_nodes no_rounds. none_open model options no_nodes no_rounds parts cut k.results k.are k.is_open) in
        let second = (unspent_of model.goal options.all objective (h.unspent limit)).second k.cost k.least in
        second.none_open ((first_agree ends laws model rule options pinned parts cut k.results second.results k.are second.are).1 k.is_open)

    one_best_left : (x y : Answer) → IsBestCollected model options x → IsBestCollected model options y → x ≡ y
    one_best_left x y h k =
        let results = same_results h.results k.results h.are k.are in
        let best = one_best model.goal objective (collected_in k.results) h.best k.best (subst (λ (rs : List LeastResult). IsBestOf model.goal (collected_in rs) h.best) results h.is_best) k.is_best in
        let same = h.solutions ∙ ap listed best ∙ sym k.solutions in
        same_answer x y same (h.mark ∙ ap mark_where same ∙ sym k.mark)

    one_least_left : (x y : Answer) → IsLeastCollected model options x → IsLeastCollected model options y → x ≡ y
    one_least_left x y h k =
        let cost = same_cost model h.cost k.cost h.least k.least in
        let results = same_results h.found.results k.found.results h.found.are k.found.are in
        let best = one_first_least model.goal objective (collected_in k.found.results) h.best k.best
        (subst (λ (rs : List LeastResult). IsFirstLeast model.goal (collected_in rs) h.best) results h.found.is_best) k.found.is_best in
        let cut = cut_to model.goal k.cost (start_of model) in
        let are = subst (λ (c : ℤ). AreFirstResults model options parts (cut_to model.goal c (start_of model)) h.results) cost h.are in
        let agree = first_agree ends laws model rule options pinned parts cut h.results k.results are k.are in
        let same = h.solutions ∙ first_or_best (flat_map first_collected h.results) (flat_map first_collected k.results) h.best k.best agree.0 best ∙ sym k.solutions in
        same_answer x y same (h.mark ∙ sym k.mark)

    one_left : (x y : Answer) → IsBestCollected model options x ⊎ IsLeastCollected model options x → IsBestCollected model options y ⊎ IsLeastCollected model options y → x ≡ y
    one_left x y (inl h) (inl k) = one_best_left x y h k
    one_left x y (inl h) (inr k) = absurd (not_both_phases k.found.results h.results k.found.are h.are k.found.unspent h.spent)
    one_left x y (inr h) (inl k) = absurd (not_both_phases h.found.results k.results h.found.are k.are h.found.unspent k.spent)
    one_left x y (inr h) (inr k) = one_least_left x y h k

    best_limited : (x y : Answer) → IsAnswer model options x → IsAnswer model options y → x ≡ y
    best_limited x y (inl h) (inl k) = one_finished one model rule options.all x y h.finished k.finished
    best_limited x y (inl h) (inr k) = absurd (not_whole_and_left x y h (left_of model.goal options.all y objective k))
    best_limited x y (inr h) (inl k) = absurd (not_whole_and_left y x k (left_of model.goal options.all x objective h))
    best_limited x y (inr h) (inr k) = one_left x y (left_of model.goal options.all x objective h) (left_of model.goal options.all y objective k)

  by_goal : (goal : Goal) → model.goal ≡ goal → (model.goal ≡ Goal.Satisfy) ⊎ (options.workers ≡ 1) → (x y : Answer) → IsAnswer model options x → IsAnswer model options y → x ≡ y
  by_goal goal e (inl satisfy) x y h k = satisfied satisfy options.all refl x y h k
  by_goal Goal.Satisfy e (inr sole) x y h k = satisfied e options.all refl x y h k
  by_goal (Goal.Minimize t) e (inr sole) x y h k = best_limited (λ satisfy. let bad : Goal.Minimize t ≡ Goal.Satisfy = sym e ∙ satisfy in cc) sole x y h k
  by_goal (Goal.Maximize t) e (inr sole) x y h k = best_limited (λ satisfy. let bad : Goal.Maximize t ≡ Goal.Satisfy = sym e ∙ satisfy in cc) sole x y h k

  pub one_limited : (model.goal ≡ Goal.Satisfy) ⊎ (options.workers ≡ 1) → (x y : Answer) → IsAnswer model options x → IsAnswer model options y → x ≡ y
  one_limited sole x y h k = by_goal model.goal refl sole x y h k

pub rounds_pinned : (options : Options) → (options.round_limit ≡ 0) ⊎ (options.lanes ≡ 1) → (options.lanes ≡ 1) ⊎ (options.round_limit ≡ 0)
rounds_pinned options (inl none) = inr none
rounds_pinned options (inr one) = inl one
