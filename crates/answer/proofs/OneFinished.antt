-- A model has one finished answer.
use Rattle.std.proofs.Common.{◌≡◌, ℤ, ◌≤ℤ◌, inl, inr, Bool, true, false, List, [], ◌∷◌, Contains, refl, sym, ap, subst, ◌∙◌, arith}
use Rattle.std.proofs.lemmas.Int.{ints}
use Rattle.interval.specs.Boxes.{Bounds}
use Rattle.constraint_model.specs.declared.model.Goal.{Goal}
use Rattle.constraint_model.specs.declared.model.FznModel.{FznModel}
use Rattle.constraint_model.specs.Relations.{IsSolution}
use Rattle.constraint_model.specs.Searches.{IsSearchOf}
use Rattle.decompose.specs.Kernels.{kernels_of}
use Rattle.decompose.specs.Program.{start_of}
use Rattle.branching.specs.Tree.{OneList, SolutionsIn}
use Rattle.fzn_print.specs.declared.answers.Answer.{Answer}
use Rattle.answer.specs.Least.{IsLeastCost}
use Rattle.answer.specs.Cuts.{cut_to}
use Rattle.answer.specs.Lists.{Assignment, ListsInOrder}
use Rattle.answer.specs.Finished.{IsFirst, AreAll, IsOptimal, Gives, IsFinished}

pub same_answer : (a b : Answer) → a.solutions ≡ b.solutions → a.mark ≡ b.mark → a ≡ b
same_answer a b e m = λ i. record { solutions = e i; mark = m i }

both : (x y : ℤ) → x ≤ℤ y → y ≤ℤ x → x ≡ y
both x y h k = omega (arith, ints)

first_in : (a : Assignment) (others : List Assignment) → Contains (a ∷ others) a
first_in a others = (0, omega arith, refl)

heads : (a b : Assignment) (xs ys : List Assignment) → a ∷ xs ≡ b ∷ ys → a ≡ b
heads a b xs ys e = cc

-- one cost is the least
pub same_cost : (model : FznModel) (cost other : ℤ) → IsLeastCost model cost → IsLeastCost model other → cost ≡ other
same_cost model cost other h k =
    both cost other (h.least k.some.assignment other k.some.solves k.some.costs) (k.least h.some.assignment cost h.some.solves h.some.costs)

module _ (one : OneList) (model : FznModel) (rule : IsSearchOf model) where
  same_list : (b c : Bounds) (IsOne IsOther : Assignment → Type 0) (found others : List Assignment) → b ≡ c → ListsInOrder model b IsOne found → ListsInOrder model c IsOther others → found ≡ others
  same_list b c IsOne IsOther found others e h k =
      one model (kernels_of model) c found others rule (subst (λ (d : Bounds). SolutionsIn model (kernels_of model) d found) e h.in_order) k.in_order

  one_first : (a b : Answer) → IsFirst model a → IsFirst model b → a ≡ b
  one_first a b h k =
      let e = same_list (start_of model) (start_of model) (IsSolution model) (IsSolution model) (h.first ∷ h.others) (k.first ∷ k.others) refl h.listed k.listed in
      same_answer a b (h.solutions ∙ ap (λ (x : Assignment). x ∷ []) (heads h.first k.first h.others k.others e) ∙ sym k.solutions) (h.mark ∙ sym k.mark)

  one_all : (a b : Answer) → AreAll model a → AreAll model b → a ≡ b
  one_all a b h k =
      let e = same_list (start_of model) (start_of model) (IsSolution model) (IsSolution model) (h.first ∷ h.others) (k.first ∷ k.others) refl h.listed k.listed in
      same_answer a b (h.solutions ∙ e ∙ sym k.solutions) (h.mark ∙ sym k.mark)

  one_optimal : (a b : Answer) → IsOptimal model a → IsOptimal model b → a ≡ b
  one_optimal a b h k =
      let cost = same_cost model h.cost k.cost h.least k.least in
      let e = same_list (cut_to model.goal h.cost (start_of model)) (cut_to model.goal k.cost (start_of model)) _ _ (h.first ∷ h.others) (k.first ∷ k.others)
      (ap (λ (c : ℤ). cut_to model.goal c (start_of model)) cost) h.listed k.listed in
      same_answer a b (h.solutions ∙ ap (λ (x : Assignment). x ∷ []) (heads h.first k.first h.others k.others e) ∙ sym k.solutions) (h.mark ∙ sym k.mark)

  -- whatever gives what is asked for has a solution
  has_solution : (goal : Goal) (all : Bool) (a : Answer) → Gives goal all model a → (x : Assignment) × IsSolution model x
  has_solution Goal.Satisfy false a h = (h.first, (h.listed.each h.first).0 (first_in h.first h.others))
  has_solution Goal.Satisfy true a h = (h.first, (h.listed.each h.first).0 (first_in h.first h.others))
  has_solution (Goal.Minimize t) all a h = (h.first, ((h.listed.each h.first).0 (first_in h.first h.others)).solves)
  has_solution (Goal.Maximize t) all a h = (h.first, ((h.listed.each h.first).0 (first_in h.first h.others)).solves)

  one_given : (goal : Goal) (all : Bool) (a b : Answer) → Gives goal all model a → Gives goal all model b → a ≡ b
  one_given Goal.Satisfy false a b h k = one_first a b h k
  one_given Goal.Satisfy true a b h k = one_all a b h k
  one_given (Goal.Minimize t) all a b h k = one_optimal a b h k
  one_given (Goal.Maximize t) all a b h k = one_optimal a b h k

  pub one_finished : (all : Bool) (a b : Answer) → IsFinished model all a → IsFinished model all b → a ≡ b
  one_finished all a b (inl h) (inl k) = same_answer a b (h.solutions ∙ sym k.solutions) (h.mark ∙ sym k.mark)
  one_finished all a b (inl h) (inr k) = let x = has_solution model.goal all b k in absurd (h.none x.0 x.1)
  one_finished all a b (inr h) (inl k) = let x = has_solution model.goal all a h in absurd (k.none x.0 x.1)
  one_finished all a b (inr h) (inr k) = one_given model.goal all a b h k
