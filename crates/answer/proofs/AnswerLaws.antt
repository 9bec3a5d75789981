-- What answers have in common: how many solutions they give, which mark, and which solution.
use Rattle.std.proofs.Common.{◌≡◌, ◌≢◌, ◌⊎◌, inl, inr, zero, suc, ◌≤◌, Bool, true, false, List, [], ◌∷◌, ◌++◌, length, take, flat_map, Option, None, Some, Contains, refl, sym, ap, subst, ◌∙◌, arith}
use Rattle.std.specs.Prelude.{AllPairs}
use Rattle.constraint_model.specs.declared.model.Goal.{Goal}
use Rattle.constraint_model.specs.declared.model.FznModel.{FznModel}
use Rattle.solution_lists.specs.Order.{IsBefore, IsLeastSolution, IsPlainSearch}
use Rattle.fzn_print.specs.declared.marks.Mark.{Mark}
use Rattle.answer.specs.declared.options.Options.{Options}
use Rattle.fzn_print.specs.declared.answers.Answer.{Answer}
use Rattle.answer.specs.Lists.{Assignment, ListsSolutions}
use Rattle.answer.specs.Results.{listed, first_collected}
use Rattle.answer.specs.Finished.{IsFirst, Gives, IsFinished}
use Rattle.answer.specs.Unfinished.{mark_where, IsLeastCollected, GivesCollected, IsUnfinished}
use Rattle.answer.specs.Answers.{IsAnswer}
use Rattle.answer.specs.Laws.{IsMarkedOpen}

-- ---- one solution at most

of_none : (xs : List Assignment) → xs ≡ [] → length xs ≤ 1
of_none xs e = let l = ap length e in omega (arith, l)

of_one : (xs : List Assignment) (a : Assignment) → xs ≡ a ∷ [] → length xs ≤ 1
of_one xs a e = let l = ap length e in omega (arith, l)

taken : (xs : List Assignment) → length (take 1 xs) ≤ 1
taken [] = omega arith
taken (x ∷ xs) = omega arith

of_taken : (xs ys : List Assignment) → xs ≡ take 1 ys → length xs ≤ 1
of_taken xs ys e = subst (λ (zs : List Assignment). length zs ≤ 1) (sym e) (taken ys)

of_listed : (xs : List Assignment) (best : Option Assignment) → xs ≡ listed best → length xs ≤ 1
of_listed xs None e = of_none xs e
of_listed xs (Some a) e = of_one xs a e

module _ (model : FznModel) (options : Options) (answer : Answer) where
  one_given : (g : Goal) (all : Bool) → (g ≢ Goal.Satisfy) ⊎ (all ≡ false) → Gives g all model answer → length answer.solutions ≤ 1
  one_given Goal.Satisfy false o h = of_one answer.solutions h.first h.solutions
  one_given Goal.Satisfy true (inl k) h = absurd (k refl)
  one_given Goal.Satisfy true (inr e) h = absurd (let f : true ≡ false = e in cc)
  one_given (Goal.Minimize t) all o h = of_one answer.solutions h.first h.solutions
  one_given (Goal.Maximize t) all o h = of_one answer.solutions h.first h.solutions

  one_collected : (g : Goal) (all : Bool) → (g ≢ Goal.Satisfy) ⊎ (all ≡ false) → GivesCollected g all model options answer → length answer.solutions ≤ 1
  one_collected Goal.Satisfy false o h = of_taken answer.solutions (flat_map first_collected h.results) h.solutions
  one_collected Goal.Satisfy true (inl k) h = absurd (k refl)
  one_collected Goal.Satisfy true (inr e) h = absurd (let f : true ≡ false = e in cc)
  one_collected (Goal.Minimize t) all o (inl h) = of_listed answer.solutions h.best h.solutions
  one_collected (Goal.Minimize t) all o (inr h) = of_taken answer.solutions (flat_map first_collected h.results ++ h.best ∷ []) h.solutions
  one_collected (Goal.Maximize t) all o (inl h) = of_listed answer.solutions h.best h.solutions
  one_collected (Goal.Maximize t) all o (inr h) = of_taken answer.solutions (flat_map first_collected h.results ++ h.best ∷ []) h.solutions

  pub gives_one : (model.goal ≢ Goal.Satisfy) ⊎ (options.all ≡ false) → IsAnswer model options answer → length answer.solutions ≤ 1
  gives_one o (inl h) = one_finished h.finished
    where
      one_finished : IsFinished model options.all answer → length answer.solutions ≤ 1
      one_finished (inl k) = of_none answer.solutions k.solutions
      one_finished (inr k) = one_given model.goal options.all o k
  gives_one o (inr h) = one_collected model.goal options.all o h

-- ---- the marks of an unfinished answer

plain_where : (xs : List Assignment) → xs ≢ [] → mark_where xs ≡ Mark.Plain
plain_where [] k = absurd (k refl)
plain_where (x ∷ xs) k = refl

marked : (answer : Answer) → answer.mark ≡ mark_where answer.solutions → IsMarkedOpen answer
marked answer e = record { plain = λ k. e ∙ plain_where answer.solutions k; unknown = λ k. e ∙ ap mark_where k }

some_taken : (xs : List Assignment) (best : Assignment) → take 1 (xs ++ best ∷ []) ≢ []
some_taken [] best e = let f : best ∷ [] ≡ [] = e in cc
some_taken (x ∷ xs) best e = let f : x ∷ [] ≡ [] = e in cc

module _ (model : FznModel) (options : Options) (answer : Answer) where
  least_marked : IsLeastCollected model options answer → IsMarkedOpen answer
  least_marked h = record { plain = λ k. h.mark; unknown = λ k. absurd (some_taken (flat_map first_collected h.results) h.best (sym h.solutions ∙ k)) }

  collected_marked : (g : Goal) (all : Bool) → GivesCollected g all model options answer → IsMarkedOpen answer
  collected_marked Goal.Satisfy false h = marked answer h.mark
  collected_marked Goal.Satisfy true h = marked answer h.mark
  collected_marked (Goal.Minimize t) all (inl h) = marked answer h.mark
  collected_marked (Goal.Minimize t) all (inr h) = least_marked h
  collected_marked (Goal.Maximize t) all (inl h) = marked answer h.mark
  collected_marked (Goal.Maximize t) all (inr h) = least_marked h

  pub unfinished_marks : IsUnfinished model options answer → IsMarkedOpen answer
  unfinished_marks h = collected_marked model.goal options.all h

-- ---- the least solution

-- what is in a list in order is its first entry, or comes after it
first_or_later : (a : Assignment) (others : List Assignment) (x : Assignment) → AllPairs IsBefore (a ∷ others) → Contains (a ∷ others) x → (a ≡ x) ⊎ IsBefore a x
first_or_later a others x pairs (zero, h, e) = inl e
first_or_later a others x pairs (suc k, h, e) = inr (subst (IsBefore a) e (pairs 0 (suc k) x (omega arith) h))

first_least : (model : FznModel) (a : Assignment) (others : List Assignment) → IsPlainSearch model → ListsSolutions model (a ∷ others) → IsLeastSolution model a
first_least model a others plain l = record {
  solves = (l.each a).0 (0, omega arith, refl);
  least = λ b s. first_or_later a others b (l.plain plain) ((l.each b).1 s);
}

heads : (a b : Assignment) (xs ys : List Assignment) → a ∷ xs ≡ b ∷ ys → a ≡ b
heads a b xs ys e = cc

module _ (model : FznModel) (answer : Answer) (a : Assignment) (plain : IsPlainSearch model) (e : answer.solutions ≡ a ∷ []) where
  given_least : IsFirst model answer → IsLeastSolution model a
  given_least h = subst (IsLeastSolution model) (heads h.first a [] [] (sym h.solutions ∙ e)) (first_least model h.first h.others plain h.listed)

  pub gives_smallest : model.goal ≡ Goal.Satisfy → IsFinished model false answer → IsLeastSolution model a
  gives_smallest satisfy (inl h) = absurd (let f : a ∷ [] ≡ [] = sym e ∙ h.solutions in cc)
  gives_smallest satisfy (inr h) = given_least (subst (λ (g : Goal). Gives g false model answer) satisfy h)
