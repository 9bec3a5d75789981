-- What is known of the objective of an answer.
use Rattle.std.proofs.Common.{◌≡◌, inl, inr, ℤ, Bool, true, false, List, [], ◌∷◌, Option, None, Result, Ok, Err, IfOk, All, refl, sym, ap, subst, ◌∙◌}
use Rattle.constraint_model.specs.declared.model.FznModel.{FznModel}
use Rattle.constraint_model.specs.declared.model.Goal.{Goal}
use Rattle.constraint_model.specs.Relations.{IsSolution}
use Rattle.fzn_print.specs.declared.marks.Mark.{Mark}
use Rattle.command_line.specs.declared.words.Options.{Options}
use Rattle.fzn_print.specs.declared.answers.Answer.{Answer}
use Rattle.answer.specs.Lists.{Assignment}
use Rattle.answer.specs.declared.options.Options.{Options as SearchOptions}
use Rattle.answer.specs.Finished.{Gives, IsFinished, IsUnsatisfiable}
use Rattle.answer.specs.Answers.{IsAnswer}
use Rattle.answer.specs.Laws.{IsMarkedOpen, UnfinishedMarks}
use Rattle.solver_top.specs.Answers.{IsAnswerWith, IsKnownObjective, first_objective, known_at, known_objective, search_options}

-- by the mark
known_by : (goal : Goal) (answer : Answer) (mark : Mark) → answer.mark ≡ mark → known_objective goal answer ≡ known_at mark (first_objective goal answer.solutions)
known_by goal answer mark is = ap (λ m. known_at m (first_objective goal answer.solutions)) is

none_known : (model : FznModel) (goal : Goal) (answer : Answer) → IsUnsatisfiable model answer → known_objective goal answer ≡ first_objective goal answer.solutions
none_known model goal answer none = known_by goal answer Mark.Unsatisfiable none.mark ∙ sym (ap (first_objective goal) none.solutions)

given_known : (goal : Goal) (all : Bool) (model : FznModel) (answer : Answer) → Gives goal all model answer → known_objective goal answer ≡ first_objective goal answer.solutions
given_known Goal.Satisfy false model answer gives = known_by Goal.Satisfy answer Mark.Plain gives.mark ∙ sym (ap (first_objective Goal.Satisfy) gives.solutions)
given_known Goal.Satisfy true model answer gives = known_by Goal.Satisfy answer Mark.Complete gives.mark
given_known (Goal.Minimize t) all model answer gives = known_by (Goal.Minimize t) answer Mark.Complete gives.mark
given_known (Goal.Maximize t) all model answer gives = known_by (Goal.Maximize t) answer Mark.Complete gives.mark

finished_known : (model : FznModel) (all : Bool) (answer : Answer) → IsFinished model all answer → known_objective model.goal answer ≡ first_objective model.goal answer.solutions
finished_known model all answer (inl none) = none_known model model.goal answer none
finished_known model all answer (inr gives) = given_known model.goal all model answer gives

unknown : (goal : Goal) (answer : Answer) (solutions : List Assignment) → answer.solutions ≡ solutions → IsMarkedOpen answer → known_objective goal answer ≡ None
unknown goal answer [] is marked = known_by goal answer Mark.Unknown (marked.unknown is)
unknown goal answer (a ∷ others) is marked = known_by goal answer Mark.Plain (marked.plain (λ none. let bad : a ∷ others ≡ [] = sym is ∙ none in cc))

pub objective_known : UnfinishedMarks → (model : FznModel) (options : Options) (answer : Answer) → IsAnswer model (search_options options) answer
    → IsKnownObjective model options answer (known_objective model.goal answer)
objective_known marks model options answer (inl whole) = inl (whole, finished_known model options.all answer whole.finished)
objective_known marks model options answer (inr left) = inr (left, unknown model.goal answer answer.solutions refl (marks model (search_options options) answer left))

-- what the search answers
pub answered_with : {E : Type 0} (options : Options) (model : FznModel) (r : Result Answer E) (o : SearchOptions) → o ≡ search_options options
    → IfOk r (λ a. IsAnswer model o a) → (o.node_limit ≡ 0 → o.round_limit ≡ 0 → IfOk r (λ a. IsFinished model o.all a)) → IfOk r (λ a. All (IsSolution model) a.solutions) → IfOk r (IsAnswerWith options model)
answered_with options model (Err e) o is ends whole solve = tt
answered_with options model (Ok a) o is ends whole solve =
    let all : o.all ≡ options.all = ap (λ p. p.all) is in
    record {
      is_answer = subst (λ p. IsAnswer model p a) is ends;
      whole = λ no_nodes no_rounds. subst (λ b. IsFinished model b a) all (whole (ap (λ p. p.node_limit) is ∙ no_nodes) (ap (λ p. p.round_limit) is ∙ no_rounds));
      solve = solve;
    }

-- what is said of the objective is what is known of it
pub known_is : UnfinishedMarks → (model : FznModel) (options : Options) (answer : Answer) (objective : Option ℤ) → IsKnownObjective model options answer objective → objective ≡ known_objective model.goal answer
known_is marks model options answer objective (inl (whole, is)) = is ∙ sym (finished_known model options.all answer whole.finished)
known_is marks model options answer objective (inr (left, is)) = is ∙ sym (unknown model.goal answer answer.solutions refl (marks model (search_options options) answer left))
