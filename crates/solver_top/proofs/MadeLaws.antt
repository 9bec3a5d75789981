-- A made text has a model and no fault, and without a limit the search of the model comes to its least cost.
use Rattle.std.proofs.Common.{◌≡◌, ◌-◌, inl, inr, ℕ, zero, ℤ, Bool, List, Option, Some, refl, sym, ap, subst, ◌∙◌, arith}
use Rattle.constraint_model.specs.declared.model.FznModel.{FznModel}
use Rattle.constraint_model.specs.declared.model.Goal.{Goal}
use Rattle.constraint_model.specs.declared.model.Term.{Term}
use Rattle.constraint_model.specs.Relations.{IsSolution, cost_of}
use Rattle.command_line.specs.declared.words.Options.{Options}
use Rattle.fzn_print.specs.declared.answers.Answer.{Answer}
use Rattle.answer.specs.Finished.{Gives, IsFinished, IsOptimal}
use Rattle.made_model.specs.Made.{made, summary}
use Rattle.made_laws.specs.Models.{HasSolvedModel, MadeHasModel, spaced}
use Rattle.model_text.specs.Texts.{IsFaultOf, IsTextOf}
use Rattle.solver_top.specs.Answers.{IsKnownObjective, first_objective, known_at, known_objective}
use Rattle.solver_top.specs.MadeTexts.{MadeLinesSayLeast, MadeTextsHaveModels, MadeTextsHaveNoFault}

text_of : (n : ℕ) (w : HasSolvedModel n (made n)) → IsTextOf (made n) w.model
text_of n w = record { short = w.short; items = w.items; read = record { tokens = w.tokens; lexed = w.lexed; parsed = w.parsed }; resolved = w.resolved }

pub models : MadeHasModel → MadeTextsHaveModels
models made_has n two few = let w = made_has n two few in (w.model, text_of n w)

pub no_fault : MadeHasModel → ((text : List ℕ) (m : FznModel) (k at : ℕ) → IsTextOf text m → IsFaultOf text k at → ⊥) → MadeTextsHaveNoFault
no_fault made_has never n kind line two few fault = let w = made_has n two few in never (made n) w.model kind fault.at (text_of n w) fault.fault

-- what is known of an answer that gives a solution of least cost
optimal_known : (model : FznModel) (t : Term) (answer : Answer) (w : IsOptimal model answer) → model.goal ≡ Goal.Minimize t → known_objective model.goal answer ≡ Some w.cost
optimal_known model t answer w goal =
    let listed = (w.listed.each w.first).0 (zero, omega arith, refl) in
    ap (λ g. known_objective g answer) goal
    ∙ (ap (λ m. known_at m (first_objective (Goal.Minimize t) answer.solutions)) w.mark
    ∙ (ap (first_objective (Goal.Minimize t)) w.solutions
    ∙ (ap (λ g. cost_of g w.first) (sym goal) ∙ subst (λ xs. cost_of model.goal w.first ≡ Some w.cost) w.solutions listed.costs)))

-- a finished answer of a model with a solution gives one of least cost
given : (model : FznModel) (t : Term) (all : Bool) (answer : Answer) (a : List ℤ) → model.goal ≡ Goal.Minimize t → IsSolution model a → IsFinished model all answer → IsOptimal model answer
given model t all answer a goal solves (inl none) = absurd (none.none a solves)
given model t all answer a goal solves (inr gives) = subst (λ g. Gives g all model answer) goal gives

-- the line of a made text says the least cost, where no limit is set
pub lines_say : MadeHasModel → ((text : List ℕ) (m n : FznModel) → IsTextOf text m → IsTextOf text n → m ≡ n)
    → ((model : FznModel) (options : Options) (answer : Answer) (objective : Option ℤ) → IsKnownObjective model options answer objective → objective ≡ known_objective model.goal answer)
    → MadeLinesSayLeast
lines_say made_has one known options n bytes two few none line =
    let w = made_has n two few in
    let same : w.model ≡ line.model = one (made n) w.model line.model (text_of n w) line.is_model in
    let goal : line.model.goal ≡ Goal.Minimize (Term.Var (n - 1)) = ap (λ (m : FznModel). m.goal) (sym same) ∙ w.goal in
    let solves : IsSolution line.model (spaced n) = subst (λ (m : FznModel). IsSolution m (spaced n)) same w.solved in
    let best = given line.model (Term.Var (n - 1)) options.all line.answer (spaced n) goal solves (line.is_answer.whole none.0 none.1) in
    record {
      model = line.model;
      is_model = line.is_model;
      least = best.cost;
      is_least = best.least;
      printed = line.printed ∙ ap (summary n) (known line.model options line.answer line.objective line.known ∙ optimal_known line.model (Term.Var (n - 1)) line.answer best goal);
    }
