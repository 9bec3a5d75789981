-- The numbers of a solution are bounds, and its objective is one of its numbers or one of the model.
use Rattle.std.proofs.Common.{◌≢◌, ℕ, ℤ, ◌≤ℤ◌, List, [], ◌∷◌, length, All, refl, sym, subst, arith}
use Rattle.std.proofs.lemmas.Int.{ints}
use Rattle.std.proofs.lemmas.List.Elements.{All-nil, All-cons, All-head, All-tail}
use Rattle.interval.specs.Limits.{IsNumber, IsBound, largest_number, bound_limit}
use Rattle.constraint_model.specs.declared.model.Term.{Term}
use Rattle.constraint_model.specs.declared.model.VarDecl.{VarDecl}
use Rattle.constraint_model.specs.declared.model.Goal.{Goal}
use Rattle.constraint_model.specs.declared.model.FznModel.{FznModel}
use Rattle.constraint_model.specs.Numbers.{IsInProfile, largest}
use Rattle.constraint_model.specs.Relations.{IsWithin, IsSolution}
use Rattle.constraint_model.specs.WellFormed.{IsDeclaration, IsGoalOf}
use Rattle.search.specs.Costs.{IsTermIn, IsObjectiveIn}
use Rattle.answer.proofs.ObjectiveLaws.{within_length}

profile_number : (z : ℤ) → IsInProfile z → IsNumber z
unfolding largest largest_number
profile_number z h = h

number_bound : (z : ℤ) → IsNumber z → IsBound z
unfolding largest_number bound_limit
number_bound z h = omega (arith, h)

between : (low z high : ℤ) → IsNumber low → IsNumber high → low ≤ℤ z → z ≤ℤ high → IsNumber z
between low z high l h a b = omega (arith, ints)

pub bounds_within : (a : List ℤ) (vars : List VarDecl) → All IsDeclaration vars → IsWithin a vars → All IsBound a
bounds_within [] vars d w = All-nil IsBound
bounds_within (z ∷ zs) [] d w = absurd w
bounds_within (z ∷ zs) (x ∷ xs) d w =
    let r = All-head IsDeclaration x xs d in
    All-cons IsBound z zs (number_bound z (between x.low z x.high (profile_number x.low r.low) (profile_number x.high r.high) w.0 w.1)) (bounds_within zs xs (All-tail IsDeclaration x xs d) w.2)

term_in : (vars : List VarDecl) (t : Term) → IsGoalOf vars (Goal.Minimize t) → IsTermIn (length vars) t
term_in vars (Term.Number n) g = profile_number n g.0
term_in vars (Term.Var v) g = g.inside

objective_in : (vars : List VarDecl) (goal : Goal) → goal ≢ Goal.Satisfy → IsGoalOf vars goal → IsObjectiveIn (length vars) goal
objective_in vars Goal.Satisfy o g = absurd (o refl)
objective_in vars (Goal.Minimize t) o g = term_in vars t g
objective_in vars (Goal.Maximize t) o g = term_in vars t g

pub objective_of : (model : FznModel) (a : List ℤ) → model.goal ≢ Goal.Satisfy → IsGoalOf model.vars model.goal → IsSolution model a → IsObjectiveIn (length a) model.goal
objective_of model a o g s = subst (λ (n : ℕ). IsObjectiveIn n model.goal) (sym (within_length a model.vars s.within)) (objective_in model.vars model.goal o g)
