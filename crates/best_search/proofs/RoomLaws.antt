-- Costs are bounds, so that only so many plans come one after another.
use Rattle.std.proofs.Common.{◌≡◌, ◌≢◌, ℕ, zero, suc, ℤ, pos, neg_ℤ, ◌≤ℤ◌, ◌<ℤ◌, ◌<◌, List, [], ◌∷◌, length, All, Option, Some, None, refl, sym, subst, arith}
use Rattle.std.proofs.lemmas.Int.{ints}
use Rattle.std.proofs.lemmas.List.Elements.{All-nil, All-cons, All-head, All-tail}
use Rattle.std.specs.Prelude.{slice_index_or, IfSome}
use Rattle.interval.specs.Limits.{IsNumber, IsBound, largest_number, bound_limit}
use Rattle.constraint_model.specs.declared.model.Term.{Term}
use Rattle.constraint_model.specs.declared.model.VarDecl.{VarDecl}
use Rattle.constraint_model.specs.declared.model.Goal.{Goal}
use Rattle.constraint_model.specs.declared.model.FznModel.{FznModel}
use Rattle.constraint_model.specs.Numbers.{IsInProfile, largest}
use Rattle.constraint_model.specs.Relations.{IsWithin, IsSolution, cost_of, value}
use Rattle.constraint_model.specs.WellFormed.{IsDeclaration, IsGoalOf, IsWellFormed}
use Rattle.search.specs.LeastEnds.{IsCost}
use Rattle.search.specs.Costs.{IsBelow}
use Rattle.best_search.specs.Plans.{IsCheaper}
use Rattle.best_search.specs.Searches.{room_of}

profile_bound : (z : ℤ) → IsInProfile z → IsBound z
unfolding largest largest_number bound_limit
profile_bound z h = omega (arith, h)

between : (low z high : ℤ) → IsBound low → IsBound high → low ≤ℤ z → z ≤ℤ high → IsBound z
between low z high l h a b = omega (arith, ints)

bound_zero : IsBound (pos 0)
bound_zero = omega arith

opposite : (z : ℤ) → IsBound z → IsBound (neg_ℤ z)
opposite z h = omega (arith, ints)

at_bound : (a : List ℤ) (vars : List VarDecl) (v : ℕ) → All IsDeclaration vars → IsWithin a vars → IsBound (slice_index_or a v (pos 0))
at_bound [] vars v d w = bound_zero
at_bound (z ∷ zs) [] v d w = absurd w
at_bound (z ∷ zs) (x ∷ xs) zero d w =
    let r = All-head IsDeclaration x xs d in
    between x.low z x.high (profile_bound x.low r.low) (profile_bound x.high r.high) w.0 w.1
at_bound (z ∷ zs) (x ∷ xs) (suc v) d w = at_bound zs xs v (All-tail IsDeclaration x xs d) w.2

value_bound : (a : List ℤ) (vars : List VarDecl) (t : Term) → All IsDeclaration vars → IsWithin a vars → IsGoalOf vars (Goal.Minimize t) → IsBound (value a t)
value_bound a vars (Term.Number n) d w g = profile_bound n g.0
value_bound a vars (Term.Var v) d w g = at_bound a vars v d w

same_some : (x y : ℤ) → Some x ≡ Some y → x ≡ y
same_some x y e = cc

cost_bound : (goal : Goal) (a : List ℤ) (vars : List VarDecl) (cost : ℤ) → All IsDeclaration vars → IsWithin a vars → IsGoalOf vars goal → cost_of goal a ≡ Some cost → IsBound cost
cost_bound Goal.Satisfy a vars cost d w g e = absurd (let k : None ≡ Some cost = e in cc)
cost_bound (Goal.Minimize t) a vars cost d w g e = subst IsBound (same_some (value a t) cost e) (value_bound a vars t d w g)
cost_bound (Goal.Maximize t) a vars cost d w g e = subst IsBound (same_some (neg_ℤ (value a t)) cost e) (opposite (value a t) (value_bound a vars t d w g))

-- the cost of a solution is a bound
pub is_bound : (model : FznModel) → IsWellFormed model → (a : List ℤ) (cost : ℤ) → IsSolution model a → cost_of model.goal a ≡ Some cost → IsBound cost
is_bound model form a cost s e = cost_bound model.goal a model.vars cost form.vars s.within form.objective e

less_room : (x y : ℤ) → IsBound x → IsBound y → x <ℤ y → room_of (Some x) < room_of (Some y)
less_room x y h k l = omega (arith, ints)

first_room : (x : ℤ) → IsBound x → room_of (Some x) < room_of None
first_room x h = omega (arith, ints)

falls : (before : Option ℤ) (x : ℤ) → IsBound x → IfSome before IsBound → IsBelow x before → room_of (Some x) < room_of before
falls None x h k l = first_room x h
falls (Some y) x h k l = less_room x y h k l

bounds : (model : FznModel) → IsWellFormed model → (cost : Option ℤ) → IfSome cost (IsCost model) → IfSome cost IsBound
bounds model form None h = tt
bounds model form (Some cost) h = is_bound model form h.assignment cost h.solves h.costs

-- after a cheaper plan fewer may come
pub room_falls : (model : FznModel) → IsWellFormed model → (before after : Option ℤ) (plan : List ℤ) → IfSome before (IsCost model) → IsCheaper model before after plan → room_of after < room_of before
room_falls model form before after plan was is =
    subst (λ (o : Option ℤ). room_of o < room_of before) (sym is.is_cost)
    (falls before is.cost (is_bound model form plan is.cost is.solves (subst (λ (o : Option ℤ). cost_of model.goal plan ≡ o) is.is_cost is.costs)) (bounds model form before was) is.below)
