-- What a run for the least cost answers, and what it posts.
use Rattle.std.specs.Prelude.{◌≡◌, ℕ, ℤ, ◌≤ℤ◌, ◌<ℤ◌, List, [], ◌∷◌, ◌++◌, map, reverse, Option, Some, None, IfSome, Any, Contains}
use Rattle.interval.specs.Boxes.{Bounds}
use Rattle.constraint_model.specs.declared.model.Goal.{Goal}
use Rattle.constraint_model.specs.declared.model.FznModel.{FznModel}
use Rattle.constraint_model.specs.Relations.{cost_of, IsSolution}
use Rattle.best_bound.specs.Lists.{Among}
use Rattle.decompose.specs.declared.program.Program.{Program}
use Rattle.solution_lists.specs.Solutions.{SolvesInside}
use Rattle.search.specs.declared.kind.Kind.{Kind}
use Rattle.search.specs.declared.run.Run.{Run}
use Rattle.search.specs.declared.ends.LeastEnd.{LeastEnd}
use Rattle.search.specs.Machine.{Search, State, Reached}
use Rattle.search.specs.Ends.{EndsDone, EndsSpent}

-- the search of a box for the least cost, by so many lanes, with this cost known and these posted
abbrev pub least_of : FznModel → Program → ℕ → ℕ → ℕ → Option ℤ → List ℤ → Bounds → Search
least_of model program node_limit round_limit lanes known posted sub = record {
  model = model;
  kernels = program.kernels;
  sub = sub;
  kind = Kind.Least;
  node_limit = node_limit;
  round_limit = round_limit;
  lanes = lanes;
  known = known;
  posted = posted;
}

-- the search by a run, with no cost known
abbrev pub least_in : {L : Type 0} → Run L → List ℤ → Bounds → Search
least_in run posted sub = least_of run.model.now run.program.now run.node_limit run.round_limit run.lanes None posted sub

-- the search by a run, with this cost known and none posted
abbrev pub least_alone : {L : Type 0} → Run L → Option ℤ → Bounds → Search
least_alone run known sub = least_of run.model.now run.program.now run.node_limit run.round_limit run.lanes known [] sub

-- the cost of a solution of the model
pub record IsCost (model : FznModel) (cost : ℤ) : Type 0 where
  pub assignment : List ℤ
  pub solves : IsSolution model assignment
  pub costs : cost_of model.goal assignment ≡ Some cost

-- the costs of what was recorded were posted, one after the other, so that the last is the first of the list
pub record PostsCosts (goal : Goal) (found : List (List ℤ)) (before after : List ℤ) : Type 0 where
  pub costs : List ℤ
  pub each : map (cost_of goal) found ≡ map (λ (cost : ℤ). Some cost) (reverse costs)
  pub posted : after ≡ costs ++ before

-- what a seat has seen once it has posted the costs of what was recorded: all that it had seen, and costs as low
pub record SeesCosts (goal : Goal) (found : List (List ℤ)) (before after : List ℤ) : Type 0 where
  pub kept : (cost : ℤ) → Among before cost → Among after cost
  pub each : (a : List ℤ) (cost : ℤ) → Contains found a → cost_of goal a ≡ Some cost → Any (λ c. c ≤ℤ cost) after

-- the last of a list, or none where it is empty
abbrev pub last_of : List (List ℤ) → Option (List ℤ)
last_of [] = None
last_of (values ∷ []) = Some values
last_of (values ∷ other ∷ others) = last_of (other ∷ others)

-- the answer is what was recorded last
abbrev pub EndsLeast : Search → List (List ℤ) → LeastEnd → Type 0
EndsLeast s found (LeastEnd.Done answer) = EndsDone s found × (answer ≡ last_of found)
EndsLeast s found (LeastEnd.Spent nodes why so_far) = EndsSpent s why nodes found × (so_far ≡ last_of found)

-- the search ends, and what it recorded was posted
pub record IsLeastEnd (s : Search) (before after : List ℤ) (end : LeastEnd) : Type 0 where
  pub found : List (List ℤ)
  pub ends : EndsLeast s found end
  pub posts : PostsCosts s.model.goal found before after

-- the search is broken off in a state that it reaches, and what it recorded by then was posted
pub record IsBrokenOff (s : Search) (before after : List ℤ) : Type 0 where
  pub state : State
  pub reached : Reached s state
  pub posts : PostsCosts s.model.goal state.found before after

-- the assignment costs less than each of these costs
abbrev pub CostsLess : Goal → List ℤ → List ℤ → Type 0
CostsLess goal costs a = (cost c : ℤ) → cost_of goal a ≡ Some cost → Among costs c → cost <ℤ c

-- the solution that the end gives, if it gives one, costs less than each of these costs
abbrev pub CostsBelow : Goal → List ℤ → LeastEnd → Type 0
CostsBelow goal costs (LeastEnd.Done answer) = IfSome answer (CostsLess goal costs)
CostsBelow goal costs (LeastEnd.Spent nodes why so_far) = IfSome so_far (CostsLess goal costs)

-- each solution in the box costs at least one of these costs
abbrev pub CostAtLeast : FznModel → Bounds → List ℤ → Type 0
CostAtLeast model sub seen = (a : List ℤ) (cost : ℤ) → SolvesInside model sub a → cost_of model.goal a ≡ Some cost → Any (λ c. c ≤ℤ cost) seen

-- p holds, if the search is at its end
abbrev pub OnDone : LeastEnd → Type 0 → Type 0
OnDone (LeastEnd.Done answer) p = p
OnDone (LeastEnd.Spent nodes why so_far) p = Unit {0}
