-- What a run answers: that of the state in which its search ends.
use Rattle.std.specs.Prelude.{◌≡◌, ℕ, ◌<◌, ℤ, min, List, [], ◌∷◌, Option, Some, None}
use Rattle.interval.specs.Boxes.{Bounds}
use Rattle.constraint_model.specs.declared.model.FznModel.{FznModel}
use Rattle.decompose.specs.declared.program.Program.{Program}
use Rattle.branching.specs.Tree.{SolutionsIn}
use Rattle.best_bound.specs.Lists.{IsLeastNumber}
use Rattle.search.specs.declared.kind.Kind.{Kind}
use Rattle.search.specs.declared.run.Run.{Run}
use Rattle.search.specs.declared.ends.Why.{Why}
use Rattle.search.specs.declared.ends.FirstEnd.{FirstEnd}
use Rattle.search.specs.declared.ends.AllEnd.{AllEnd}
use Rattle.search.specs.Machine.{Search, State, Reached, IsDone, IsOutOfNodes, IsOutOfRounds}

-- the search of a box for the first solution or for all, by so many lanes; no cost is known or posted
abbrev pub search_of : FznModel → Program → ℕ → ℕ → ℕ → Kind → Bounds → Search
search_of model program node_limit round_limit lanes kind sub = record {
  model = model;
  kernels = program.kernels;
  sub = sub;
  kind = kind;
  node_limit = node_limit;
  round_limit = round_limit;
  lanes = lanes;
  known = None;
  posted = [];
}

-- the search by a run
abbrev pub search_in : {L : Type 0} → Run L → Kind → Bounds → Search
search_in run kind sub = search_of run.model.now run.program.now run.node_limit run.round_limit run.lanes kind sub

-- the search reaches its end, with these solutions
pub record EndsDone (s : Search) (found : List (List ℤ)) : Type 0 where
  pub state : State
  pub reached : Reached s state
  pub done : IsDone s state
  pub is_found : found ≡ state.found

-- how a count is told: as it is, or as the greatest number of 64 bits
abbrev pub told_count : ℕ → ℕ
told_count count = min count 18446744073709551615

-- the search is stopped by its limit on nodes, after so many and with these solutions
pub record EndsOutOfNodes (s : Search) (nodes : ℕ) (found : List (List ℤ)) : Type 0 where
  pub state : State
  pub reached : Reached s state
  pub out : IsOutOfNodes s state
  pub is_count : nodes ≡ told_count state.count
  pub is_found : found ≡ state.found

-- it is stopped by its limit on rounds
pub record EndsOutOfRounds (s : Search) (nodes : ℕ) (found : List (List ℤ)) : Type 0 where
  pub state : State
  pub out : IsOutOfRounds s state
  pub is_count : nodes ≡ told_count state.count
  pub is_found : found ≡ state.found

abbrev pub EndsSpent : Search → Why → ℕ → List (List ℤ) → Type 0
EndsSpent s Why.Nodes nodes found = EndsOutOfNodes s nodes found
EndsSpent s Why.Rounds nodes found = EndsOutOfRounds s nodes found

-- the head of a list, or none where it is empty
abbrev pub head_of : List (List ℤ) → Option (List ℤ)
head_of [] = None
head_of (values ∷ others) = Some values

-- the search for the first solution is at its end: the answer is what was recorded, and the head of all solutions in the box
pub record IsFirstDone (s : Search) (answer : Option (List ℤ)) : Type 0 where
  pub found : List (List ℤ)
  pub ends : EndsDone s found
  pub recorded : answer ≡ head_of found
  pub solutions : List (List ℤ)
  pub listed : SolutionsIn s.model s.kernels s.sub solutions
  pub is_head : answer ≡ head_of solutions

-- the search for all solutions is at its end: the answer is what was recorded, all solutions in the box
pub record IsAllDone (s : Search) (found : List (List ℤ)) : Type 0 where
  pub ends : EndsDone s found
  pub listed : SolutionsIn s.model s.kernels s.sub found

-- The run of subproblem `number` ends: the search is at its end, a limit has stopped it, or the least number that was seen,
-- of a subproblem that has a solution, is a lesser one.
abbrev pub IsFirstEnd : Search → ℕ → List ℕ → FirstEnd → Type 0
IsFirstEnd s number seen (FirstEnd.Done answer) = IsFirstDone s answer
IsFirstEnd s number seen (FirstEnd.Spent nodes why) = EndsSpent s why nodes []
IsFirstEnd s number seen (FirstEnd.Cut lesser) = (lesser < number) × IsLeastNumber seen (Some lesser)

-- the run is cut by a lesser number
abbrev pub IsCut : FirstEnd → Type 0
IsCut (FirstEnd.Done answer) = ⊥
IsCut (FirstEnd.Spent nodes why) = ⊥
IsCut (FirstEnd.Cut lesser) = Unit {0}

-- the number of the subproblem is posted where a solution was found, and nothing else
abbrev pub posts_of : ℕ → List ℕ → FirstEnd → List ℕ
posts_of number before (FirstEnd.Done (Some answer)) = number ∷ before
posts_of number before (FirstEnd.Done None) = before
posts_of number before (FirstEnd.Spent nodes why) = before
posts_of number before (FirstEnd.Cut lesser) = before

abbrev pub IsAllEnd : Search → AllEnd → Type 0
IsAllEnd s (AllEnd.Done found) = IsAllDone s found
IsAllEnd s (AllEnd.Spent nodes why found) = EndsSpent s why nodes found
