-- Searches that are kept over their turns: in a turn so much work is done, and the next one goes on where it ended.
use Rattle.std.specs.Prelude.{◌≡◌, ◌≢◌, ℕ, ℤ, ◌-ℤ◌, pos, ◌<ℤ◌, List, [], length, Option, Some, None, IfSome}
use Rattle.std.specs.Int.{int_min}
use Rattle.interval.specs.Limits.{IsNumber}
use Rattle.interval.specs.Boxes.{Bounds, IsInside, IsInRange}
use Rattle.guarded_tell.specs.declared.kernel.Kernel.{Kernel}
use Rattle.constraint_model.specs.declared.model.Goal.{Goal}
use Rattle.constraint_model.specs.declared.model.FznModel.{FznModel}
use Rattle.constraint_model.specs.Relations.{cost_of}
use Rattle.branching.specs.Tree.{SolutionsIn}
use Rattle.solution_lists.specs.Solutions.{SolvesInside}
use Rattle.solution_lists.specs.Static.{IsStaticSearch, Precedes}
use Rattle.search.specs.declared.kind.Kind.{Kind}
use Rattle.search.specs.declared.run.Run.{Run}
use Rattle.search.specs.declared.first_turns.FirstTurn.{FirstTurn}
use Rattle.search.specs.declared.first_turns.FirstTurns.{FirstTurns}
use Rattle.search.specs.declared.least_turns.LeastTurn.{LeastTurn}
use Rattle.search.specs.declared.least_turns.LeastTurns.{LeastTurns}
use Rattle.search.specs.Costs.{IsBelow, IsAtMost}
use Rattle.search.specs.Machine.{MayFall, Reached}
use Rattle.search.specs.Ends.{search_in, head_of}
use Rattle.search.specs.LeastEnds.{least_in, last_of}
use Rattle.search.specs.Stacks.{boxes_of, count_of, IsReady}
use Rattle.search.specs.Weights.{weight_of}

-- ---- the first solution

-- the box that is searched
abbrev pub first_asked : FirstTurns → Bounds
first_asked turns = turns.sub

-- how many nodes are left at most
abbrev pub first_left : FirstTurns → ℕ
first_left turns = weight_of (boxes_of turns.searcher)

-- no limit is set, the box lies in the program's start, and its search has come to a state where nothing is found
pub record IsFirstTurns {L : Type 0} (run : Run L) (turns : FirstTurns) : Type 0 where
  pub no_node_limit : run.node_limit ≡ 0
  pub no_round_limit : run.round_limit ≡ 0
  pub inside : IsInside (first_asked turns) run.program.now.start
  pub in_range : IsInRange (first_asked turns)
  pub ready : IsReady run turns.searcher
  pub same_count : count_of turns.searcher ≡ length (first_asked turns)
  pub count : ℕ
  pub reached : Reached (search_in run Kind.First (first_asked turns))
      (record { stack = boxes_of turns.searcher; best = None; count = count; found = [] })

-- it is the first of all solutions in the box, or none where there is none
abbrev pub IsFirstOf : FznModel → List Kernel → Bounds → Option (List ℤ) → Type 0
IsFirstOf model kernels sub answer = (solutions : List (List ℤ)) → SolutionsIn model kernels sub solutions → answer ≡ head_of solutions

-- the turn has the answer, or is paused
abbrev pub IsFirstTurn : FznModel → List Kernel → Bounds → FirstTurn → Type 0
IsFirstTurn model kernels sub (FirstTurn.Done answer) = IsFirstOf model kernels sub answer
IsFirstTurn model kernels sub FirstTurn.Paused = Unit {0}

-- p holds, if the turn is paused
abbrev pub IfFirstPaused : FirstTurn → Type 0 → Type 0
IfFirstPaused (FirstTurn.Done answer) p = Unit {0}
IfFirstPaused FirstTurn.Paused p = p

-- ---- the least cost

-- the box that is searched
abbrev pub least_asked : LeastTurns → Bounds
least_asked turns = turns.sub

-- the least cost that was given or found, and the solution that was found last
abbrev pub lowest_of : LeastTurns → Option ℤ
lowest_of turns = turns.lowest

abbrev pub found_last : LeastTurns → Option (List ℤ)
found_last turns = turns.last

-- how many nodes are left at most
abbrev pub least_left : LeastTurns → ℕ
least_left turns = weight_of (boxes_of turns.searcher)

-- the lesser of two costs, where there are such
abbrev pub lesser : Option ℤ → Option ℤ → Option ℤ
lesser None other = other
lesser (Some cost) None = Some cost
lesser (Some cost) (Some other) = Some (int_min cost other)

-- No limit is set, there is an objective, and the box lies in the program's start. Its search has come to a state, with some
-- costs posted; the best cost there stays or falls to the least one, and the last solution is what was recorded last.
pub record IsLeastTurns {L : Type 0} (run : Run L) (turns : LeastTurns) : Type 0 where
  pub no_node_limit : run.node_limit ≡ 0
  pub no_round_limit : run.round_limit ≡ 0
  pub objective : run.model.now.goal ≢ Goal.Satisfy
  pub inside : IsInside (least_asked turns) run.program.now.start
  pub in_range : IsInRange (least_asked turns)
  pub ready : IsReady run turns.searcher
  pub same_count : count_of turns.searcher ≡ length (least_asked turns)
  pub number : IfSome (lowest_of turns) IsNumber
  pub posted : List ℤ
  pub best : Option ℤ
  pub count : ℕ
  pub found : List (List ℤ)
  pub reached : Reached (least_in run posted (least_asked turns))
      (record { stack = boxes_of turns.searcher; best = best; count = count; found = found })
  pub falls : MayFall posted best (lowest_of turns)
  pub is_last : found_last turns ≡ last_of found

-- the solution that was found last lies in the box and costs less than the best before, and its cost is the least now
pub record FindsBetter (model : FznModel) (best : Option ℤ) (before after : LeastTurns) : Type 0 where
  pub solution : List ℤ
  pub is_last : found_last after ≡ Some solution
  pub solves : SolvesInside model (least_asked before) solution
  pub costs : cost_of model.goal solution ≡ lowest_of after
  pub below : (cost : ℤ) → lowest_of after ≡ Some cost → IsBelow cost best

-- each solution in the box costs at least so much; and where no cost is given there is none
abbrev pub CostsAtLeast : FznModel → Bounds → Option ℤ → Type 0
CostsAtLeast model sub lowest = (a : List ℤ) (cost : ℤ) → SolvesInside model sub a → cost_of model.goal a ≡ Some cost → IsAtMost lowest cost

-- each solution in the box that precedes it costs more
abbrev pub IsFirstOfItsCost : FznModel → Bounds → List ℤ → Type 0
IsFirstOfItsCost model sub a = (other : List ℤ) (cost more : ℤ) → SolvesInside model sub other → Precedes model other a →
    cost_of model.goal a ≡ Some cost → cost_of model.goal other ≡ Some more → cost <ℤ more

-- a solution was found that is better than what was given and found before; or what was found last stays, and the least cost
-- is that of what was given and found before
abbrev pub IsLeastTurn : FznModel → Option ℤ → LeastTurns → LeastTurns → LeastTurn → Type 0
IsLeastTurn model best before after LeastTurn.Found = FindsBetter model (lesser (lowest_of before) best) before after
IsLeastTurn model best before after LeastTurn.Done = (found_last after ≡ found_last before) × (lowest_of after ≡ lesser (lowest_of before) best)
IsLeastTurn model best before after LeastTurn.Paused = (found_last after ≡ found_last before) × (lowest_of after ≡ lesser (lowest_of before) best)

-- p holds, if the search is at its end, if it isn't, and if the turn is paused
abbrev pub IfLeastDone : LeastTurn → Type 0 → Type 0
IfLeastDone LeastTurn.Found p = Unit {0}
IfLeastDone LeastTurn.Done p = p
IfLeastDone LeastTurn.Paused p = Unit {0}

abbrev pub UnlessLeastDone : LeastTurn → Type 0 → Type 0
UnlessLeastDone LeastTurn.Found p = p
UnlessLeastDone LeastTurn.Done p = Unit {0}
UnlessLeastDone LeastTurn.Paused p = p

abbrev pub IfLeastPaused : LeastTurn → Type 0 → Type 0
IfLeastPaused LeastTurn.Found p = Unit {0}
IfLeastPaused LeastTurn.Done p = Unit {0}
IfLeastPaused LeastTurn.Paused p = p

-- ---- a box that is cut below a cost

-- the cut box lies in the box; it has the solutions there that cost less, and no others
pub record IsCutBelow (model : FznModel) (best : ℤ) (before after : Bounds) : Type 0 where
  pub inside : IsInside after before
  pub has : (a : List ℤ) (cost : ℤ) → SolvesInside model before a → cost_of model.goal a ≡ Some cost → cost <ℤ best → SolvesInside model after a
  pub below : (a : List ℤ) (cost : ℤ) → SolvesInside model after a → cost_of model.goal a ≡ Some cost → cost <ℤ best
