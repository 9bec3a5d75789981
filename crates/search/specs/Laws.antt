-- The laws of searches.
use Rattle.std.specs.Prelude.{◌≡◌, ◌≢◌, ◌⊎◌, ℕ, ◌+◌, ◌*◌, ◌≤◌, ◌<◌, ℤ, ◌<ℤ◌, List, [], ◌∷◌, ◌++◌, length, All, AllPairs, Any, Some, Contains}
use Rattle.interval.specs.Boxes.{Bounds, IsInRange, IsInside, width_sum_of}
use Rattle.guarded_tell.specs.declared.kernel.Kernel.{Kernel}
use Rattle.guarded_tell.specs.Kernels.{IsKernel}
use Rattle.fixpoint_laws.specs.Fixpoints.{IsClosed, Fails}
use Rattle.constraint_model.specs.declared.model.FznModel.{FznModel}
use Rattle.constraint_model.specs.Relations.{cost_of}
use Rattle.constraint_model.specs.Searches.{IsSearchOf}
use Rattle.constraint_model.specs.WellFormed.{IsGoalOf}
use Rattle.decompose.specs.declared.program.Program.{Program}
use Rattle.decompose.specs.Program.{IsProgramOf}
use Rattle.branching.specs.Points.{points_of}
use Rattle.branching.specs.Tree.{SolutionsIn}
use Rattle.solution_lists.specs.Solutions.{LiesIn, SolvesInside}
use Rattle.search.specs.declared.kind.Kind.{Kind}
use Rattle.search.specs.Costs.{IsBelow, IsAtMost}
use Rattle.search.specs.declared.ends.Why.{Why}
use Rattle.search.specs.Ends.{EndsDone, EndsSpent}
use Rattle.search.specs.Machine.{Search, State, cut_by, Step, Reached, IsDone, IsOutOfNodes, IsOutOfRounds}

-- a search of a box inside the start of a model's program
pub record IsInsideStart (s : Search) : Type 0 where
  pub program : Program
  pub means : IsProgramOf s.model program
  pub kernels : s.kernels ≡ program.kernels
  pub inside : IsInside s.sub program.start
  pub in_range : IsInRange s.sub
  pub phases : IsSearchOf s.model
  pub objective : IsGoalOf s.model.vars s.model.goal

-- what a search records are the model's solutions in its box
abbrev pub RecordsSolutions : Type 0
RecordsSolutions = (s : Search) (state : State) → IsInsideStart s → Reached s state →
    All (SolvesInside s.model s.sub) state.found

-- ---- searches for the first solution or for all

-- the solutions in the boxes of a stack, those of the last box first
abbrev pub SolutionsOn : FznModel → List Kernel → List Bounds → List (List ℤ) → Type 0
SolutionsOn model kernels [] found = found ≡ []
SolutionsOn model kernels (b ∷ bs) found =
    (first : List (List ℤ)) × ((own : List (List ℤ)) × (SolutionsOn model kernels bs first × (SolutionsIn model kernels b own × (found ≡ first ++ own))))

-- the solutions that a search has found, and then those in the boxes of its stack, are the solutions in its box; and there
-- are such
pub record PrefixLaws : Type 0 where
  pub all : (s : Search) (state : State) (rest : List (List ℤ)) → s.kind ≢ Kind.Least → Reached s state →
      SolutionsOn s.model s.kernels state.stack rest → SolutionsIn s.model s.kernels s.sub (state.found ++ rest)
  pub some : (s : Search) (state : State) → IsSearchOf s.model → length s.model.vars < length s.sub → IsInRange s.sub →
      All (IsKernel (length s.sub)) s.kernels → Reached s state →
      (rest : List (List ℤ)) × SolutionsOn s.model s.kernels state.stack rest

-- ---- searches for the least cost

-- each solution in the box costs at least the best so far, or lies in a box of the stack; what was recorded costs at least
-- the best; and the best was known, posted or recorded
pub record IsLeastSoFar (s : Search) (state : State) : Type 0 where
  pub covers : (a : List ℤ) (cost : ℤ) → SolvesInside s.model s.sub a → cost_of s.model.goal a ≡ Some cost →
      IsAtMost state.best cost ⊎ Any (LiesIn s.model a) state.stack
  pub recorded : (a : List ℤ) (cost : ℤ) → Contains state.found a → cost_of s.model.goal a ≡ Some cost →
      IsAtMost state.best cost
  pub origin : (cost : ℤ) → state.best ≡ Some cost →
      (s.known ≡ Some cost) ⊎ (Contains s.posted cost ⊎ Any (λ a. cost_of s.model.goal a ≡ Some cost) state.found)

abbrev pub FindsLeast : Type 0
FindsLeast = (s : Search) (state : State) → s.kind ≡ Kind.Least → IsInsideStart s → Reached s state → IsLeastSoFar s state

-- what a node records costs less than the best, where that stayed or had fallen to before it
abbrev pub RecordsBelow : Type 0
RecordsBelow = (s : Search) (before after : State) → s.kind ≡ Kind.Least → IsInsideStart s → Reached s before → (step : Step s before after) →
    (a : List ℤ) (cost : ℤ) → Contains step.recorded a → cost_of s.model.goal a ≡ Some cost → IsBelow cost step.best

-- each solution that is recorded costs less than all that were recorded before it
abbrev pub CostsFall : Type 0
CostsFall = (s : Search) (state : State) → s.kind ≡ Kind.Least → IsInsideStart s → Reached s state →
    AllPairs (λ a b. (c d : ℤ) → cost_of s.model.goal a ≡ Some c → cost_of s.model.goal b ≡ Some d → d <ℤ c) state.found

-- where more costs are posted a search reaches what it reached
abbrev pub MorePosted : Type 0
MorePosted = (s : Search) (more : List ℤ) (state : State) → ((cost : ℤ) → Contains s.posted cost → Contains more cost) →
    Reached s state → Reached (record s { posted = more }) state

-- where there is no limit on rounds it doesn't matter how many lanes propagate: by others a search reaches what it reached,
-- and ends as it ended
pub record LaneLaws : Type 0 where
  pub reached : (s : Search) (lanes : ℕ) (state : State) → s.round_limit ≡ 0 → Reached s state → Reached (record s { lanes = lanes }) state
  pub done : (s : Search) (lanes : ℕ) (found : List (List ℤ)) → s.round_limit ≡ 0 → EndsDone s found → EndsDone (record s { lanes = lanes }) found
  pub spent : (s : Search) (lanes : ℕ) (why : Why) (nodes : ℕ) (found : List (List ℤ)) → s.round_limit ≡ 0 →
      EndsSpent s why nodes found → EndsSpent (record s { lanes = lanes }) why nodes found

-- ---- ends

-- it is known where the limit on rounds stops a search: one lane propagates, or there is no limit
abbrev pub AreRoundsPinned : Search → Type 0
AreRoundsPinned s = (s.lanes ≡ 1) ⊎ (s.round_limit ≡ 0)

-- the search stops in the state: at its end or by its limit on nodes, or by that on rounds where it is known where that stops it
abbrev pub IsStopped : Search → State → Type 0
IsStopped s state = (Reached s state × (IsDone s state ⊎ IsOutOfNodes s state)) ⊎ (AreRoundsPinned s × IsOutOfRounds s state)

-- with no cost posted a search stops in one state; and never both at its end and by a limit, nor by both limits
pub record EndLaws : Type 0 where
  pub one_end : (s : Search) (state other : State) → IsSearchOf s.model → s.posted ≡ [] → IsStopped s state → IsStopped s other → state ≡ other
  pub not_both : (s : Search) (state : State) → IsDone s state → IsOutOfNodes s state → ⊥
  pub not_given_up : (s : Search) (state other : State) → IsSearchOf s.model → s.posted ≡ [] → AreRoundsPinned s → Reached s state →
      IsDone s state ⊎ IsOutOfNodes s state → IsOutOfRounds s other → ⊥

-- the limit on nodes stops no search of a box of q points where it is at least 2q - 1, nor that on rounds one of a box whose
-- widths are below it; and under a limit of one round each box that has its node fails or is closed
pub record LimitLaws : Type 0 where
  pub nodes : (s : Search) (state : State) → IsInsideStart s → Reached s state → 2 * points_of s.sub ≤ s.node_limit + 1 →
      IsOutOfNodes s state → ⊥
  pub rounds : (s : Search) (state : State) → IsInsideStart s → width_sum_of s.sub < s.round_limit → IsOutOfRounds s state → ⊥
  pub one_round : (s : Search) (before after : State) → s.round_limit ≡ 1 → (step : Step s before after) →
      Fails (cut_by s.kind s.model.goal step.best step.top) s.kernels ⊎ IsClosed (cut_by s.kind s.model.goal step.best step.top) s.kernels
