-- The limited search as a machine: a stack of boxes, the best cost so far, a count of nodes, and what was recorded.
--
-- Source: depth-first branch and bound by propagation and branching, as the FlatZinc chapter of the MiniZinc Handbook has
-- it in its solve items and search annotations.
use Rattle.std.specs.Prelude.{◌≡◌, ◌≢◌, ◌↔◌, ◌⊎◌, ℕ, ◌+◌, ◌<◌, ℤ, pos, ◌-ℤ◌, List, [], ◌∷◌, ◌++◌, Option, Some, None, Contains}
use Rattle.interval.specs.Boxes.{Bounds}
use Rattle.guarded_tell.specs.declared.kernel.Kernel.{Kernel}
use Rattle.fixpoint_laws.specs.Fixpoints.{IsClosed, IsGreatest, Fails}
use Rattle.constraint_model.specs.declared.model.Goal.{Goal}
use Rattle.constraint_model.specs.declared.model.FznModel.{FznModel}
use Rattle.constraint_model.specs.Relations.{cost_of}
use Rattle.branching.specs.Parts.{IsBranch}
use Rattle.moved_fixpoint.specs.Sweeps.{SpendsSweeps}
use Rattle.narrowing.specs.Narrowing.{AreFew, MayGiveUp}
use Rattle.branching.specs.Tree.{AreFixed, values_of}
use Rattle.search.specs.declared.kind.Kind.{Kind}
use Rattle.search.specs.Costs.{IsBelow, at_most}

-- what is searched, for what, how far (0 is no limit), by how many lanes, which cost is the best that is known when it begins,
-- and which costs are posted while it runs
pub record Search : Type 0 where
  pub model : FznModel
  pub kernels : List Kernel
  pub sub : Bounds
  pub kind : Kind
  pub node_limit : ℕ
  pub round_limit : ℕ
  pub lanes : ℕ
  pub known : Option ℤ
  pub posted : List ℤ

-- the boxes that are still to be searched, the next one last; the best cost; how many nodes there were; and the solutions
-- in their order
pub record State : Type 0 where
  pub stack : List Bounds
  pub best : Option ℤ
  pub count : ℕ
  pub found : List (List ℤ)

-- the best cost stays, or falls to a posted one
abbrev pub MayFall : List ℤ → Option ℤ → Option ℤ → Type 0
MayFall posted best after = (after ≡ best) ⊎ ((cost : ℤ) × (Contains posted cost × (IsBelow cost best × (after ≡ Some cost))))

-- a search for the least cost looks at the part of a box that costs less than the best; others at the whole box
abbrev pub cut_by : Kind → Goal → Option ℤ → Bounds → Bounds
cut_by Kind.Least goal (Some best) b = at_most goal (best -ℤ pos 1) b
cut_by Kind.Least goal None b = b
cut_by Kind.First goal best b = b
cut_by Kind.All goal best b = b

-- there, the best cost falls to that of what was recorded
abbrev pub best_after : Kind → Goal → Option ℤ → List (List ℤ) → Option ℤ
best_after Kind.Least goal best [] = best
best_after Kind.Least goal best (values ∷ others) = cost_of goal values
best_after Kind.First goal best recorded = best
best_after Kind.All goal best recorded = best

-- a box was narrowed within the limit on rounds (0: none): by so many, one exactly where it was closed before
pub record IsWithinRounds (kernels : List Kernel) (round_limit : ℕ) (b : Bounds) : Type 0 where
  pub rounds : ℕ
  pub in_one : (rounds ≡ 1) ↔ IsClosed b kernels
  pub few : AreFew round_limit b rounds

-- What a node makes of its box: the boxes that come back onto the stack, and what is recorded. A box that fails is dropped;
-- one whose greatest closed box fixes each declared variable is recorded; another gives its right and its left part, so
-- that the left one is next. That greatest closed box was found within the limit on rounds.
pub data Node : FznModel → List Kernel → ℕ → Bounds → List Bounds → List (List ℤ) → Type 0 where
  is_dropped : (model : FznModel) (kernels : List Kernel) (round_limit : ℕ) (b : Bounds) (back : List Bounds) (recorded : List (List ℤ)) →
      Fails b kernels → back ≡ [] → recorded ≡ [] → Node model kernels round_limit b back recorded
  is_solved : (model : FznModel) (kernels : List Kernel) (round_limit : ℕ) (b : Bounds) (back : List Bounds) (recorded : List (List ℤ)) (g : Bounds) →
      IsGreatest g b kernels → IsWithinRounds kernels round_limit b → AreFixed model g → back ≡ [] → recorded ≡ values_of model g ∷ [] →
      Node model kernels round_limit b back recorded
  is_parted : (model : FznModel) (kernels : List Kernel) (round_limit : ℕ) (b : Bounds) (back : List Bounds) (recorded : List (List ℤ))
      (g left right : Bounds) → IsGreatest g b kernels → IsWithinRounds kernels round_limit b → IsBranch model g left right →
      back ≡ right ∷ left ∷ [] → recorded ≡ [] → Node model kernels round_limit b back recorded

-- the last box of the stack is taken, once the best cost has fallen or stayed
pub record Takes (s : Search) (state : State) (best : Option ℤ) (rest : List Bounds) (top : Bounds) : Type 0 where
  pub falls : MayFall s.posted state.best best
  pub taken : state.stack ≡ rest ++ top ∷ []

-- one node; by one lane only where as many rounds as the limit don't each move what it looks at
pub record Step (s : Search) (before after : State) : Type 0 where
  pub best : Option ℤ
  pub rest : List Bounds
  pub top : Bounds
  pub back : List Bounds
  pub recorded : List (List ℤ)
  pub takes : Takes s before best rest top
  pub node : Node s.model s.kernels s.round_limit (cut_by s.kind s.model.goal best top) back recorded
  pub unspent : s.lanes ≡ 1 → SpendsSweeps s.kernels s.round_limit (cut_by s.kind s.model.goal best top) → ⊥
  pub stack : after.stack ≡ rest ++ back
  pub falls : after.best ≡ best_after s.kind s.model.goal best recorded
  pub count : after.count ≡ before.count + 1
  pub found : after.found ≡ before.found ++ recorded

-- a search goes on below its limit on nodes; one for the first solution alone only until it has recorded
pub record GoesOn (s : Search) (state : State) : Type 0 where
  pub below : (s.node_limit ≡ 0) ⊎ (state.count < s.node_limit)
  pub sought : s.kind ≡ Kind.First → state.found ≡ []

-- the states of the search of a box: the box alone with the best cost that is known, and what comes of a state by a node
pub data Reached : Search → State → Type 0 where
  begun : (s : Search) (state : State) → state.stack ≡ s.sub ∷ [] → state.best ≡ s.known → state.count ≡ 0 →
      state.found ≡ [] → Reached s state
  stepped : (s : Search) (before after : State) → Reached s before → GoesOn s before → Step s before after → Reached s after

-- the search is at its end: no box is left, or the first solution is recorded and no other is asked for
abbrev pub IsDone : Search → State → Type 0
IsDone s state = (state.stack ≡ []) ⊎ ((s.kind ≡ Kind.First) × (state.found ≢ []))

-- the limit on nodes has stopped the search: as many nodes as it allows, and a box is left
pub record IsOutOfNodes (s : Search) (state : State) : Type 0 where
  pub limited : s.node_limit ≢ 0
  pub full : state.count ≡ s.node_limit
  pub left : state.stack ≢ []
  pub sought : s.kind ≡ Kind.First → state.found ≡ []

-- the limit on rounds has stopped the search: its last node was given up, and its box stays; by one lane only where as many
-- rounds as the limit each moved what it looked at
pub record IsOutOfRounds (s : Search) (state : State) : Type 0 where
  pub before : State
  pub reached : Reached s before
  pub goes_on : GoesOn s before
  pub rest : List Bounds
  pub top : Bounds
  pub takes : Takes s before state.best rest top
  pub given_up : MayGiveUp s.kernels s.round_limit (cut_by s.kind s.model.goal state.best top)
  pub spent : s.lanes ≡ 1 → SpendsSweeps s.kernels s.round_limit (cut_by s.kind s.model.goal state.best top)
  pub stack : state.stack ≡ before.stack
  pub count : state.count ≡ before.count + 1
  pub found : state.found ≡ before.found
