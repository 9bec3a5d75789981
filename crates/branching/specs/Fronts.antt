-- How far a search has come in the order in which the model lists its phases and their variables.
--
-- Source: the FlatZinc chapter of the MiniZinc Handbook, its search annotations.
use Rattle.std.specs.Prelude.{◌≡◌, ℕ, ◌<◌, List, length, take, slice_index_or, All}
use Rattle.interval.specs.Limits.{IsBound}
use Rattle.interval.specs.Boxes.{Bounds, IsInside, IsProper, put_of}
use Rattle.constraint_model.specs.declared.model.Phase.{Phase}
use Rattle.constraint_model.specs.declared.model.FznModel.{FznModel}
use Rattle.branching.specs.Selection.{IsFixed, IsUnfixed}
use Rattle.branching.specs.declared.fronts.Front.{Front}
use Rattle.branching.specs.declared.branch.Branching.{Branching}

-- the phase behind the first so many
abbrev pub IsPhaseAt : FznModel → ℕ → Phase → Type 0
IsPhaseAt model number phase = (number < length model.search) × (slice_index_or model.search number phase ≡ phase)

-- A front counts the phases that are behind the search, and the variables that are behind it in the next phase: all of
-- them are fixed.
pub record IsFrontOf (model : FznModel) (b : Bounds) (front : Front) : Type 0 where
  pub behind : All (λ p. All (IsFixed b) p.vars) (take front.phases model.search)
  pub begun : (phase : Phase) → IsPhaseAt model front.phases phase → All (IsFixed b) (take front.vars phase.vars)

-- so many of these variables are fixed, and the next one isn't
pub record IsFirstUnfixed (b : Bounds) (vars : List ℕ) (place : ℕ) : Type 0 where
  pub one_of_them : place < length vars
  pub fixed : All (IsFixed b) (take place vars)
  pub unfixed : IsUnfixed b (slice_index_or vars place 0)

-- the front is at the first variable that isn't fixed
pub record IsFarthestFront (model : FznModel) (b : Bounds) (front : Front) : Type 0 where
  pub behind : All (λ p. All (IsFixed b) p.vars) (take front.phases model.search)
  pub phase : Phase
  pub is_next : IsPhaseAt model front.phases phase
  pub first : IsFirstUnfixed b phase.vars front.vars

-- a front of a box is one of each proper box inside it
abbrev pub FrontsStay : Type 0
FrontsStay = (model : FznModel) (b c : Bounds) (front : Front) → IsFrontOf model b front → IsInside c b → IsProper c → IsFrontOf model c front

-- ---- the parts of a box, as the bounds of one pair

-- the part that comes first, and the other
abbrev pub left_by : Bounds → Branching → Bounds
left_by b branching = put_of b branching.pair branching.left_low branching.left_high

abbrev pub right_by : Bounds → Branching → Bounds
right_by b branching = put_of b branching.pair branching.right_low branching.right_high

-- the pair is one of the box, and each bound is in range
pub record FitsBox (b : Bounds) (branching : Branching) : Type 0 where
  pub pair : branching.pair < length b
  pub left_low : IsBound branching.left_low
  pub left_high : IsBound branching.left_high
  pub right_low : IsBound branching.right_low
  pub right_high : IsBound branching.right_high
