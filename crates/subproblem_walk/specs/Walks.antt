-- What a walk knows of the way to the number that it was asked for last.
use Rattle.std.specs.Prelude.{◌≡◌, ◌≢◌, ℕ, ◌<◌, ℤ, ◌≤ℤ◌, List, [], ◌∷◌, ◌++◌, length, Option, None, Some, IfSome, MatchOption}
use Rattle.interval.specs.Boxes.{Bounds}
use Rattle.guarded_tell.specs.declared.kernel.Kernel.{Kernel}
use Rattle.fixpoint_laws.specs.Fixpoints.{IsGreatest, Fails}
use Rattle.constraint_model.specs.declared.model.FznModel.{FznModel}
use Rattle.branching.specs.declared.branch.Branching.{Branching}
use Rattle.branching.specs.Fronts.{left_by, right_by}
use Rattle.branching.specs.Tree.{AreFixed}
use Rattle.trailed_box.specs.Trailed.{Trailed, Left, IsOver, box_of as left_box}
use Rattle.moved_fixpoint.specs.Made.{IsMadeBy}
use Rattle.subproblems.specs.Paths.{LeadsTo}
use Rattle.subproblem_walk.specs.declared.turns.Turn.{Turn}
use Rattle.subproblem_walk.specs.declared.turns.Address.{Address}
use Rattle.subproblem_walk.specs.declared.cutter.Subproblem.{Subproblem}
use Rattle.subproblem_walk.specs.declared.ends.End.{End}
use Rattle.subproblem_walk.specs.declared.walk.Reached.{Reached}
use Rattle.subproblem_walk.specs.declared.walk.Walk.{Walk}
use Rattle.subproblem_walk.specs.Turns.{side_of, AreTurnsTo}
use Rattle.subproblem_walk.specs.Nodes.{IsPartedAt, MayServe}
use Rattle.subproblem_walk.specs.Beaten.{CostsFrom, IsBeaten}

-- a turn at the greatest closed box of a box: that is the base of what is left on the stack, which is the part on the turn's side
pub record IsStep (model : FznModel) (kernels : List Kernel) (b : Bounds) (turn : Turn) (left : Left) : Type 0 where
  pub greatest : IsGreatest left.base b kernels
  pub parted : IsPartedAt model left.base turn.branching
  pub taken : left_box left ≡ side_of turn.goes_right (left_by left.base turn.branching) (right_by left.base turn.branching)

-- the turns on a way down from a box, with what they leave on the stack
abbrev pub AreSteps : FznModel → List Kernel → Bounds → List Turn → List Left → Type 0
AreSteps model kernels b [] [] = Unit {0}
AreSteps model kernels b [] (left ∷ way) = ⊥
AreSteps model kernels b (turn ∷ turns) [] = ⊥
AreSteps model kernels b (turn ∷ turns) (left ∷ way) = IsStep model kernels b turn left × AreSteps model kernels (left_box left) turns way

-- the box to which they lead
abbrev pub end_of : Bounds → List Left → Bounds
end_of b [] = b
end_of b (left ∷ way) = end_of (left_box left) way

-- the greatest closed box of a box fixes each declared variable
pub record IsSolvedBy (model : FznModel) (kernels : List Kernel) (b closed : Bounds) : Type 0 where
  pub greatest : IsGreatest closed b kernels
  pub fixed : AreFixed model closed

-- what is known of the box at the end of the way
abbrev pub IsEnd : FznModel → List Kernel → Bounds → End → Type 0
IsEnd model kernels b End.Part = Unit {0}
IsEnd model kernels b End.Failed = Fails b kernels
IsEnd model kernels b End.Fixed = (closed : Bounds) × IsSolvedBy model kernels b closed
IsEnd model kernels b (End.Beaten cost) = IsBeaten model kernels cost b

-- what the walk knows of its way is true of these boxes on a stack
pub record StandsOn (model : FznModel) (kernels : List Kernel) (start : Bounds) (walk : Walk) (way : List Left) : Type 0 where
  pub steps : AreSteps model kernels start walk.turns.items way
  pub end : IsEnd model kernels (end_of start way) walk.end

-- so it is of the stack of the walk's box, whatever is left above it
pub record IsOnWay (model : FznModel) (kernels : List Kernel) (start : Bounds) (walk : Walk) (boxes : Trailed) : Type 0 where
  pub way : List Left
  pub stands : StandsOn model kernels start walk way
  pub over : IsOver way boxes.stack
  pub same_length : length boxes.current ≡ length start

-- the walk goes down from this box
pub record IsWalkFrom (model : FznModel) (kernels : List Kernel) (start : Bounds) (walk : Walk) : Type 0 where
  pub boxes : IfSome walk.boxes (λ boxes. IsOnWay model kernels start walk boxes)
  pub sets : MayServe walk.sets kernels (length start)

-- the box that was found, if one was
abbrev pub box_of : Option Subproblem → Option Bounds
box_of None = None
box_of (Some sub) = Some sub.boxes.current

-- it is rightly told by which pair that box differs from a closed one
abbrev pub IsMadeFrom : List Kernel → Option Subproblem → Type 0
IsMadeFrom kernels found = IfSome found (λ sub. IsMadeBy sub.changed kernels sub.boxes.current)

-- some such pair is told
abbrev pub IsTold : Option Subproblem → Type 0
IsTold found = IfSome found (λ sub. sub.changed ≢ None)

-- what the walk knows of its way is true of the stack of the box that is given out, or of its own where none is
abbrev pub StandsUnder : FznModel → List Kernel → Bounds → Walk → Option Subproblem → Type 0
StandsUnder model kernels start walk None = MatchOption walk.boxes ⊥ (λ boxes. IsOnWay model kernels start walk boxes)
StandsUnder model kernels start walk (Some sub) = StandsOn model kernels start walk sub.boxes.stack

-- the way ends no higher than it must: after all turns, or where a box can't be parted
abbrev pub EndsAt : ℕ → End → Type 0
EndsAt below End.Part = below ≡ 0
EndsAt below End.Failed = 0 < below
EndsAt below End.Fixed = 0 < below
EndsAt below (End.Beaten cost) = ⊥

-- the walk's way is the whole one to a number to a depth
pub record IsWayTo (depth number : ℕ) (walk : Walk) : Type 0 where
  pub below : ℕ
  pub rest : ℕ
  pub turns : AreTurnsTo depth number walk.turns.items below rest
  pub ends : EndsAt below walk.end

-- it may end at a beaten box too
abbrev pub MayEndAt : ℕ → End → Type 0
MayEndAt below End.Part = below ≡ 0
MayEndAt below End.Failed = 0 < below
MayEndAt below End.Fixed = 0 < below
MayEndAt below (End.Beaten cost) = 0 < below

-- the walk's way is the whole one to a number to a depth, or one to a box on it that is beaten
pub record IsWayTowards (depth number : ℕ) (walk : Walk) : Type 0 where
  pub below : ℕ
  pub rest : ℕ
  pub turns : AreTurnsTo depth number walk.turns.items below rest
  pub ends : MayEndAt below walk.end

-- where the box at the end is beaten, it is so by the best cost
abbrev pub IsEndFor : Option ℤ → End → Type 0
IsEndFor best End.Part = Unit {0}
IsEndFor best End.Failed = Unit {0}
IsEndFor best End.Fixed = Unit {0}
IsEndFor best (End.Beaten cost) = MatchOption best ⊥ (λ lowest. lowest ≤ℤ cost)

-- the end at a box that the best cost beats
abbrev pub IsBeatenEnd : FznModel → Option ℤ → Bounds → End → Type 0
IsBeatenEnd model best b End.Part = ⊥
IsBeatenEnd model best b End.Failed = ⊥
IsBeatenEnd model best b End.Fixed = ⊥
IsBeatenEnd model best b (End.Beaten cost) = (best ≡ Some cost) × CostsFrom model.goal cost b

-- a box whose current one is at the end of a way
pub record IsAt (model : FznModel) (kernels : List Kernel) (start : Bounds) (turns : List Turn) (boxes : Trailed) : Type 0 where
  pub steps : AreSteps model kernels start turns boxes.stack
  pub current : boxes.current ≡ end_of start boxes.stack

-- a box whose current one is the greatest closed box of the one at the end of a way, and how that is parted
pub record IsBackAt (model : FznModel) (kernels : List Kernel) (start : Bounds) (turns : List Turn) (boxes : Trailed) (branching : Branching) : Type 0 where
  pub steps : AreSteps model kernels start turns boxes.stack
  pub greatest : IsGreatest boxes.current (end_of start boxes.stack) kernels
  pub parted : IsPartedAt model boxes.current branching

-- a turn was taken at a closed box: it is left on the stack, and the current box is the part on the turn's side
pub record TakesTurn (branching : Branching) (old new : Trailed) (before after : List Turn) (turn : Turn) : Type 0 where
  pub left : Left
  pub turns : after ≡ before ++ turn ∷ []
  pub stack : new.stack ≡ old.stack ++ left ∷ []
  pub base : left.base ≡ old.current
  pub same : turn.branching ≡ branching
  pub taken : left_box left ≡ side_of turn.goes_right (left_by old.current branching) (right_by old.current branching)
  pub current : new.current ≡ left_box left

-- what the box is where a way ends
abbrev pub IsEndAt : FznModel → List Kernel → Bounds → Bounds → End → Type 0
IsEndAt model kernels b now End.Part = now ≡ b
IsEndAt model kernels b now End.Failed = Fails b kernels
IsEndAt model kernels b now End.Fixed = IsSolvedBy model kernels b now
IsEndAt model kernels b now (End.Beaten cost) = IsBeaten model kernels cost b

-- how a way was gone on from a box
pub record IsReached (model : FznModel) (kernels : List Kernel) (address : Address) (old new : Trailed) (before after : List Turn) (reached : Reached) : Type 0 where
  pub turns : List Turn
  pub way : List Left
  pub are_turns : after ≡ before ++ turns
  pub is_way : new.stack ≡ old.stack ++ way
  pub steps : AreSteps model kernels old.current turns way
  pub to : AreTurnsTo address.depth address.number turns reached.rest.depth reached.rest.number
  pub ends : MayEndAt reached.rest.depth reached.end
  pub end : IsEndAt model kernels (end_of old.current way) new.current reached.end

-- the box at the end of a way is what the number leads to: one that fixes each declared variable is so by number 0 alone
abbrev pub IsLedTo : End → ℕ → Type 0
IsLedTo End.Part number = Unit {0}
IsLedTo End.Failed number = ⊥
IsLedTo End.Fixed number = number ≡ 0
IsLedTo (End.Beaten cost) number = ⊥

-- what is found is what the number leads to, or nothing where the box at the end of the way is beaten
abbrev pub IsPathAt : FznModel → List Kernel → ℕ → Bounds → ℕ → End → Option Bounds → Type 0
IsPathAt model kernels depth b number End.Part found = LeadsTo model kernels depth b number found
IsPathAt model kernels depth b number End.Failed found = LeadsTo model kernels depth b number found
IsPathAt model kernels depth b number End.Fixed found = LeadsTo model kernels depth b number found
IsPathAt model kernels depth b number (End.Beaten cost) found = found ≡ None

-- what a walk answers where so much is the best cost
pub record IsAnswer (model : FznModel) (kernels : List Kernel) (start : Bounds) (depth number : ℕ) (best : Option ℤ) (walk : Walk) (found : Option Subproblem) : Type 0 where
  pub path : IsPathAt model kernels depth start number walk.end (box_of found)
  pub end_for : IsEndFor best walk.end
  pub made : IsMadeFrom kernels found
  pub told : depth ≢ 0 → IsTold found
  pub under : StandsUnder model kernels start walk found
  pub way : IsWayTowards depth number walk
