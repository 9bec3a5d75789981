-- The boxes of a searcher, and what it knows of them.
use Rattle.std.specs.Prelude.{◌≡◌, ℕ, ◌-◌, Bool, true, false, cond, List, [], ◌∷◌, ◌++◌, length, take, drop, All}
use Rattle.interval.specs.Boxes.{Bounds, IsInside, IsProper, IsCrossed}
use Rattle.guarded_tell.specs.declared.kernel.Kernel.{Kernel}
use Rattle.fixpoint_laws.specs.Fixpoints.{IsClosed}
use Rattle.constraint_model.specs.declared.model.FznModel.{FznModel}
use Rattle.trailed_box.specs.Trailed.{Left, box_of, boxes_of as left_boxes}
use Rattle.branching.specs.declared.fronts.Front.{Front}
use Rattle.branching.specs.Fronts.{IsFrontOf}
use Rattle.narrowing.specs.Narrowers.{Fits, AreQuietUnlessNoted, Knows, LetRest, lanes_of, lanes_for}
use Rattle.search.specs.declared.run.Run.{Run}
use Rattle.search.specs.declared.searcher.Searcher.{Searcher}

-- the last of what is left on a stack, as many as there are fronts; and what lies below
abbrev pub own_on : List Left → List Front → List Left
own_on stack fronts = drop (length stack - length fronts) stack

abbrev pub below_on : List Left → List Front → List Left
below_on stack fronts = take (length stack - length fronts) stack

-- what the searcher has left for later; and what lay on the stack before
abbrev pub own_of : Searcher → List Left
own_of s = own_on s.boxes.stack s.fronts.items

abbrev pub below_of : Searcher → List Left
below_of s = below_on s.boxes.stack s.fronts.items

-- the boxes that are still to be searched, the next one last: those that it has left for later, and the current one; none
-- where that one is done
abbrev pub boxes_of : Searcher → List Bounds
boxes_of s = cond s.is_open (left_boxes (own_of s) ++ s.boxes.current ∷ []) []

-- how many variables they have
abbrev pub count_of : Searcher → ℕ
count_of s = length s.boxes.current

-- another may begin with what it leaves, and a box of so many variables: its own has as many, and the narrower serves the
-- kernels by so many lanes
pub record CanRestart (kernels : List Kernel) (lanes count : ℕ) (s : Searcher) : Type 0 where
  pub same_count : count_of s ≡ count
  pub fits : Fits s.narrower kernels count
  pub same_lanes : lanes_of s.narrower ≡ lanes_for kernels lanes

-- what is left is a part of a closed box, and some number is left there for each variable
pub record IsLeft (kernels : List Kernel) (left : Left) : Type 0 where
  pub closed : IsClosed left.base kernels
  pub inside : IsInside (box_of left) left.base
  pub proper : IsProper (box_of left)

-- it is rightly told of the box whether it is crossed
pub record TellsCrossed (is_crossed : Bool) (b : Bounds) : Type 0 where
  pub crossed : is_crossed ≡ true → IsCrossed b
  pub proper : is_crossed ≡ false → IsProper b

-- these are fronts of the boxes of which parts are left
abbrev pub AreFronts : FznModel → List Left → List Front → Type 0
AreFronts model [] [] = Unit {0}
AreFronts model [] (front ∷ fronts) = ⊥
AreFronts model (left ∷ lefts) [] = ⊥
AreFronts model (left ∷ lefts) (front ∷ fronts) = IsFrontOf model left.base front × AreFronts model lefts fronts

-- it is a front of a box in which the box lies
pub record IsFrontNear (model : FznModel) (b : Bounds) (front : Front) : Type 0 where
  pub outer : Bounds
  pub inside : IsInside b outer
  pub is_front : IsFrontOf model outer front

-- what is left are parts of closed boxes, with fronts of these
pub record AreSound (model : FznModel) (kernels : List Kernel) (stack : List Left) (kept : List Front) : Type 0 where
  pub parts : All (IsLeft kernels) stack
  pub fronts : AreFronts model stack kept

-- what it has left is sound, and the narrower serves the kernels by the run's lanes, and knows which rest in the boxes of
-- which parts are left
pub record AreLeft {L : Type 0} (run : Run L) (s : Searcher) : Type 0 where
  pub sound : AreSound run.model.now run.program.now.kernels (own_of s) s.fronts.items
  pub fits : Fits s.narrower run.program.now.kernels (length s.boxes.current)
  pub lanes : lanes_of s.narrower ≡ lanes_for run.program.now.kernels run.lanes
  pub let_rest : LetRest s.narrower run.program.now.kernels (own_of s)

-- so is the current box, if it is still to be searched: a kernel that narrows it names a variable that is noted, it is known
-- whether it is crossed, and if it isn't, which kernels rest
pub record IsReady {L : Type 0} (run : Run L) (s : Searcher) : Type 0 where
  pub left : AreLeft run s
  pub quiet : s.is_open ≡ true → AreQuietUnlessNoted s.narrower run.program.now.kernels s.boxes.current
  pub knows : s.is_open ≡ true → s.is_crossed ≡ false → Knows s.narrower run.program.now.kernels s.boxes.current
  pub front : s.is_open ≡ true → IsFrontNear run.model.now s.boxes.current s.front
  pub told : s.is_open ≡ true → TellsCrossed s.is_crossed s.boxes.current
