-- Trees of boxes: what propagation begins with on each, and what is left for later.
use Rattle.std.specs.Prelude.{◌≡◌, ◌<◌, ◌≤ℤ◌, ℕ, List, [], ◌∷◌, ◌++◌, length}
use Rattle.std.specs.List.{All}
use Rattle.interval.specs.Boxes.{Bounds}
use Rattle.guarded_tell.specs.declared.kernel.Kernel.{Kernel}
use Rattle.guarded_tell.specs.Kernels.{IsKernel}
use Rattle.fixpoint_laws.specs.Fixpoints.{IsClosed}
use Rattle.fixpoint_laws.specs.Changes.{IsTightening}
use Rattle.trailed_box.specs.declared.trail.Part.{Part}
use Rattle.trailed_box.specs.Trailed.{Trailed, left_of}
use Rattle.moved_set.specs.Sets.{Naming}
use Rattle.moved_fixpoint.specs.Moved.{AreMasksOf, AreMovedOrQuiet, Fit}
use Rattle.moved_fixpoint.specs.Resting.{AreResting, FitRests, KeepStacks, Knows}
use Rattle.moved_fixpoint.specs.declared.rests.Rests.{Rests}
use Rattle.moved_fixpoint.specs.declared.sets.MovedSets.{MovedSets}

-- the kernels, their masks and the sets are of boxes of so many variables
pub record AreFor (kernels : List Kernel) (masks : Naming) (count : ℕ) (sets : MovedSets) : Type 0 where
  pub some : 0 < count
  pub are_kernels : All (IsKernel count) kernels
  pub are_masks : AreMasksOf kernels count masks
  pub fit : Fit count (length kernels) sets.moved sets.asking.asked
  pub fit_rests : FitRests (length kernels) sets.asking.rests

-- propagation may begin on the box: the kernels that aren't asked are quiet, and those that rest are known
pub record CanSettle (kernels : List Kernel) (masks : Naming) (b : Bounds) (sets : MovedSets) : Type 0 where
  pub are_for : AreFor kernels masks (length b) sets
  pub quiet : AreMovedOrQuiet sets.moved b kernels
  pub knows : Knows sets.asking.asked sets.asking.rests.open.current sets.asking.rests.alert.current sets.moved b kernels

-- the box is closed, and the kernels that are let rest do so on it
pub record IsSettled (kernels : List Kernel) (b : Bounds) (rests : Rests) : Type 0 where
  pub closed : IsClosed b kernels
  pub resting : AreResting rests.open.current rests.alert.current b kernels

-- what was left for later is the same
pub record Keeps (before after : Trailed) (old new : Rests) : Type 0 where
  pub stack : after.stack ≡ before.stack
  pub same_length : length after.current ≡ length before.current
  pub stacks : KeepStacks old new

-- the bounds of the variable are tighter than those in the box, and leave some number
pub record IsPartOf (b : Bounds) (part : Part) : Type 0 where
  pub tightens : IsTightening b part.var part.low part.high
  pub rises : part.low ≤ℤ part.high

-- one more part of this box is left for later, and which kernels rest there
pub record LeavesPart (part : Part) (before after : Trailed) (old new : Rests) : Type 0 where
  pub stack : after.stack ≡ before.stack ++ left_of before.current part.var part.low part.high ∷ []
  pub same_length : length after.current ≡ length before.current
  pub open_stack : new.open.stack ≡ old.open.stack ++ old.open.current ∷ []
  pub alert_stack : new.alert.stack ≡ old.alert.stack ++ old.alert.current ∷ []
