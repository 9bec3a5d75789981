-- How a tell is joined into a box.
use Rattle.std.specs.Prelude.{ℕ, ℤ, ◌≡◌, ◌≤ℤ◌, ◌<ℤ◌, Option, None, Some}
use Rattle.interval.specs.Boxes.{Bounds, low_of, high_of, put_of}
use Rattle.guarded_tell.specs.Words.{Tell}
use Rattle.guarded_tell.specs.Words.{Side}
use Rattle.guarded_tell.specs.Words.{Low, High}
use Rattle.guarded_tell.specs.Words.{Keeps}
use Rattle.fixpoint_laws.specs.Rounds.{Narrows}
use Rattle.moved_fixpoint.specs.declared.joiner.Progress.{Progress}
use Rattle.moved_fixpoint.specs.declared.joiner.Progress.TheVariants.{Still, Moved, Crossed, Refused}

-- the round goes on: the box isn't crossed, and no memory was refused
abbrev pub GoesOn : Progress → Type 0
GoesOn Still = Unit {0}
GoesOn Moved = Unit {0}
GoesOn Crossed = ⊥
GoesOn Refused = ⊥

-- a step of one lane led to this box, where it leads to that one, or to none where some variable has no number left then; where
-- memory was refused, nothing is said
abbrev pub Becomes : Option Bounds → Progress → Bounds → Type 0
Becomes step Still after = step ≡ Some after
Becomes step Moved after = step ≡ Some after
Becomes step Crossed after = step ≡ None
Becomes step Refused after = Unit {0}

-- what became of putting the bounds low and high of variable v into the box b
abbrev pub HasPut : Progress → Bounds → ℕ → ℤ → ℤ → Bounds → Type 0
HasPut Still b v low high after = ⊥
HasPut Moved b v low high after = (after ≡ put_of b v low high) × (low ≤ℤ high)
HasPut Crossed b v low high after = (after ≡ put_of b v low high) × (high <ℤ low)
HasPut Refused b v low high after = after ≡ b

-- the bounds that a tell gives its variable in the box b
abbrev pub told_low : Bounds → Side → ℕ → ℤ → ℤ
told_low b Low v bound = bound
told_low b High v bound = low_of b v

abbrev pub told_high : Bounds → Side → ℕ → ℤ → ℤ
told_high b Low v bound = high_of b v
told_high b High v bound = bound

-- a tell is heard, in a box b: nothing is heard once the round is over, and a tell that narrows is put
pub record IsHeard (b : Bounds) (progress : Progress) (t : Tell) (after : Bounds) (progress_after : Progress) : Type 0 where
  pub over : (GoesOn progress → ⊥) → (after ≡ b) × (progress_after ≡ progress)
  pub kept : GoesOn progress → Keeps b t → (after ≡ b) × (progress_after ≡ progress)
  pub put : GoesOn progress → Narrows b t →
      HasPut progress_after b t.var (told_low b t.side t.var t.bound) (told_high b t.side t.var t.bound) after

-- how far the joining of tells has come: the box and the round's progress
pub record Joined : Type 0 where
  pub box : Bounds
  pub progress : Progress

abbrev pub joined : Bounds → Progress → Joined
joined b p = record { box = b; progress = p }

-- a tell is heard in such a state
abbrev pub Hears : Joined → Tell → Joined → Type 0
Hears j t after = IsHeard j.box j.progress t after.box after.progress
