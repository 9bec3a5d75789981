-- What a narrower knows of the boxes that it narrows.
use Rattle.std.specs.Prelude.{◌≡◌, ◌≤◌, ◌<◌, ℕ, List, [], ◌∷◌, length, slice_index_or}
use Rattle.interval.specs.Boxes.{Bounds}
use Rattle.guarded_tell.specs.declared.kernel.Kernel.{Kernel}
use Rattle.fixpoint_laws.specs.Fixpoints.{IsClosed}
use Rattle.trailed_box.specs.Trailed.{Left}
use Rattle.moved_set.specs.Sets.{IsIn}
use Rattle.moved_fixpoint.specs.Moved.{Set, count_of, Fit, IsEmpty, AreMovedOrQuiet}
use Rattle.moved_fixpoint.specs.Resting.{FitRests, AreResting, Knows as KnowsOn}
use Rattle.rounds.specs.Shares.{IsCut}
use Rattle.rounds.specs.Engines.{engine_len, engine_shares}
use Rattle.narrowing.specs.declared.alone.Alone.{Alone}
use Rattle.narrowing.specs.declared.lanes.Lanes.{Lanes}
use Rattle.narrowing.specs.declared.narrower.Narrower.{Narrower}
use Rattle.narrowing.specs.declared.narrowed.Narrowed.{Narrowed}

-- what narrows alone serves these kernels and boxes of so many variables
pub record IsAloneFor (alone : Alone) (kernels : List Kernel) (count : ℕ) : Type 0 where
  pub sets : Fit count (length kernels) alone.sets.moved alone.sets.asking.asked
  pub rests : FitRests (length kernels) alone.sets.asking.rests

-- several lanes serve these kernels and boxes of so many variables
pub record AreLanesFor (lanes : Lanes) (kernels : List Kernel) (count : ℕ) : Type 0 where
  pub len : engine_len lanes.engine ≡ count
  pub several : 1 < length lanes.cut.items
  pub cut : IsCut (length kernels) lanes.cut.items
  pub shares : length lanes.cut.items ≤ engine_shares lanes.engine
  pub into : length lanes.into ≡ count

-- how many variables the boxes have that it serves
abbrev pub len_of : Narrower → ℕ
len_of (Narrower.Alone alone) = count_of alone.sets.moved
len_of (Narrower.Lanes lanes) = length lanes.into

abbrev pub Serves : Narrower → List Kernel → ℕ → Type 0
Serves (Narrower.Alone alone) kernels count = IsAloneFor alone kernels count
Serves (Narrower.Lanes lanes) kernels count = AreLanesFor lanes kernels count

-- the narrower serves these kernels and boxes of so many variables
pub record Fits (n : Narrower) (kernels : List Kernel) (count : ℕ) : Type 0 where
  pub len : len_of n ≡ count
  pub serves : Serves n kernels count

-- how many lanes it has
abbrev pub lanes_of : Narrower → ℕ
lanes_of (Narrower.Alone alone) = 1
lanes_of (Narrower.Lanes lanes) = length lanes.cut.items

-- how many lanes serve these kernels where so many are asked for: without kernels one
abbrev pub lanes_for : List Kernel → ℕ → ℕ
lanes_for [] lanes = 1
lanes_for (k ∷ kernels) lanes = lanes

-- The kernels are quiet on the box, but for those that name a variable that the narrower has noted. Lanes run all kernels
-- in each round, so they ask for nothing
abbrev pub AreQuietUnlessNoted : Narrower → List Kernel → Bounds → Type 0
AreQuietUnlessNoted (Narrower.Alone alone) kernels b = AreMovedOrQuiet alone.sets.moved b kernels
AreQuietUnlessNoted (Narrower.Lanes lanes) kernels b = Unit {0}

-- it has noted no variable
abbrev pub NotesNone : Narrower → Type 0
NotesNone (Narrower.Alone alone) = IsEmpty alone.sets.moved
NotesNone (Narrower.Lanes lanes) = Unit {0}

-- it has noted this variable alone
abbrev pub NotesAlone : Narrower → ℕ → Type 0
NotesAlone (Narrower.Alone alone) v = (w : ℕ) → IsIn alone.sets.moved w → w ≡ v
NotesAlone (Narrower.Lanes lanes) v = Unit {0}

-- on a closed box all kernels are quiet, whatever is noted
abbrev pub QuietWhereClosed : Type 0
QuietWhereClosed = (n : Narrower) (kernels : List Kernel) (b : Bounds) → IsClosed b kernels → AreQuietUnlessNoted n kernels b

-- ---- kernels that rest. Lanes let none rest

-- the kernels that aren't asked where the box is narrowed rest on it, but for those of which a noted variable is fixed
abbrev pub Knows : Narrower → List Kernel → Bounds → Type 0
Knows (Narrower.Alone alone) kernels b =
    KnowsOn alone.sets.asking.asked alone.sets.asking.rests.open.current alone.sets.asking.rests.alert.current alone.sets.moved b kernels
Knows (Narrower.Lanes lanes) kernels b = Unit {0}

-- the kernels that it lets rest do so on the box
abbrev pub LetsRest : Narrower → List Kernel → Bounds → Type 0
LetsRest (Narrower.Alone alone) kernels b = AreResting alone.sets.asking.rests.open.current alone.sets.asking.rests.alert.current b kernels
LetsRest (Narrower.Lanes lanes) kernels b = Unit {0}

-- so do those that it let rest where boxes were left for later, on the bases of these
pub record AreLayers (kernels : List Kernel) (open_ones alert : List Set) (stack : List Left) : Type 0 where
  pub open_count : length open_ones ≡ length stack
  pub alert_count : length alert ≡ length stack
  pub each : (i : ℕ) (o a : Set) (l : Left) → i < length stack →
      AreResting (slice_index_or open_ones i o) (slice_index_or alert i a) (slice_index_or stack i l).base kernels

abbrev pub LetRest : Narrower → List Kernel → List Left → Type 0
LetRest (Narrower.Alone alone) kernels stack = AreLayers kernels alone.sets.asking.rests.open.stack alone.sets.asking.rests.alert.stack stack
LetRest (Narrower.Lanes lanes) kernels stack = Unit {0}

-- where a box was narrowed to a fixed one, the kernels that it lets rest do so there
abbrev pub LetsRestWhereFixed : Narrower → List Kernel → Bounds → Narrowed → Type 0
LetsRestWhereFixed n kernels b (Narrowed.Fixed rounds) = LetsRest n kernels b
LetsRestWhereFixed n kernels b (Narrowed.Failed rounds) = Unit {0}
LetsRestWhereFixed n kernels b (Narrowed.GivenUp rounds) = Unit {0}

-- what it lets rest is known where a box is narrowed further
abbrev pub KnownWhereRests : Type 0
KnownWhereRests = (n : Narrower) (kernels : List Kernel) (b : Bounds) → LetsRest n kernels b → Knows n kernels b
