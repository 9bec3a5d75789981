-- How a box, a trail of its changes and marks in the trail stand for a box and a stack of boxes. The base of each of these
-- is the box as it was at a mark; so no box is copied.
use Rattle.std.specs.Prelude.{◌≡◌, ℕ, ℤ, pos, ◌≤◌, List, [], ◌∷◌, ◌++◌, length, map, drop, slice_index_or, All, AllPairs}
use Rattle.interval.specs.Boxes.{Bounds, put_of, low_of, high_of}
use Rattle.trailed_box.specs.Trailed.{Left, left_of, IsPart}
use Rattle.trailed_box.specs.declared.trail.Change.{Change}
use Rattle.trailed_box.specs.declared.trail.Mark.{Mark}

-- the box b with these changes undone, the last of them first
unfoldable pub undone : List Change → Bounds → Bounds
undone [] b = b
undone (c ∷ cs) b = put_of (undone cs b) c.var c.low c.high

-- the box as it was at a mark: the changes since then are undone
abbrev pub box_at : List Change → Bounds → Mark → Bounds
box_at trail b m = undone (drop m.from trail) b

-- what was left for later at a mark
abbrev pub left_at : List Change → Bounds → Mark → Left
left_at trail b m = left_of (box_at trail b m) m.part.var m.part.low m.part.high

-- all that was left for later
abbrev pub stack_of : List Change → Bounds → List Mark → List Left
stack_of trail b marks = map (left_at trail b) marks

-- the marks lie on the trail, none before an earlier one
pub record AreOn (trail : List Change) (marks : List Mark) : Type 0 where
  pub within : All (λ m. m.from ≤ length trail) marks
  pub rising : AllPairs (λ m n. m.from ≤ n.from) marks

-- the changes and the parts are those of a box of so many variables
pub record AreParts (count : ℕ) (trail : List Change) (marks : List Mark) : Type 0 where
  pub changes : All (λ c. IsPart count c.var c.low c.high) trail
  pub parts : All (λ m. IsPart count m.part.var m.part.low m.part.high) marks

-- the variable of the change at a place of the trail
abbrev pub var_at : List Change → ℕ → ℕ
var_at trail place = (slice_index_or trail place (record { var = 0; earlier = 0; low = pos 0; high = pos 0 })).var

-- whatever bounds the variable v of the box b gets, the boxes at the marks are the same on the new trail as on the old
pub record Spares (marks : List Mark) (old new : List Change) (b : Bounds) (v : ℕ) : Type 0 where
  pub boxes : (low high : ℤ) → All (λ m. box_at new (put_of b v low high) m ≡ box_at old b m) marks

-- the change of the variable v of the box b to other bounds is put at the trail's end
abbrev pub Appends : Bounds → ℕ → List Change → List Change → Type 0
Appends b v old new = (earlier : ℕ) × (new ≡ old ++ record { var = v; earlier = earlier; low = low_of b v; high = high_of b v } ∷ [])
