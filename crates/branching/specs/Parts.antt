-- How a box is parted at a variable: the domain low..high into low..cut and cut + 1..high.
--
-- Source: the FlatZinc chapter of the MiniZinc Handbook, its search annotations.
use Rattle.std.specs.Prelude.{◌≡◌, ◌⊎◌, ℕ, suc, ℤ, pos, ◌+ℤ◌, ◌-ℤ◌, ◌<◌, Bool, true, false, cond}
use Rattle.interval.specs.Boxes.{Bounds, low_of, high_of, put_of, IsInRange, IsInside, IsProper, IsPoint, width_sum_of}
use Rattle.interval.specs.Quotients.{floor_of}
use Rattle.constraint_model.specs.declared.model.ValSel.{ValSel}
use Rattle.constraint_model.specs.declared.model.Phase.{Phase}
use Rattle.constraint_model.specs.declared.model.FznModel.{FznModel}
use Rattle.branching.specs.Selection.{IsChoice}

-- the greatest number of the lower part: the least of all, all but the greatest, or the lower half, its end rounded down
abbrev pub cut_of : ValSel → ℤ → ℤ → ℤ
cut_of ValSel.Min low high = low
cut_of ValSel.Max low high = high -ℤ pos 1
cut_of ValSel.Split low high = floor_of (low +ℤ high) (pos 2)
cut_of ValSel.ReverseSplit low high = floor_of (low +ℤ high) (pos 2)

-- whether the upper part comes first
abbrev pub is_upper_first : ValSel → Bool
is_upper_first ValSel.Min = false
is_upper_first ValSel.Max = true
is_upper_first ValSel.Split = false
is_upper_first ValSel.ReverseSplit = true

-- the box with the numbers of pair p up to the cut, and with those above it
abbrev pub lower_part : Bounds → ℕ → ℤ → Bounds
lower_part b p cut = put_of b p (low_of b p) cut

abbrev pub upper_part : Bounds → ℕ → ℤ → Bounds
upper_part b p cut = put_of b p (cut +ℤ pos 1) (high_of b p)

abbrev pub cut_in : ValSel → Bounds → ℕ → ℤ
cut_in selection b p = cut_of selection (low_of b p) (high_of b p)

-- the part that comes first, and the other
abbrev pub left_of : ValSel → Bounds → ℕ → Bounds
left_of selection b p =
    cond (is_upper_first selection) (upper_part b p (cut_in selection b p)) (lower_part b p (cut_in selection b p))

abbrev pub right_of : ValSel → Bounds → ℕ → Bounds
right_of selection b p =
    cond (is_upper_first selection) (lower_part b p (cut_in selection b p)) (upper_part b p (cut_in selection b p))

-- the two boxes into which the model's search parts the box
pub record IsBranch (model : FznModel) (b left right : Bounds) : Type 0 where
  pub phase : Phase
  pub var : ℕ
  pub choice : IsChoice model b phase var
  pub left_is : left ≡ left_of phase.val_sel b (suc var)
  pub right_is : right ≡ right_of phase.val_sel b (suc var)

-- a box that is a part of another: smaller, and in range
pub record IsPart (b part : Bounds) : Type 0 where
  pub inside : IsInside part b
  pub proper : IsProper part
  pub in_range : IsInRange part
  pub narrower : width_sum_of part < width_sum_of b

-- two parts of a box: each point in it is in one of them, and in one alone
pub record AreParts (b left right : Bounds) : Type 0 where
  pub first_part : IsPart b left
  pub second_part : IsPart b right
  pub in_one : (c : Bounds) → IsPoint c → IsInside c b → IsInside c left ⊎ IsInside c right
  pub in_one_alone : (c : Bounds) → IsPoint c → IsInside c left → IsInside c right → ⊥
