-- Which tells narrow a box: those whose bound is tighter than the box's.
use Rattle.std.specs.Prelude.{ℕ, ℤ, Bool, List, int_lt}
use Rattle.std.specs.List.{filter}
use Rattle.interval.specs.Boxes.{Bounds, low_of, high_of}
use Rattle.tells.specs.declared.tell.Side.{Side}
use Rattle.tells.specs.declared.tell.Side.TheVariants.{Low, High}
use Rattle.tells.specs.declared.tell.Tell.{Tell}

-- z is a tighter bound than the box's, on that side of variable v
abbrev pub narrows_side : Bounds → Side → ℕ → ℤ → Bool
narrows_side b Low v z = int_lt (low_of b v) z
narrows_side b High v z = int_lt z (high_of b v)

-- the tell's bound is tighter than the box's
abbrev pub narrows : Bounds → Tell → Bool
narrows b t = narrows_side b t.side t.var t.bound

-- the tells of a list that narrow the box, in order
abbrev pub narrowing : Bounds → List Tell → List Tell
narrowing b ts = filter (narrows b) ts
