-- The sum of three terms, each a variable or its opposite.
use Rattle.std.specs.Prelude.{ℤ, ◌-ℤ◌, ◌≤ℤ◌, ◌<◌, Some, length}
use Rattle.interval.specs.Limits.{IsBound}
use Rattle.interval.specs.Boxes.{Bounds, low_of, high_of}
use Rattle.small_sums.specs.declared.short.SmallTerm.{SmallTerm}
use Rattle.small_sums.specs.Short.{IsTermOf}
use Rattle.short_tells.specs.declared.short_terms.Room.{Room}
use Rattle.kernel_visits.specs.declared.shape.Terms.{Terms}
use Rattle.seen_tells.specs.declared.three.Spans.{Spans}
use Rattle.kernel_visits.specs.Shapes.{unit_of}

-- the terms' variables are variables of the box, which is proper in them
pub record ArePlaced (b : Bounds) (t : Terms) : Type 0 where
  pub x : t.x < length b
  pub y : t.y < length b
  pub z : t.z < length b
  pub x_proper : low_of b t.x ≤ℤ high_of b t.x
  pub y_proper : low_of b t.y ≤ℤ high_of b t.y
  pub z_proper : low_of b t.z ≤ℤ high_of b t.z

-- what the terms are at least and at most
pub record AreSpansOf (b : Bounds) (t : Terms) (s : Spans) : Type 0 where
  pub x : IsTermOf b (unit_of t.x_sign) t.x s.x
  pub y : IsTermOf b (unit_of t.y_sign) t.y s.y
  pub z : IsTermOf b (unit_of t.z_sign) t.z s.z

-- these are bounds
pub record AreBounds (s : Spans) : Type 0 where
  pub x_least : IsBound s.x.least
  pub y_least : IsBound s.y.least
  pub z_least : IsBound s.z.least
  pub x_greatest : IsBound s.x.greatest
  pub y_greatest : IsBound s.y.greatest
  pub z_greatest : IsBound s.z.greatest

-- how far a term's greatest value is above its least
abbrev pub width_of : SmallTerm → ℤ
width_of t = t.greatest -ℤ t.least

-- the room of a term that may rise and fall by so much
abbrev pub room_of : ℤ → ℤ → Room
room_of rise fall = record { rise = Some rise; fall = Some fall }
