-- The tells of a sum whose least and greatest values are formed first: what these leave to the limit is the room by which
-- each term may rise above its least value, or fall below its greatest.
use Rattle.std.specs.Prelude.{ℤ, pos, ◌+ℤ◌, ◌-ℤ◌, ◌≤ℤ◌, IfSome, cond, Option, None, Some, List, [], ◌++◌}
use Rattle.tells.specs.declared.tell.Lit.{Lit}
use Rattle.tells.specs.declared.tell.Tell.{Tell}
use Rattle.interval.specs.Boxes.{Bounds}
use Rattle.small_sums.specs.declared.short.Sums.{Sums}
use Rattle.short_tells.specs.declared.short_terms.Room.{Room}
use Rattle.tells.specs.Words.{is_sure, is_out}
use Rattle.sum_tells.specs.Linear.{Term, least_of, greatest_of, product_at_most, product_at_least}

-- the term is at most its least value and the slack, if there is one
abbrev pub rise_tells : Bounds → Option ℤ → Term → List Tell
rise_tells b None t = []
rise_tells b (Some slack) t = product_at_most t.1 t.0 (least_of b t +ℤ slack)

-- the term is at least its greatest value less the slack, if there is one
abbrev pub fall_tells : Bounds → Option ℤ → Term → List Tell
fall_tells b None t = []
fall_tells b (Some slack) t = product_at_least t.1 t.0 (greatest_of b t -ℤ slack)

-- the term rises and falls within the room
abbrev pub room_tells : Bounds → Room → Term → List Tell
room_tells b room t = rise_tells b room.rise t ++ fall_tells b room.fall t

-- where nothing is demanded of a sum
abbrev pub any_room : Room
any_room = record { rise = None; fall = None }

-- a term may rise and fall by no less than the slack
pub record IsSlackOf (room : Room) (slack : ℤ) : Type 0 where
  pub rise : IfSome room.rise (λ rise. slack ≤ℤ rise)
  pub fall : IfSome room.fall (λ fall. slack ≤ℤ fall)

-- the sum is to be at most the limit where the literal is sure, and more where it is out
unfoldable pub room_at_most : Bounds → Lit → ℤ → Sums → Room
room_at_most b l limit s = cond (is_sure l b)
    (record { rise = Some (limit -ℤ s.least); fall = None })
    (cond (is_out l b) (record { rise = None; fall = Some (s.greatest -ℤ (limit +ℤ pos 1)) }) any_room)

-- the sum is to be the limit where the literal is sure
unfoldable pub room_equal : Bounds → Lit → ℤ → Sums → Room
room_equal b l limit s = cond (is_sure l b)
    (record { rise = Some (limit -ℤ s.least); fall = Some (s.greatest -ℤ limit) })
    any_room
