-- The order of the two terms of a difference.
use Rattle.std.specs.Prelude.{◌≡◌, Bool, true, false, ℕ, ℤ, pos, negsuc, List, [], ◌∷◌, ◌++◌}
use Rattle.interval.specs.Boxes.{Bounds}
use Rattle.tells.specs.declared.tell.Tell.{Tell}
use Rattle.tell_laws.specs.Narrowing.{narrowing}
use Rattle.short_tells.specs.declared.short_terms.Room.{Room}
use Rattle.short_tells.specs.ShortTells.{room_tells}
use Rattle.seen_tells.specs.declared.seen.Sole.{Sole}

-- the coefficients of x - y, where x is the first of its variables, or y is
abbrev pub ordered_signs : Bool → List ℤ
ordered_signs true = pos 1 ∷ negsuc 0 ∷ []
ordered_signs false = negsuc 0 ∷ pos 1 ∷ []

-- its variables
abbrev pub ordered_vars : Bool → ℕ → ℕ → List ℕ
ordered_vars true x y = x ∷ y ∷ []
ordered_vars false x y = y ∷ x ∷ []

-- the tells of x and those of y, in the order of the terms
abbrev pub ordered_tells : Bool → List Tell → List Tell → List Tell
ordered_tells true ts us = ts ++ us
ordered_tells false ts us = us ++ ts

-- of the tells of x and of the opposite of y, which have this room, exactly this one narrows the box, whichever term is first;
-- it isn't said to be the kernel's last
pub record IsSoleOfTwo (b : Bounds) (x y : ℕ) (room : Room) (s : Sole) : Type 0 where
  pub one : (f : Bool) → ordered_tells f (narrowing b (room_tells b room (pos 1, x))) (narrowing b (room_tells b room (negsuc 0, y))) ≡ s.tell ∷ []
  pub last : s.is_last ≡ false
