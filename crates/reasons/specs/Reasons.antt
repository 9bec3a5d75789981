-- What a look at a kernel shows.
use Rattle.std.specs.Prelude.{List}
use Rattle.interval.specs.Boxes.{Bounds}
use Rattle.guarded_tell.specs.Words.{Tell, Keeps}
use Rattle.literals.specs.Literals.{Meets}

-- whoever meets all of these tells meets the literal
abbrev pub IsTold : List Tell → Tell → Type 0
IsTold ts sought = (b : Bounds) → Meets b ts → Keeps b sought
