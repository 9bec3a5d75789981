-- The bounds that cut a box.
use Rattle.std.specs.Prelude.{◌≡◌, length, Option, Some, None}
use Rattle.interval.specs.Boxes.{Bounds, put_of}
use Rattle.trailed_box.specs.declared.trail.Part.{Part}
use Rattle.trailed_box.specs.Trailed.{IsPart}

-- the bounds make the cut box of the box, or there are none and it is the box itself
abbrev pub IsCut : Bounds → Bounds → Option Part → Type 0
IsCut b cut None = cut ≡ b
IsCut b cut (Some part) = (cut ≡ put_of b part.var part.low part.high) × IsPart (length b) part.var part.low part.high
