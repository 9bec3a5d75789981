-- The variables of a point are fixed.
use Rattle.std.proofs.Common.{ℕ, ◌<◌, List, length, get_or}
use Rattle.interval.specs.Limits.{IsNumber}
use Rattle.interval.specs.Boxes.{Bounds, low_of, IsPoint}
use Rattle.tells.specs.Words.{AreVariables}
use Rattle.arithmetic_tells.proofs.TimesLaws.{IsFixed}

pub fixed_at : (b : Bounds) (vars : List ℕ) → AreVariables (length b) vars → IsPoint b → ((v : ℕ) → v < length b → IsNumber (low_of b v))
    → (i : ℕ) → i < length vars → IsFixed b (get_or vars i 0)
fixed_at b vars variables point numbers i h =
    let v = get_or vars i 0 in
    let inside = variables.each i h in
    record { fixed = point v inside; low = numbers v inside }
