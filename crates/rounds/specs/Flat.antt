-- Boxes whose bounds are all 0.
use Rattle.std.specs.Prelude.{ℤ, pos, ◌≡◌, List}
use Rattle.std.specs.List.{All}

abbrev pub IsFlat : List (ℤ × ℤ) → Type 0
IsFlat pairs = All (λ p. p ≡ (pos 0, pos 0)) pairs
