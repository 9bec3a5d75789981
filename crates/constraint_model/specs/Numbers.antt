-- The numbers of a model.
use Rattle.std.specs.Prelude.{ℕ, ◌≤◌, ℤ, unsigned_abs}

-- the largest number of a model; the least is its opposite
unfoldable pub largest : ℕ
largest = 140737488355327

-- a number that a model may have
abbrev pub IsInProfile : ℤ → Type 0
IsInProfile z = unsigned_abs z ≤ largest
