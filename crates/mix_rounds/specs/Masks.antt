-- Which numbers over a base are represented by the bits of a word.
use Rattle.std.specs.Prelude.{ℕ, ℤ, pos, ◌≡◌, ◌<◌, ◌+ℤ◌, ◌↔◌}
use Rattle.std.specs.Int.{bit_at}

-- each bit i below 64 is 1 exactly where the fact holds of base + i
abbrev pub AreBitsOf : (ℤ → Type 0) → ℤ → ℕ → Type 0
AreBitsOf fact base mask = (i : ℕ) → i < 64 → (bit_at mask i ≡ 1) ↔ fact (base +ℤ pos i)
