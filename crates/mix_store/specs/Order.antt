-- How words of three kinds are joined, and which word leaves all that another one leaves.
use Rattle.std.specs.Prelude.{ℕ, ◌*◌, ◌≤◌, max, min, bit_and, ⊤}
use Rattle.interval.specs.Limits.{bound_limit}
use Rattle.bit_domain.specs.Bits.{IsSubset}
use Rattle.mix_store.specs.declared.table.WordKind.{WordKind}
use Rattle.mix_store.specs.declared.table.WordKind.TheVariants.{Set, Low, High}

-- all that the inner word leaves is left by the outer one
unfoldable pub Holds : WordKind → ℕ → ℕ → Type 0
Holds Set outer inner = IsSubset inner outer
Holds Low outer inner = outer ≤ inner
Holds High outer inner = inner ≤ outer

-- what both words leave
unfoldable pub join_of : WordKind → ℕ → ℕ → ℕ
join_of Set a b = bit_and a b
join_of Low a b = max a b
join_of High a b = min a b

-- the word of a bound is its distance from the least one
unfoldable pub IsWord : WordKind → ℕ → Type 0
IsWord Set n = ⊤
IsWord Low n = n ≤ 2 * bound_limit
IsWord High n = n ≤ 2 * bound_limit
