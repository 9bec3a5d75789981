-- The calls on an object in memory, counted from 1, of which those with the numbers in a list are to fail.
use Rattle.std.specs.Prelude.{◌≡◌, ℕ, List, ◌+◌, ◌-◌, ◌^◌, min, Contains}
use Rattle.fzn_io.specs.declared.faults.Calls.{Calls}

-- One more call is counted. At the greatest `u64` the number stands still.
abbrev pub IsNextCall : Calls → Calls → Type 0
IsNextCall before after = (after.made ≡ min (before.made + 1) (2 ^ 64 - 1)) × (after.failing.items ≡ before.failing.items)

-- The call that was counted last is to fail.
abbrev pub FailsNow : Calls → Type 0
FailsNow calls = Contains calls.failing.items calls.made

-- No call was made yet, and those with the numbers `failing` are to fail.
abbrev pub StartsCalls : Calls → List ℕ → Type 0
StartsCalls calls failing = (calls.made ≡ 0) × (calls.failing.items ≡ failing)
