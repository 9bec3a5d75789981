-- What contracts say of a crew.
use Rattle.std.specs.Prelude.{ℕ, ◌+◌, ◌-◌, ◌^◌, ◌≤◌, min, Bool, List, length}
use Rattle.crew.specs.declared.workers.Workers.{Workers}

-- how many workers there are
abbrev pub workers_of : Workers → ℕ
workers_of crew = length crew.turns.items

-- how many numbers each worker has asked for so far
abbrev pub turns_of : Workers → List ℕ
turns_of crew = crew.turns.items

-- between the two counts the worker has asked for a number once at least; a count stays at its greatest value
abbrev pub HasAsked : ℕ → ℕ → Type 0
HasAsked before after = min (before + 1) (2 ^ 64 - 1) ≤ after

-- whether they steal numbers
abbrev pub steals_of : Workers → Bool
steals_of crew = crew.steals
