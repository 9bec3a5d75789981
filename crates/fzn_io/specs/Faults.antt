-- Counts of faults, by which a source or a sink of bytes answers for each refusal.
use Rattle.std.specs.Prelude.{◌≢◌, ℕ, ◌<◌}

-- The greatest count, the greatest number of 64 bits. A count that has come to it stands still there.
abbrev pub last_count : ℕ
last_count = 18446744073709551615

-- The count rose from `before` to `after`, or stands at its end: what gives the cause of a refusal.
abbrev pub CountRose : ℕ → ℕ → Type 0
CountRose before after = before ≢ last_count → before < after
