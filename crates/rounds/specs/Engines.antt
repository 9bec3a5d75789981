-- What contracts say of engines.
use Rattle.std.specs.Prelude.{ℕ, length}
use Rattle.lattice_store.specs.Seats.{seen_of, seat_epoch}
use Rattle.rounds.specs.declared.engine.Engine.{Engine}

-- how many variables its boxes have
abbrev pub engine_len : Engine → ℕ
engine_len e = length (seen_of e.first)

-- how many shares its cuts have at most
abbrev pub engine_shares : Engine → ℕ
engine_shares e = length e.lanes.items

-- The epoch that its store is in. It makes a new store, for which it needs memory, only where this is the last one
abbrev pub engine_epoch : Engine → ℕ
engine_epoch e = seat_epoch e.first
