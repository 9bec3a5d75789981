-- What a source in memory tells.
use Rattle.std.specs.Prelude.{ℕ, List, [], Option, Some, cond, map, drop}
use Rattle.fzn_io.specs.Memory.{name_of, held_in, left_of}
use Rattle.fzn_io.specs.declared.mem_source.MemSource.{MemSource}

-- What a name holds, or that it isn't there.
abbrev pub held_by : MemSource → List ℕ → Option (Option (List ℕ))
held_by source name = Some (held_in source.chunk source.entries.items name)

-- The bytes of the open text that were not yet read.
abbrev pub bytes_left : MemSource → Option (List ℕ)
bytes_left source = Some (cond source.opened (left_of source.chunk source.entries.items source.place source.from) [])

-- The names that it may yet be asked for.
abbrev pub names_left : MemSource → Option (List (List ℕ))
names_left source = Some (map name_of (drop source.asked source.entries.items))
