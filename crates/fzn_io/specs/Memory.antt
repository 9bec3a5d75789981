-- What a source in memory holds: its names in order, each with its bytes or none.
use Rattle.std.specs.Prelude.{ℕ, zero, suc, List, [], Option, None, Some, position, slice_get, drop, string_bytes}
use Rattle.std.specs.Str.{bytes_eq}
use Rattle.fzn_io.specs.declared.named.Named.{Named}

abbrev pub name_of : Named → List ℕ
name_of entry = string_bytes entry.name

-- A source whose calls give no bytes has none to read.
abbrev pub readable : ℕ → List ℕ → List ℕ
readable zero bytes = []
readable (suc chunk) bytes = bytes

-- The bytes of an entry, where it is there and has some.
abbrev pub bytes_of : Option Named → Option (List ℕ)
bytes_of None = None
bytes_of (Some entry) = elim entry.bytes [ None ↦ None | Some bytes ↦ Some bytes.items ]

abbrev pub all_of : Option (List ℕ) → List ℕ
all_of None = []
all_of (Some bytes) = bytes

-- Where a name stands among the entries, the first time.
abbrev pub place_of : List ℕ → List Named → Option ℕ
place_of name entries = position (λ entry. bytes_eq (name_of entry) name) entries

abbrev pub entry_at : List Named → Option ℕ → Option Named
entry_at entries None = None
entry_at entries (Some place) = slice_get entries place

abbrev pub readable_of : ℕ → Option (List ℕ) → Option (List ℕ)
readable_of chunk None = None
readable_of chunk (Some bytes) = Some (readable chunk bytes)

-- What a name holds. Where it stands twice, the first entry counts.
abbrev pub held_in : ℕ → List Named → List ℕ → Option (List ℕ)
held_in chunk entries name = readable_of chunk (bytes_of (entry_at entries (place_of name entries)))

-- What is left of the entry at `place` once `from` bytes were read.
abbrev pub left_of : ℕ → List Named → ℕ → ℕ → List ℕ
left_of chunk entries place from = readable chunk (drop from (all_of (bytes_of (slice_get entries place))))
