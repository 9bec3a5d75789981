-- What sources and sinks tell of names and bytes, and what their calls do to that.
-- A source or a sink in memory tells (`Some`). One over a file or a standard stream doesn't (`None`).
use Rattle.std.specs.Prelude.{◌≡◌, ℕ, ◌≤◌, ◌<◌, List, [], ◌∷◌, ◌++◌, length, take, Option, None, Some}

-- The bytes left before a call are those that it gave, and then those left after it.
abbrev pub Takes : Option (List ℕ) → Option (List ℕ) → List ℕ → Type 0
Takes None after given = after ≡ None
Takes (Some left) None given = ⊥
Takes (Some left) (Some rest) given = left ≡ given ++ rest

-- No byte is left.
abbrev pub IsAtEnd : Option (List ℕ) → Type 0
IsAtEnd None = Unit {0}
IsAtEnd (Some left) = left ≡ []

-- The bytes written before a call, and then those that it added, are those written after it.
-- A sink may cease to tell its bytes, and doesn't begin to.
abbrev pub Adds : Option (List ℕ) → Option (List ℕ) → List ℕ → Type 0
Adds None after added = after ≡ None
Adds (Some written) None added = Unit {0}
Adds (Some written) (Some all) added = all ≡ written ++ added

-- A front of `bytes` was added: none of them, some, or all.
abbrev pub AddsFront : Option (List ℕ) → Option (List ℕ) → List ℕ → Type 0
AddsFront before after bytes = (n : ℕ) × (n ≤ length bytes) × Adds before after (take n bytes)

-- `name` is the first of the names that may yet be asked for.
abbrev pub IsNextName : Option (List (List ℕ)) → List ℕ → Type 0
IsNextName None name = Unit {0}
IsNextName (Some []) name = ⊥
IsNextName (Some (next ∷ later)) name = name ≡ next

-- The names that may be asked for once the first of them was.
abbrev pub later_names : Option (List (List ℕ)) → Option (List (List ℕ))
later_names None = None
later_names (Some []) = Some []
later_names (Some (next ∷ later)) = Some later

-- A name that holds `held` was opened and `left` is left: all its bytes.
-- `held` is untold (`None`), or it tells that the name isn't there (`Some None`), or its bytes.
abbrev pub OpensAs : Option (Option (List ℕ)) → Option (List ℕ) → Type 0
OpensAs None left = Unit {0}
OpensAs (Some None) left = ⊥
OpensAs (Some (Some bytes)) left = left ≡ Some bytes

-- `text` is all that a name holds, where that is told.
abbrev pub IsHeld : Option (Option (List ℕ)) → List ℕ → Type 0
IsHeld None text = Unit {0}
IsHeld (Some None) text = ⊥
IsHeld (Some (Some bytes)) text = text ≡ bytes

-- A name holds more than `limit` bytes, where that is told.
abbrev pub IsLonger : Option (Option (List ℕ)) → ℕ → Type 0
IsLonger None limit = Unit {0}
IsLonger (Some None) limit = ⊥
IsLonger (Some (Some bytes)) limit = limit < length bytes

-- What a name holds, where that is told, is a front of at most `most` bytes, and then those that are left.
abbrev pub IsPartRead : Option (Option (List ℕ)) → Option (List ℕ) → ℕ → Type 0
IsPartRead None left most = Unit {0}
IsPartRead (Some None) left most = ⊥
IsPartRead (Some (Some bytes)) left most = (front : List ℕ) × Takes (Some bytes) left front × (length front ≤ most)
