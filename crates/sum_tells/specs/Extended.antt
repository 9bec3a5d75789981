-- A list with maybe one item more behind it.
use Rattle.std.specs.Prelude.{List, [], ◌∷◌, ◌++◌, Option, None, Some}

-- the whole list
abbrev pub extended : {T : Type 0} → List T → Option T → List T
extended items None = items
extended items (Some last) = items ++ last ∷ []
