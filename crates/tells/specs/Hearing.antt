-- What a hearer goes through when it is given a list of tells, in order. `may` says which tell it may be given, and
-- `hears` how it stands before and after one.
use Rattle.std.specs.Prelude.{◌≡◌, List, [], ◌∷◌}
use Rattle.tells.specs.declared.tell.Tell.{Tell}

-- the hearer may be given each tell of the list, whatever it heard of the list before
abbrev pub MayHearAll : {H : Type 0} → (H → Tell → Type 0) → (H → Tell → H → Type 0) → H → List Tell → Type 0
MayHearAll may hears before [] = Unit {0}
MayHearAll {H} may hears before (t ∷ ts) = may before t × ((mid : H) → hears before t mid → MayHearAll may hears mid ts)

-- the hearer goes from `before` to `after` by hearing the list
abbrev pub HearsAll : {H : Type 0} → (H → Tell → H → Type 0) → H → List Tell → H → Type 0
HearsAll hears before [] after = before ≡ after
HearsAll {H} hears before (t ∷ ts) after = (mid : H) × hears before t mid × HearsAll hears mid ts after
