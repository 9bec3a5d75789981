-- What a hearer goes through when it is given a list of drops, in order. `may` says which drop it may be given, and
-- `hears` what its states before and after one may be. A drop is a variable and a number that the variable can't have.
use Rattle.std.specs.Prelude.{◌≡◌, ℕ, ℤ, Bool, true, false, List, [], ◌∷◌, ⊤}

abbrev pub Drop : Type 0
Drop = ℕ × ℤ

-- the hearer may be given each drop of the list, whatever it heard of the list before
abbrev pub MayHearDrops : {H : Type 0} → (H → Drop → Type 0) → (H → Drop → H → Type 0) → H → List Drop → Type 0
MayHearDrops may hears before [] = ⊤
MayHearDrops {H} may hears before (d ∷ ds) = may before d × ((mid : H) → hears before d mid → MayHearDrops may hears mid ds)

-- the hearer goes from `before` to `after` by hearing the list
abbrev pub HearsDrops : {H : Type 0} → (H → Drop → H → Type 0) → H → List Drop → H → Type 0
HearsDrops hears before [] after = before ≡ after
HearsDrops {H} hears before (d ∷ ds) after = (mid : H) × hears before d mid × HearsDrops hears mid ds after

-- the drop where the test holds
abbrev pub drop_when : Bool → Drop → List Drop
drop_when true d = d ∷ []
drop_when false d = []
