-- What is told of the text of a file, and the line that says its first fault.
--
-- A source tells of a name nothing (`None`), that it isn't there (`Some None`), or its bytes. The line is this program's own.
use Rattle.std.specs.Prelude.{◌≡◌, ℕ, ◌+◌, List, [], ◌∷◌, ◌++◌, codes, Bool, true, false, Option, Some, None}
use Rattle.std.specs.Option.{option_map_or}
use Rattle.std.specs.Fmt.{decimal}
use Rattle.fzn_io.specs.Streams.{IsHeld, IsLonger, IsPartRead, later_names}
use Rattle.constraint_model.specs.declared.model.FznModel.{FznModel}
use Rattle.fzn_model.specs.FaultKinds.{kind_name as name_of, kind_numbered}
use Rattle.model_text.specs.Texts.{HasFaultOn, IsTextOf, most_bytes, too_long}

-- The text that is told of has a fault of this kind on this line.
pub record IsFaultOfTold (held : Option (Option (List ℕ))) (kind line : ℕ) : Type 0 where
  pub text : List ℕ
  pub told : IsHeld held text
  pub fault : HasFaultOn text kind line

-- The text is known, and has a fault of this kind on this line.
abbrev pub ToldHasFault : Option (Option (List ℕ)) → ℕ → ℕ → Type 0
ToldHasFault None kind line = ⊥
ToldHasFault (Some None) kind line = ⊥
ToldHasFault (Some (Some text)) kind line = HasFaultOn text kind line

-- The text is known, and has a model.
abbrev pub ToldHasModel : Option (Option (List ℕ)) → Type 0
ToldHasModel None = ⊥
ToldHasModel (Some None) = ⊥
ToldHasModel (Some (Some text)) = (model : FznModel) × IsTextOf text model

-- A text that is longer than a text may be has that fault, also where the source doesn't tell it.
abbrev pub LongHasFault : Type 0
LongHasFault = (held : Option (Option (List ℕ))) → IsLonger held most_bytes → IsFaultOfTold held too_long 0

-- A source was asked for a file, and tells this of it: its name has left the list; where it is open, a front of it was read; and
-- only where the source refused it isn't open.
pub record WasAsked (held : Option (Option (List ℕ))) (before after : Option (List (List ℕ))) (left : Option (List ℕ)) (is_open : Bool) (refused : Type 0) : Type 0 where
  pub name_leaves : after ≡ later_names before
  pub part_read : is_open ≡ true → IsPartRead held left (most_bytes + 1)
  pub closed : is_open ≡ false → refused

-- The name of a kind of fault.
abbrev pub kind_name : ℕ → List ℕ
kind_name kind = option_map_or name_of (kind_numbered kind) []

-- The line that goes to standard error where a text is refused.
abbrev pub refusal_line : ℕ → ℕ → List ℕ
refusal_line kind line = codes "refused " ++ decimal kind ++ codes " " ++ kind_name kind ++ codes " line " ++ decimal line ++ 10 ∷ []
