-- What a check of two files promises: its statuses, each with its cause, and what it writes.
use Rattle.std.specs.Prelude.{◌≡◌, ◌⊎◌, ℕ, List, [], ◌∷◌, ◌++◌, codes, Bool, Option, Some, None}
use Rattle.fzn_io.specs.Faults.{CountRose}
use Rattle.fzn_io.specs.Streams.{Adds, AddsFront, IsHeld, later_names}
use Rattle.clap.specs.Walk.{Text}
use Rattle.fzn_print.specs.AnswerText.{line_end}
use Rattle.model_text.specs.Files.{WasAsked}
use Rattle.fzn_check.specs.Endings.{Ends}
use Rattle.fzn_check.specs.declared.status.Status.{Status}
use Rattle.fzn_check.specs.declared.status.Status.TheVariants.{Right, Usage, Refused, ReadFault, WriteFault, NoMemory, Wrong, BadText, Hidden}

-- What a source tells of each name: nothing (`None`), that it isn't there (`Some None`), or its bytes.
abbrev pub Told : Type 0
Told = List ℕ → Option (Option (List ℕ))

-- The names of the two files, where the words are taken.
abbrev pub AskedFiles : Type 0
AskedFiles = Option (Text × Text)

-- The bytes are told, and these are they.
abbrev pub IsKnown : Option (Option (List ℕ)) → List ℕ → Type 0
IsKnown held text = held ≡ Some (Some text)

-- The check of the files that the words name ends so, by what `tells` says of the bytes that a name holds.
abbrev pub EndsFor : (Option (Option (List ℕ)) → List ℕ → Type 0) → Told → AskedFiles → Status → List ℕ → Type 0
EndsFor tells held None status line = ⊥
EndsFor tells held (Some names) status line = Ends (tells (held names.0)) (tells (held names.1)) status line

-- The check may end so; and where the bytes are known it ends in no other way.
pub record IsEnd (held : Told) (asked : AskedFiles) (status : Status) (line : List ℕ) : Type 0 where
  pub ends : EndsFor IsHeld held asked status line
  pub alone : (other : Status) (text : List ℕ) → EndsFor IsKnown held asked other text → (other ≡ status) × (text ≡ line)

-- The solutions were judged: the line goes to standard output.
abbrev pub IsVerdict : Status → Type 0
IsVerdict Right = Unit {0}
IsVerdict Wrong = Unit {0}
IsVerdict _ = ⊥

-- The line says what is wrong with the texts themselves: it goes to standard error.
abbrev pub IsStop : Status → Type 0
IsStop (Refused kind line) = Unit {0}
IsStop BadText = Unit {0}
IsStop Hidden = Unit {0}
IsStop _ = ⊥

-- The line that goes to standard error with a status that no text gives; nothing with a verdict.
abbrev pub plain_line : Status → List ℕ
plain_line Usage = codes "usage: fzncheck MODEL SOLUTION" ++ line_end
plain_line ReadFault = codes "read fault" ++ line_end
plain_line WriteFault = codes "write fault" ++ line_end
plain_line NoMemory = codes "out of memory" ++ line_end
plain_line _ = []

abbrev pub IsErrorLine : Told → AskedFiles → Status → List ℕ → Type 0
IsErrorLine held asked (Refused kind number) line = IsEnd held asked (Refused kind number) line
IsErrorLine held asked BadText line = IsEnd held asked BadText line
IsErrorLine held asked Hidden line = IsEnd held asked Hidden line
IsErrorLine held asked status line = line ≡ plain_line status

-- A line of which this is so was written whole, or a front of it.
pub record Wrote (IsLine : List ℕ → Type 0) (before after : Option (List ℕ)) : Type 0 where
  pub line : List ℕ
  pub is_line : IsLine line
  pub added : Adds before after line

pub record WroteFront (IsLine : List ℕ → Type 0) (before after : Option (List ℕ)) : Type 0 where
  pub line : List ℕ
  pub is_line : IsLine line
  pub added : AddsFront before after line

-- The line of a verdict.
pub record IsVerdictLine (held : Told) (asked : AskedFiles) (line : List ℕ) : Type 0 where
  pub status : Status
  pub verdict : IsVerdict status
  pub is_end : IsEnd held asked status line

-- ---- what the source may be asked for, and was asked for

-- Where a source tells the names that it may be asked for, they are these two.
abbrev pub CanOpenFiles : Option (List (List ℕ)) → AskedFiles → Type 0
CanOpenFiles None asked = Unit {0}
CanOpenFiles (Some names) None = Unit {0}
CanOpenFiles (Some names) (Some (model, solutions)) = names ≡ model ∷ solutions ∷ []

abbrev pub NamesFiles : AskedFiles → Type 0
NamesFiles None = ⊥
NamesFiles (Some names) = Unit {0}

-- A check may end so before the solutions are asked for.
abbrev pub MayEndEarly : Status → Type 0
MayEndEarly (Refused kind line) = Unit {0}
MayEndEarly Hidden = Unit {0}
MayEndEarly ReadFault = Unit {0}
MayEndEarly NoMemory = Unit {0}
MayEndEarly _ = ⊥

-- And so only once they were.
abbrev pub MayEndLate : Status → Type 0
MayEndLate Usage = ⊥
MayEndLate (Refused kind line) = ⊥
MayEndLate Hidden = ⊥
MayEndLate _ = Unit {0}

-- A source was asked for the model alone, or for the model and then the solutions, and tells this of the last.
abbrev pub WereAsked : Told → Text × Text → (before after : Option (List (List ℕ))) → Option (List ℕ) → Bool → Status → Type 0
WereAsked held names before after left is_open status =
    (MayEndEarly status × WasAsked (held names.0) before after left is_open (status ≡ ReadFault))
    ⊎ (MayEndLate status × WasAsked (held names.1) (later_names before) after left is_open (status ≡ ReadFault))

abbrev pub WereAskedFor : Told → AskedFiles → (before after : Option (List (List ℕ))) → Option (List ℕ) → Bool → Status → Type 0
WereAskedFor held None before after left is_open status = ⊥
WereAskedFor held (Some names) before after left is_open status = WereAsked held names before after left is_open status

-- The exit status of the program.
abbrev pub status_code : Status → ℕ
status_code Right = 0
status_code Usage = 1
status_code (Refused kind line) = 2
status_code ReadFault = 3
status_code WriteFault = 4
status_code NoMemory = 5
status_code Wrong = 6
status_code BadText = 7
status_code Hidden = 8
