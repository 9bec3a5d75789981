-- What the top call promises: its statuses, each with its cause, and what it writes.
--
-- The statuses and their lines are this program's own.
use Rattle.std.specs.Prelude.{◌≡◌, ℕ, ◌≤◌, List, [], ◌∷◌, ◌++◌, length, take, codes, Bool, true, false, Option, Some, None, String}
use Rattle.std.specs.declared.alloc.Global.{Global}
use Rattle.fzn_io.specs.Faults.{CountRose}
use Rattle.fzn_io.specs.Streams.{Adds, IsHeld}
use Rattle.fzn_print.specs.AnswerText.{line_end}
use Rattle.command_line.specs.declared.words.Options.{Options}
use Rattle.command_line.specs.CommandLine.{InputOf, file, made as made_of, config_of}
use Rattle.made_model.specs.Made.{made}
use Rattle.model_text.specs.Texts.{HasFaultOn}
use Rattle.model_text.specs.Files.{IsFaultOfTold, refusal_line}
use Rattle.solver_top.specs.Answers.{AreDomainsOf, IsAnswerOf, IsLineOf}
use Rattle.solver_top.specs.declared.status.Status.{Status}
use Rattle.solver_top.specs.declared.status.Status.TheVariants.{Answered, Usage, Refused, ReadFault, WriteFault, NoMemory}

-- What the words ask for: how the search is to be made, and of what.
abbrev pub Asked : Type 0
Asked = Options × InputOf

-- What a source tells of each name: nothing (`None`), that it isn't there (`Some None`), or its bytes.
abbrev pub Told : Type 0
Told = List ℕ → Option (Option (List ℕ))

-- What is told of the text that is asked for. A made text is always known.
abbrev pub told_of_input : Told → InputOf → Option (Option (List ℕ))
told_of_input held (file name) = held name
told_of_input held (made_of n) = Some (Some (made n))

abbrev pub told_text : Told → Option Asked → Option (Option (List ℕ))
told_text held None = None
told_text held (Some asked) = told_of_input held asked.1

-- The same of the text that the words ask for.
abbrev pub asked_text : Told → List (String Global) → Option (Option (List ℕ))
asked_text held words = told_text held (config_of words)

-- These bytes are what the search gives of the text: of a file an answer, of a made text its line.
abbrev pub IsFound : Options → InputOf → (text bytes : List ℕ) → Type 0
IsFound options (file name) text bytes = IsAnswerOf options text bytes
IsFound options (made_of n) text bytes = IsLineOf options n text bytes

-- These bytes are what is to be written of the text: with `--domains` the domains that propagation leaves, whatever else is
-- asked for, and without it what the search gives.
abbrev pub IsWrittenWhere : Bool → Options → InputOf → (text bytes : List ℕ) → Type 0
IsWrittenWhere true options input text bytes = AreDomainsOf text bytes
IsWrittenWhere false options input text bytes = IsFound options input text bytes

abbrev pub IsWritten : Options → InputOf → (text bytes : List ℕ) → Type 0
IsWritten options input text bytes = IsWrittenWhere options.domains options input text bytes

-- The same of the text that is asked for.
pub record IsAnswerOfInput (held : Told) (options : Options) (input : InputOf) (bytes : List ℕ) : Type 0 where
  pub text : List ℕ
  pub told : IsHeld (told_of_input held input) text
  pub written : IsWritten options input text bytes

abbrev pub IsAnswerOfWords : Told → Option Asked → List ℕ → Type 0
IsAnswerOfWords held None bytes = ⊥
IsAnswerOfWords held (Some asked) bytes = IsAnswerOfInput held asked.0 asked.1 bytes

-- It was written whole.
pub record WroteAnswer (held : Told) (asked : Option Asked) (before after : Option (List ℕ)) : Type 0 where
  pub bytes : List ℕ
  pub answers : IsAnswerOfWords held asked bytes
  pub added : Adds before after bytes

-- A front of it was written.
pub record WroteFront (held : Told) (asked : Option Asked) (before after : Option (List ℕ)) : Type 0 where
  pub bytes : List ℕ
  pub answers : IsAnswerOfWords held asked bytes
  pub count : ℕ
  pub within : count ≤ length bytes
  pub added : Adds before after (take count bytes)

-- The words name a file that is to be read.
abbrev pub ReadsFile : Option Asked → Type 0
ReadsFile None = ⊥
ReadsFile (Some (options, file name)) = Unit {0}
ReadsFile (Some (options, made_of n)) = ⊥

-- Where a source tells the names that it may be asked for, they are this file's alone.
abbrev pub IsFileAlone : Option (List (List ℕ)) → List ℕ → Type 0
IsFileAlone None name = Unit {0}
IsFileAlone (Some names) name = names ≡ name ∷ []

-- The source may be asked for the file that the words name.
abbrev pub IsAskedAlone : List (List ℕ) → Option Asked → Type 0
IsAskedAlone names None = Unit {0}
IsAskedAlone names (Some (options, file name)) = names ≡ name ∷ []
IsAskedAlone names (Some (options, made_of n)) = Unit {0}

abbrev pub CanOpen : Option (List (List ℕ)) → Option Asked → Type 0
CanOpen None asked = Unit {0}
CanOpen (Some names) asked = IsAskedAlone names asked

-- Why a text may have no answer.
abbrev pub IsTextCause : List ℕ → Status → Type 0
IsTextCause text (Refused kind line) = HasFaultOn text kind line
IsTextCause text NoMemory = Unit {0}
IsTextCause text _ = ⊥

-- Why a file may have no answer; its counts of faults before and after.
abbrev pub IsFileCause : Option (Option (List ℕ)) → ℕ → ℕ → Status → Type 0
IsFileCause held before after (Refused kind line) = IsFaultOfTold held kind line
IsFileCause held before after ReadFault = CountRose before after
IsFileCause held before after NoMemory = Unit {0}
IsFileCause held before after _ = ⊥

-- Why words may have no answer.
abbrev pub IsInputCause : Told → InputOf → ℕ → ℕ → Status → Type 0
IsInputCause held (file name) before after status = IsFileCause (held name) before after status
IsInputCause held (made_of n) before after status = IsTextCause (made n) status

abbrev pub IsUsageOrMemory : Status → Type 0
IsUsageOrMemory Usage = Unit {0}
IsUsageOrMemory NoMemory = Unit {0}
IsUsageOrMemory _ = ⊥

abbrev pub IsWordsCause : Told → Option Asked → ℕ → ℕ → Status → Type 0
IsWordsCause held None before after status = IsUsageOrMemory status
IsWordsCause held (Some asked) before after status = IsInputCause held asked.1 before after status

abbrev pub IsRefused : Status → Type 0
IsRefused status = (kind : ℕ) × (line : ℕ) × (status ≡ Refused kind line)

-- The exit status of the program.
abbrev pub status_code : Status → ℕ
status_code Answered = 0
status_code Usage = 1
status_code (Refused kind line) = 2
status_code ReadFault = 3
status_code WriteFault = 4
status_code NoMemory = 5

-- The line that goes to standard error with a status.
abbrev pub status_line : Status → List ℕ
status_line Answered = []
status_line Usage = codes "usage: turbofzn [-a] [-p N] [--lanes N] [--depth D] [--node-limit N] [--round-limit N] [--domains] [--steal] (FILE or --make N)" ++ line_end
status_line (Refused kind line) = refusal_line kind line
status_line ReadFault = codes "read fault" ++ line_end
status_line WriteFault = codes "write fault" ++ line_end
status_line NoMemory = codes "out of memory" ++ line_end
