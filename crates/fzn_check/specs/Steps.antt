-- How a check ends, step by step, before anything of it is written.
use Rattle.std.specs.Prelude.{◌≡◌, ℕ, List, Option, None}
use Rattle.fzn_io.specs.Faults.{CountRose}
use Rattle.fzn_io.specs.Streams.{IsHeld}
use Rattle.fzn_io.specs.declared.whole.ReadError.{ReadError}
use Rattle.constraint_model.specs.declared.model.FznModel.{FznModel}
use Rattle.fzn_print.specs.declared.answers.Answer.{Answer}
use Rattle.fzn_check.specs.Endings.{EndsEarly, EndsJudged, EndsLate}
use Rattle.fzn_check.specs.Lines.{bad_text_line}
use Rattle.fzn_check.specs.Outcome.{AskedFiles, IsEnd, IsStop, IsVerdict, MayEndEarly, MayEndLate, NamesFiles, Told}
use Rattle.fzn_check.specs.declared.status.Status.{Status}
use Rattle.fzn_check.specs.declared.status.Status.TheVariants.{Usage, ReadFault, NoMemory, BadText}
use Rattle.fzn_check.specs.declared.ending.Ending.{Ending}

-- the status of an end
abbrev pub status_in : Ending → Status
status_in (Ending.Judged status line) = status
status_in (Ending.Stopped status line) = status
status_in (Ending.Plain status) = status

-- ---- an end whose status and line are known, or refused memory

abbrev pub StopsWith : Status → List ℕ → Ending → Type 0
StopsWith status text (Ending.Judged s line) = ⊥
StopsWith status text (Ending.Stopped s line) = (s ≡ status) × (line.items ≡ text)
StopsWith status text (Ending.Plain s) = s ≡ NoMemory

abbrev pub JudgesWith : Status → List ℕ → Ending → Type 0
JudgesWith status text (Ending.Judged s line) = (s ≡ status) × (line.items ≡ text)
JudgesWith status text (Ending.Stopped s line) = ⊥
JudgesWith status text (Ending.Plain s) = s ≡ NoMemory

-- ---- the cause of an end that no text gives, by the counts of the source's faults

abbrev pub IsReadCause : ℕ → ℕ → Status → Type 0
IsReadCause before after ReadFault = CountRose before after
IsReadCause before after NoMemory = Unit {0}
IsReadCause before after _ = ⊥

abbrev pub IsWordsCause : AskedFiles → ℕ → ℕ → Status → Type 0
IsWordsCause asked before after Usage = asked ≡ None
IsWordsCause asked before after ReadFault = NamesFiles asked × CountRose before after
IsWordsCause asked before after NoMemory = Unit {0}
IsWordsCause asked before after _ = ⊥

-- ---- an end that the model's text gives

abbrev pub IsEarlyText : List ℕ → Ending → Type 0
IsEarlyText text (Ending.Judged status line) = ⊥
IsEarlyText text (Ending.Stopped status line) = IsStop status × MayEndEarly status × EndsEarly text status line.items
IsEarlyText text (Ending.Plain status) = status ≡ NoMemory

pub record IsEarlyEnd (held : Option (Option (List ℕ))) (status : Status) (line : List ℕ) : Type 0 where
  pub stops : IsStop status
  pub early : MayEndEarly status
  pub text : List ℕ
  pub told : IsHeld held text
  pub ends : EndsEarly text status line

abbrev pub IsEarlyEnding : Option (Option (List ℕ)) → ℕ → ℕ → Ending → Type 0
IsEarlyEnding held before after (Ending.Judged status line) = ⊥
IsEarlyEnding held before after (Ending.Stopped status line) = IsEarlyEnd held status line.items
IsEarlyEnding held before after (Ending.Plain status) = IsReadCause before after status

-- ---- an end that the solutions' text gives

-- the answer is judged so
abbrev pub IsJudgement : FznModel → Answer → Ending → Type 0
IsJudgement model answer (Ending.Judged status line) = IsVerdict status × EndsJudged model answer status line.items
IsJudgement model answer (Ending.Stopped status line) = ⊥
IsJudgement model answer (Ending.Plain status) = status ≡ NoMemory

-- the text ends it so, and in no other way
pub record IsLateEnd (model : FznModel) (bytes : List ℕ) (status : Status) (line : List ℕ) : Type 0 where
  pub late : MayEndLate status
  pub ends : EndsLate model bytes status line
  pub alone : (other : Status) (text : List ℕ) → EndsLate model bytes other text → (other ≡ status) × (text ≡ line)

abbrev pub IsLateEnding : FznModel → List ℕ → Ending → Type 0
IsLateEnding model bytes (Ending.Judged status line) = IsVerdict status × IsLateEnd model bytes status line.items
IsLateEnding model bytes (Ending.Stopped status line) = IsStop status × IsLateEnd model bytes status line.items
IsLateEnding model bytes (Ending.Plain status) = status ≡ NoMemory

pub record IsHeldEnd (model : FznModel) (held : Option (Option (List ℕ))) (status : Status) (line : List ℕ) : Type 0 where
  pub bytes : List ℕ
  pub told : IsHeld held bytes
  pub is_end : IsLateEnd model bytes status line

abbrev pub IsHeldEnding : FznModel → Option (Option (List ℕ)) → ℕ → ℕ → Ending → Type 0
IsHeldEnding model held before after (Ending.Judged status line) = IsVerdict status × IsHeldEnd model held status line.items
IsHeldEnding model held before after (Ending.Stopped status line) = IsStop status × IsHeldEnd model held status line.items
IsHeldEnding model held before after (Ending.Plain status) = IsReadCause before after status

-- how the check ends where the solutions' text isn't read whole
abbrev pub IsUnread : ReadError → Ending → Type 0
IsUnread ReadError.ReadFault end = end ≡ Ending.Plain ReadFault
IsUnread ReadError.TooLong end = StopsWith BadText bad_text_line end
IsUnread ReadError.NoMemory end = end ≡ Ending.Plain NoMemory

-- ---- an end of the whole

abbrev pub IsEnding : Told → AskedFiles → ℕ → ℕ → Ending → Type 0
IsEnding held asked before after (Ending.Judged status line) = IsVerdict status × IsEnd held asked status line.items
IsEnding held asked before after (Ending.Stopped status line) = IsStop status × IsEnd held asked status line.items
IsEnding held asked before after (Ending.Plain status) = IsWordsCause asked before after status
