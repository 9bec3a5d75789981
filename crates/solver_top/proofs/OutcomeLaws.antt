-- Laws on the causes of the statuses.
use Rattle.std.proofs.Common.{◌≡◌, ◌⊎◌, inl, inr, ℕ, List, [], ◌∷◌, Bool, true, false, Option, None, Some, Result, Ok, Err, IfErr, subst, sym, ap, refl, ◌∙◌}
use Rattle.fzn_io.specs.Faults.{CountRose}
use Rattle.fzn_io.specs.Streams.{Adds, AddsFront, IsHeld, IsNextName}
use Rattle.constraint_model.specs.declared.model.FznModel.{FznModel}
use Rattle.command_line.specs.declared.words.Input.{Input}
use Rattle.command_line.specs.declared.words.Options.{Options}
use Rattle.std.specs.Borrow.{Bor}
use Rattle.command_line.specs.CommandLine.{InputOf, file, input_meant, made as made_of}
use Rattle.made_model.specs.Made.{made}
use Rattle.model_text.specs.Texts.{IsTextOf, IsFaultOf, HasFaultOn, fault_line}
use Rattle.model_text.specs.Files.{IsFaultOfTold, ToldHasFault, ToldHasModel}
use Rattle.solver_top.specs.Answers.{AreDomainsOf, IsAnswerOf, IsLineOf}
use Rattle.solver_top.specs.Outcome.{Asked, CanOpen, IsAnswerOfInput, IsAnswerOfWords, IsFileAlone, IsFileCause, IsFound, IsInputCause, IsRefused, IsTextCause, IsWordsCause, IsWritten, IsWrittenWhere, ReadsFile, Told, WroteAnswer, WroteFront, told_of_input, told_text}
use Rattle.solver_top.specs.declared.status.Status.{Status}
use Rattle.solver_top.specs.declared.status.Status.TheVariants.{Answered, Usage, Refused, ReadFault, WriteFault, NoMemory}

-- a source that may be asked for a file alone may be asked for it next
pub next_name : (names : Option (List (List ℕ))) (name : List ℕ) → IsFileAlone names name → IsNextName names name
next_name None name alone = tt
next_name (Some []) name alone = absurd (let e : [] ≡ name ∷ [] = alone in cc)
next_name (Some (next ∷ later)) name alone = let e : next ∷ later ≡ name ∷ [] = alone in cc

-- the file that is asked for may be opened
pub can_open : (names : Option (List (List ℕ))) (options : Options) (name : List ℕ) → CanOpen names (Some (options, file name)) → IsFileAlone names name
can_open None options name can = tt
can_open (Some names) options name can = can

-- the cause of a text is one of its file
file_cause : (held : Option (Option (List ℕ))) (text : List ℕ) (before after : ℕ) (status : Status) → IsHeld held text → IsTextCause text status → IsFileCause held before after status
file_cause held text before after Answered told cause = absurd cause
file_cause held text before after Usage told cause = absurd cause
file_cause held text before after (Refused kind line) told cause = record { text = text; told = told; fault = cause }
file_cause held text before after ReadFault told cause = absurd cause
file_cause held text before after WriteFault told cause = absurd cause
file_cause held text before after NoMemory told cause = tt

-- and one of the text that is asked for
input_cause : (held : Told) (input : InputOf) (text : List ℕ) (before after : ℕ) (status : Status) → IsHeld (told_of_input held input) text → IsTextCause text status → IsInputCause held input before after status
input_cause held (file name) text before after status told cause = file_cause (held name) text before after status told cause
input_cause held (made_of n) text before after status told cause = subst (λ t. IsTextCause t status) told cause

pub input_cause_of_result : {V : Type 0} (held : Told) (input : InputOf) (text : List ℕ) (before after : ℕ) (result : Result V Status) → IsHeld (told_of_input held input) text → IfErr result (IsTextCause text)
    → IfErr result (IsInputCause held input before after)
input_cause_of_result held input text before after (Ok v) told cause = cause
input_cause_of_result held input text before after (Err status) told cause = input_cause held input text before after status told cause

-- the status that is reported: this one, or want of memory
abbrev pub IsReported : Status → Status → Type 0
IsReported result status = (result ≡ status) ⊎ (IsRefused status × (result ≡ NoMemory))

-- writing ended with its cause, and the cause is ruled out
pub ends_answered : (result s r : Status) (fault : Type 0) → s ≡ r → (r ≡ Answered) ⊎ (r ≡ WriteFault) → (r ≡ WriteFault → fault) → (fault → ⊥) → IsReported result s → (result ≡ Answered) ⊎ (result ≡ NoMemory)
ends_answered result s r fault same (inl answered) cause none (inl reported) = inl (reported ∙ same ∙ answered)
ends_answered result s r fault same (inr refused) cause none (inl reported) = absurd (none (cause refused))
ends_answered result s r fault same written cause none (inr reported) = inr reported.1

no_memory : (result s : Status) → s ≡ NoMemory → IsReported result s → result ≡ NoMemory
no_memory result s same (inl reported) = reported ∙ same
no_memory result s same (inr reported) = reported.1

-- ---- causes by what was asked

-- the words are refused where they ask for nothing
pub usage_asks_nothing : (held : Told) (asked : Option Asked) (before after : ℕ) → IsWordsCause held asked before after Usage → asked ≡ None
usage_asks_nothing held None before after cause = refl
usage_asks_nothing held (Some (options, file name)) before after cause = absurd cause
usage_asks_nothing held (Some (options, made_of n)) before after cause = absurd cause

pub nothing_asked : (held : Told) (before after : ℕ) (status : Status) → IsWordsCause held None before after status → (status ≡ Usage) ⊎ (status ≡ NoMemory)
nothing_asked held before after Answered cause = absurd cause
nothing_asked held before after Usage cause = inl refl
nothing_asked held before after (Refused kind line) cause = absurd cause
nothing_asked held before after ReadFault cause = absurd cause
nothing_asked held before after WriteFault cause = absurd cause
nothing_asked held before after NoMemory cause = inr refl

pub refused_text : (held : Told) (asked : Option Asked) (before after kind line : ℕ) → IsWordsCause held asked before after (Refused kind line) → IsFaultOfTold (told_text held asked) kind line
refused_text held None before after kind line cause = absurd cause
refused_text held (Some (options, file name)) before after kind line cause = cause
refused_text held (Some (options, made_of n)) before after kind line cause = record { text = made n; told = refl; fault = cause }

pub unread_file : (held : Told) (asked : Option Asked) (before after : ℕ) → IsWordsCause held asked before after ReadFault → ReadsFile asked × CountRose before after
unread_file held None before after cause = absurd cause
unread_file held (Some (options, file name)) before after cause = (tt, cause)
unread_file held (Some (options, made_of n)) before after cause = absurd cause

pub never_answered : (held : Told) (asked : Option Asked) (before after : ℕ) → IsWordsCause held asked before after Answered → ⊥
never_answered held None before after cause = cause
never_answered held (Some (options, file name)) before after cause = cause
never_answered held (Some (options, made_of n)) before after cause = cause

pub never_unwritten : (held : Told) (asked : Option Asked) (before after : ℕ) → IsWordsCause held asked before after WriteFault → ⊥
never_unwritten held None before after cause = cause
never_unwritten held (Some (options, file name)) before after cause = cause
never_unwritten held (Some (options, made_of n)) before after cause = cause

module _ (one_fault : (text : List ℕ) (k l at place : ℕ) → IsFaultOf text k at → IsFaultOf text l place → (k ≡ l) × (at ≡ place))
    (never_both : (text : List ℕ) (m : FznModel) (k at : ℕ) → IsTextOf text m → IsFaultOf text k at → ⊥) where
  -- a text with a model has no fault
  no_fault : (t : Option (Option (List ℕ))) (kind line : ℕ) → ToldHasModel t → IsFaultOfTold t kind line → ⊥
  no_fault None kind line has fault = has
  no_fault (Some None) kind line has fault = has
  no_fault (Some (Some text)) kind line has f =
      never_both text has.0 kind f.fault.at has.1 (subst (λ t. IsFaultOf t kind f.fault.at) f.told f.fault.fault)

  model_is_asked : (held : Told) (asked : Option Asked) → asked ≡ None → ToldHasModel (told_text held asked) → ⊥
  model_is_asked held None is has = has
  model_is_asked held (Some a) is has = cc

  fault_is_asked : (held : Told) (asked : Option Asked) (kind line : ℕ) → asked ≡ None → ToldHasFault (told_text held asked) kind line → ⊥
  fault_is_asked held None kind line is has = has
  fault_is_asked held (Some a) kind line is has = cc

  -- a text with a model and a source without a fault leave want of memory alone
  unread : (r : Status) (held : Told) (asked : Option Asked) (before after : ℕ) → IsWordsCause held asked before after r → ToldHasModel (told_text held asked) → (CountRose before after → ⊥) → r ≡ NoMemory
  unread Answered held asked before after cause has none = absurd (never_answered held asked before after cause)
  unread Usage held asked before after cause has none = absurd (model_is_asked held asked (usage_asks_nothing held asked before after cause) has)
  unread (Refused kind line) held asked before after cause has none = absurd (no_fault (told_text held asked) kind line has (refused_text held asked before after kind line cause))
  unread ReadFault held asked before after cause has none = absurd (none (unread_file held asked before after cause).1)
  unread WriteFault held asked before after cause has none = absurd (never_unwritten held asked before after cause)
  unread NoMemory held asked before after cause has none = refl

  pub ends_unread : (result s r : Status) (held : Told) (asked : Option Asked) (before after : ℕ) → s ≡ r → IsWordsCause held asked before after r → ToldHasModel (told_text held asked)
      → (CountRose before after → ⊥) → IsReported result s → (result ≡ Answered) ⊎ (result ≡ NoMemory)
  ends_unread result s r held asked before after same cause has none reported = inr (no_memory result s (same ∙ unread r held asked before after cause has none) reported)

  -- ---- faults

  -- an answered text has no fault
  written_model : (domains : Bool) (options : Options) (input : InputOf) (text bytes : List ℕ) → IsWrittenWhere domains options input text bytes → (m : FznModel) × IsTextOf text m
  written_model true options input text bytes written = (written.model, written.is_model)
  written_model false options (file name) text bytes written = (written.model, written.is_model)
  written_model false options (made_of n) text bytes written = (written.model, written.is_model)

  no_text_answer : (t : Option (Option (List ℕ))) (text : List ℕ) (kind line : ℕ) (m : FznModel) → ToldHasFault t kind line → IsHeld t text → IsTextOf text m → ⊥
  no_text_answer None text kind line m fault held is = fault
  no_text_answer (Some None) text kind line m fault held is = fault
  no_text_answer (Some (Some other)) text kind line m fault held is = never_both other m kind fault.at (subst (λ t. IsTextOf t m) held is) fault.fault

  no_answer : (held : Told) (asked : Option Asked) (kind line : ℕ) (bytes : List ℕ) → ToldHasFault (told_text held asked) kind line → IsAnswerOfWords held asked bytes → ⊥
  no_answer held None kind line bytes fault answer = fault
  no_answer held (Some a) kind line bytes fault answer =
      let model = written_model a.0.domains a.0 a.1 answer.text bytes answer.written in
      no_text_answer (told_of_input held a.1) answer.text kind line model.0 fault answer.told model.1

  pub no_written_fault : (result : Status) (held : Told) (asked : Option Asked) (kind line : ℕ) (bytes : List ℕ) → ToldHasFault (told_text held asked) kind line → IsAnswerOfWords held asked bytes
      → (result ≡ Refused kind line) ⊎ (result ≡ NoMemory)
  no_written_fault result held asked kind line bytes fault answer = absurd (no_answer held asked kind line bytes fault answer)

  -- one fault, on one line
  one_line : (text : List ℕ) (kind line k l : ℕ) → HasFaultOn text kind line → HasFaultOn text k l → (k ≡ kind) × (l ≡ line)
  one_line text kind line k l told has =
      let same = one_fault text k kind has.at told.at has.fault told.fault in
      (same.0, has.is_line ∙ ap (λ (n : ℕ). fault_line text n has.at) same.0 ∙ ap (fault_line text kind) same.1 ∙ sym told.is_line)

  same_fault : (t : Option (Option (List ℕ))) (kind line k l : ℕ) → ToldHasFault t kind line → IsFaultOfTold t k l → (k ≡ kind) × (l ≡ line)
  same_fault None kind line k l told has = absurd told
  same_fault (Some None) kind line k l told has = absurd told
  same_fault (Some (Some text)) kind line k l told has = one_line text kind line k l told (subst (λ t. HasFaultOn t k l) has.told has.fault)

  faulty : (r : Status) (held : Told) (asked : Option Asked) (kind line before after : ℕ) → IsWordsCause held asked before after r → ToldHasFault (told_text held asked) kind line
      → (CountRose before after → ⊥) → (r ≡ Refused kind line) ⊎ (r ≡ NoMemory)
  faulty Answered held asked kind line before after cause has none = absurd (never_answered held asked before after cause)
  faulty Usage held asked kind line before after cause has none = absurd (fault_is_asked held asked kind line (usage_asks_nothing held asked before after cause) has)
  faulty (Refused k l) held asked kind line before after cause has none =
      let same = same_fault (told_text held asked) kind line k l has (refused_text held asked before after k l cause) in
      inl (ap (λ (n : ℕ). Refused n l) same.0 ∙ ap (Refused kind) same.1)
  faulty ReadFault held asked kind line before after cause has none = absurd (none (unread_file held asked before after cause).1)
  faulty WriteFault held asked kind line before after cause has none = absurd (never_unwritten held asked before after cause)
  faulty NoMemory held asked kind line before after cause has none = inr refl

  reported_fault : (result s : Status) (kind line : ℕ) → (s ≡ Refused kind line) ⊎ (s ≡ NoMemory) → IsReported result s → (result ≡ Refused kind line) ⊎ (result ≡ NoMemory)
  reported_fault result s kind line (inl same) (inl reported) = inl (reported ∙ same)
  reported_fault result s kind line (inr same) (inl reported) = inr (reported ∙ same)
  reported_fault result s kind line ends (inr reported) = inr reported.1

  pub ends_refused : (result s r : Status) (held : Told) (asked : Option Asked) (kind line before after : ℕ) → s ≡ r → IsWordsCause held asked before after r
      → ToldHasFault (told_text held asked) kind line → (CountRose before after → ⊥) → IsReported result s → (result ≡ Refused kind line) ⊎ (result ≡ NoMemory)
  ends_refused result s r held asked kind line before after same cause has none reported =
      let ends = subst (λ (q : Status). (q ≡ Refused kind line) ⊎ (q ≡ NoMemory)) (sym same) (faulty r held asked kind line before after cause has none) in
      reported_fault result s kind line ends reported

-- ---- what is to be written

pub domains_written : (options : Options) (input : InputOf) (text bytes : List ℕ) → options.domains ≡ true → AreDomainsOf text bytes → IsWritten options input text bytes
domains_written options input text bytes on left = subst (λ b. IsWrittenWhere b options input text bytes) (sym on) left

pub found_written : (options : Options) (input : InputOf) (text bytes : List ℕ) → options.domains ≡ false → IsFound options input text bytes → IsWritten options input text bytes
found_written options input text bytes off found = subst (λ b. IsWrittenWhere b options input text bytes) (sym off) found

-- of a file an answer, and of a made text its line
pub file_found : (options : Options) (input : Input) (name : Bor (List ℕ)) (text bytes : List ℕ) → input ≡ Input.File name → IsAnswerOf options text bytes → IsFound options (input_meant input) text bytes
file_found options input name text bytes is answer = subst (λ i. IsFound options (input_meant i) text bytes) (sym is) answer

pub made_found : (options : Options) (input : Input) (n : ℕ) (text bytes : List ℕ) → input ≡ Input.Made n → IsLineOf options n text bytes → IsFound options (input_meant input) text bytes
made_found options input n text bytes is line = subst (λ i. IsFound options (input_meant i) text bytes) (sym is) line

-- a made text is held, and is refused for want of memory alone
pub made_held : (held : Told) (input : Input) (n : ℕ) (text : List ℕ) → input ≡ Input.Made n → text ≡ made n → IsHeld (told_of_input held (input_meant input)) text
made_held held input n text is same = subst (λ i. IsHeld (told_of_input held (input_meant i)) text) (sym is) same

pub made_cause : (held : Told) (input : Input) (n : ℕ) (before after : ℕ) (status : Status) → input ≡ Input.Made n → status ≡ NoMemory → IsInputCause held (input_meant input) before after status
made_cause held input n before after status is memory =
    subst (λ i. IsInputCause held (input_meant i) before after status) (sym is) (subst (λ s. IsTextCause (made n) s) (sym memory) tt)

pub answer_of_held : (held : Told) (options : Options) (input : InputOf) (text shown bytes : List ℕ) → IsHeld (told_of_input held input) text → shown ≡ text → IsWritten options input shown bytes
    → IsAnswerOfInput held options input bytes
answer_of_held held options input text shown bytes told same written =
    record { text = shown; told = subst (λ t. IsHeld (told_of_input held input) t) (sym same) told; written = written }

-- ---- what is reported

-- the status that is reported is the one before, but for want of memory
pub status_before : (result s x : Status) → (x ≡ NoMemory → ⊥) → IsReported result s → result ≡ x → s ≡ x
status_before result s x known (inl reported) is = sym reported ∙ is
status_before result s x known (inr reported) is = absurd (known (sym is ∙ reported.1))

-- a status of writing is no other
written_alone : (s r x : Status) → s ≡ r → (r ≡ Answered) ⊎ (r ≡ WriteFault) → (x ≡ Answered → ⊥) → (x ≡ WriteFault → ⊥) → s ≡ x → ⊥
written_alone s r x same (inl ends) answered unwritten is = answered (sym is ∙ same ∙ ends)
written_alone s r x same (inr ends) answered unwritten is = unwritten (sym is ∙ same ∙ ends)

pub never_reported : (result s r x : Status) → (x ≡ NoMemory → ⊥) → (x ≡ Answered → ⊥) → (x ≡ WriteFault → ⊥) → s ≡ r → (r ≡ Answered) ⊎ (r ≡ WriteFault) → IsReported result s → result ≡ x → ⊥
never_reported result s r x known answered unwritten same ends reported is = written_alone s r x same ends answered unwritten (status_before result s x known reported is)

pub cause_reported : (result s r x : Status) (held : Told) (asked : Option Asked) (before after : ℕ) → (x ≡ NoMemory → ⊥) → s ≡ r → IsWordsCause held asked before after r → IsReported result s → result ≡ x
    → IsWordsCause held asked before after x
cause_reported result s r x held asked before after known same cause reported is =
    subst (λ q. IsWordsCause held asked before after q) (sym same ∙ status_before result s x known reported is) cause

pub usage_reported : (result s r : Status) (held : Told) (asked : Option Asked) (before after : ℕ) → s ≡ r → IsWordsCause held asked before after r → IsReported result s → result ≡ Usage → asked ≡ None
usage_reported result s r held asked before after same cause reported is =
    usage_asks_nothing held asked before after (cause_reported result s r Usage held asked before after (λ e. cc) same cause reported is)

pub refused_reported : (result s r : Status) (held : Told) (asked : Option Asked) (before after kind line : ℕ) → s ≡ r → IsWordsCause held asked before after r → IsReported result s
    → result ≡ Refused kind line → IsFaultOfTold (told_text held asked) kind line
refused_reported result s r held asked before after kind line same cause reported is =
    refused_text held asked before after kind line (cause_reported result s r (Refused kind line) held asked before after (λ e. cc) same cause reported is)

pub read_reported : (result s r : Status) (held : Told) (asked : Option Asked) (before after : ℕ) → s ≡ r → IsWordsCause held asked before after r → IsReported result s → result ≡ ReadFault
    → ReadsFile asked × CountRose before after
read_reported result s r held asked before after same cause reported is =
    unread_file held asked before after (cause_reported result s r ReadFault held asked before after (λ e. cc) same cause reported is)

reported_either : (result s x : Status) → (s ≡ x) ⊎ (s ≡ NoMemory) → IsReported result s → (result ≡ x) ⊎ (result ≡ NoMemory)
reported_either result s x (inl is) (inl reported) = inl (reported ∙ is)
reported_either result s x (inr is) (inl reported) = inr (reported ∙ is)
reported_either result s x is (inr reported) = inr reported.1

pub nothing_reported : (result s r : Status) (held : Told) (asked : Option Asked) (before after : ℕ) → s ≡ r → IsWordsCause held asked before after r → IsReported result s → asked ≡ None
    → (result ≡ Usage) ⊎ (result ≡ NoMemory)
nothing_reported result s r held asked before after same cause reported none =
    let ends = nothing_asked held before after r (subst (λ a. IsWordsCause held a before after r) none cause) in
    reported_either result s Usage (subst (λ q. (q ≡ Usage) ⊎ (q ≡ NoMemory)) (sym same) ends) reported

pub nothing_answered : (held : Told) (asked : Option Asked) (bytes : List ℕ) → IsAnswerOfWords held asked bytes → asked ≡ None → ⊥
nothing_answered held None bytes answer none = answer
nothing_answered held (Some a) bytes answer none = cc

-- ---- what is written

pub memory_cause : (held : Told) (asked : Option Asked) (before after : ℕ) → IsWordsCause held asked before after NoMemory
memory_cause held None before after = tt
memory_cause held (Some (options, file name)) before after = tt
memory_cause held (Some (options, made_of n)) before after = tt

pub wrote_whole : (held : Told) (asked : Option Asked) (before after : Option (List ℕ)) (bytes shown : List ℕ) → shown ≡ bytes → IsAnswerOfWords held asked bytes → Adds before after shown
    → WroteAnswer held asked before after
wrote_whole held asked before after bytes shown same answers added = record { bytes = bytes; answers = answers; added = subst (λ t. Adds before after t) same added }

pub wrote_front : (held : Told) (asked : Option Asked) (before after : Option (List ℕ)) (bytes shown : List ℕ) → shown ≡ bytes → IsAnswerOfWords held asked bytes → AddsFront before after shown
    → WroteFront held asked before after
wrote_front held asked before after bytes shown same answers front =
    let whole : AddsFront before after bytes = subst (λ t. AddsFront before after t) same front in
    record { bytes = bytes; answers = answers; count = whole.0; within = whole.1; added = whole.2 }
