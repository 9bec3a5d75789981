-- The ends of the steps of a check are ends of the check.
use Rattle.std.proofs.Common.{◌≡◌, ◌≢◌, ◌⊎◌, inl, inr, ◌<◌, ◌≤◌, ℕ, zero, suc, ℤ, pos, List, [], ◌∷◌, length, Bool, false, Option, Some, None, All, refl, sym, ap, subst, ◌∙◌, arith}
use Rattle.std.specs.Prelude.{slice_index_or}
use Rattle.std.proofs.lemmas.Bool.{cases_order}
use Rattle.std.proofs.lemmas.List.Elements.{All-cons}
use Rattle.fzn_io.specs.Faults.{CountRose, last_count}
use Rattle.fzn_io.specs.Streams.{Adds, AddsFront, IsHeld, IsLonger, IsNextName, IsPartRead, later_names}
use Rattle.fzn_io.specs.declared.whole.ReadError.{ReadError}
use Rattle.clap.specs.Walk.{Text}
use Rattle.constraint_model.specs.declared.model.FznModel.{FznModel}
use Rattle.fzn_print.specs.declared.answers.Answer.{Answer}
use Rattle.fzn_print.specs.Reading.{AllPrinted, AreValues, IsReading, IsValue}
use Rattle.constraint_model.specs.Numbers.{IsInProfile}
use Rattle.constraint_model.specs.declared.model.VarDecl.{VarDecl}
use Rattle.model_text.specs.Texts.{HasFaultOn, IsFaultOf, IsTextOf, most_bytes, too_long}
use Rattle.model_text.specs.Files.{IsFaultOfTold, WasAsked, refusal_line}
use Rattle.fzn_check.specs.Lines.{bad_text_line}
use Rattle.fzn_check.specs.Endings.{Ends, EndsEarly, EndsJudged, EndsLate, EndsRead, IsBadText}
use Rattle.fzn_check.specs.Outcome.{AskedFiles, CanOpenFiles, EndsFor, IsEnd, IsErrorLine, IsKnown, IsStop, IsVerdict, IsVerdictLine, MayEndEarly, MayEndLate, NamesFiles, Told, WereAsked, WereAskedFor, Wrote, WroteFront, plain_line}
use Rattle.fzn_check.specs.Steps.{IsEarlyEnd, IsEarlyEnding, IsEarlyText, IsEnding, IsHeldEnd, IsHeldEnding, IsJudgement, IsLateEnd, IsLateEnding, IsReadCause, IsUnread, IsWordsCause, JudgesWith, StopsWith, status_in}
use Rattle.fzn_check.specs.declared.ending.Ending.{Ending}
use Rattle.fzn_check.specs.declared.status.Status.{Status}
use Rattle.fzn_check.specs.declared.status.Status.TheVariants.{Right, Usage, Refused, ReadFault, WriteFault, NoMemory, Wrong as WrongSolution, BadText, Hidden}
use Rattle.fzn_check.proofs.EndLaws.{bad_late_alone, early_only, judged_verdict, late_only, read_alone, read_late, verdict_late}

-- ---- the names that a source may be asked for

pub first_name : (names : Option (List (List ℕ))) (asked : Text × Text) → CanOpenFiles names (Some asked) → IsNextName names asked.0
first_name None asked can = tt
first_name (Some []) asked can = let bad : [] ≡ asked.0 ∷ asked.1 ∷ [] = can in cc
first_name (Some (next ∷ later)) asked can = let e : next ∷ later ≡ asked.0 ∷ asked.1 ∷ [] = can in cc

pub second_name : (names after : Option (List (List ℕ))) (asked : Text × Text) → CanOpenFiles names (Some asked) → after ≡ later_names names → IsNextName after asked.1
second_name names after asked can left = subst (λ n. IsNextName n asked.1) (sym left) (of_later names asked can)
  where
    of_later : (names : Option (List (List ℕ))) (asked : Text × Text) → CanOpenFiles names (Some asked) → IsNextName (later_names names) asked.1
    of_later None asked can = tt
    of_later (Some []) asked can = let bad : [] ≡ asked.0 ∷ asked.1 ∷ [] = can in cc
    of_later (Some (next ∷ [])) asked can = let bad : next ∷ [] ≡ asked.0 ∷ asked.1 ∷ [] = can in cc
    of_later (Some (next ∷ second ∷ later)) asked can = let e : next ∷ second ∷ later ≡ asked.0 ∷ asked.1 ∷ [] = can in cc

-- ---- counts of faults

pub rose_later : (before middle after : ℕ) → before ≤ middle → middle ≤ after → CountRose middle after → CountRose before after
rose_later before middle after low high rose = λ few. elim (cases_order before middle) [
  | inl same ↦ subst (λ (n : ℕ). n < after) (sym same) (rose (subst (λ (n : ℕ). n ≢ last_count) same few))
  | inr apart ↦ elim apart [ inl less ↦ omega arith | inr more ↦ absurd (omega arith) ]
]

-- ---- the numbers of a solution

profile_by : (vars : List VarDecl) (a : List ℤ) → length a ≡ length vars → ((k : ℕ) (d : VarDecl) → k < length vars → IsValue (slice_index_or vars k d).is_bool (slice_index_or a k (pos 0))) → All IsInProfile a
profile_by [] [] same each = λ k d inside. absurd (omega arith)
profile_by [] (z ∷ zs) same each = absurd (omega arith)
profile_by (v ∷ vs) [] same each = λ k d inside. absurd (omega arith)
profile_by (v ∷ vs) (z ∷ zs) same each = All-cons IsInProfile z zs (each 0 v (omega arith)).0 (profile_by vs zs (omega arith) (λ k d inside. each (suc k) d (omega arith)))

pub in_profile : (vars : List VarDecl) (a : List ℤ) → AreValues vars a → All IsInProfile a
in_profile vars a values = profile_by vars a values.same_length values.each

-- ---- lines that were printed

-- an end of this status and line, by what the model's text says
pub early_stop : (text : List ℕ) (status : Status) (line : List ℕ) (e : Ending) → StopsWith status line e → IsStop status → MayEndEarly status → EndsEarly text status line → IsEarlyText text e
early_stop text status line (Ending.Judged s l) made stop early ends = absurd made
early_stop text status line (Ending.Stopped s l) made stop early ends = (
  subst IsStop (sym made.0) stop,
  subst MayEndEarly (sym made.0) early,
  subst (λ (q : Status). EndsEarly text q l.items) (sym made.0) (subst (λ (x : List ℕ). EndsEarly text status x) (sym made.1) ends),
)
early_stop text status line (Ending.Plain s) made stop early ends = made

pub judgement : (model : FznModel) (answer : Answer) (status : Status) (line : List ℕ) (e : Ending) → JudgesWith status line e → EndsJudged model answer status line → IsJudgement model answer e
judgement model answer status line (Ending.Judged s l) made judged = (
  subst IsVerdict (sym made.0) (judged_verdict model answer status line judged),
  subst (λ (q : Status). EndsJudged model answer q l.items) (sym made.0) (subst (λ (x : List ℕ). EndsJudged model answer status x) (sym made.1) judged),
)
judgement model answer status line (Ending.Stopped s l) made judged = absurd made
judgement model answer status line (Ending.Plain s) made judged = made

bad_end : (model : FznModel) (bytes : List ℕ) (s : Status) (line : List ℕ) → IsBadText model bytes → s ≡ BadText → line ≡ bad_text_line → IsStop s × IsLateEnd model bytes s line
bad_end model bytes s line bad is says =
    subst (λ (q : Status). IsStop q × IsLateEnd model bytes q line) (sym is)
    (tt, record { late = tt; ends = (bad, says); alone = λ other text h. (let only = bad_late_alone model bytes other text bad h in (only.0, only.1 ∙ sym says)) })

pub bad_stop : (model : FznModel) (bytes : List ℕ) (e : Ending) → IsBadText model bytes → StopsWith BadText bad_text_line e → IsLateEnding model bytes e
bad_stop model bytes (Ending.Judged s l) bad made = absurd made
bad_stop model bytes (Ending.Stopped s l) bad made = bad_end model bytes s l.items bad made.0 made.1
bad_stop model bytes (Ending.Plain s) bad made = made

pub judged_late : (model : FznModel) (bytes : List ℕ) (answer : Answer) (e : Ending) → length bytes ≤ most_bytes → IsReading model bytes answer → ((a : Answer) → IsReading model bytes a → a ≡ answer)
    → IsJudgement model answer e → IsLateEnding model bytes e
judged_late model bytes answer (Ending.Judged s l) short reading alone judged =
    let read : EndsRead model bytes s l.items = record { short = short; answer = answer; reading = reading; judged = judged.1 } in
    (judged.0, record { late = verdict_late s judged.0; ends = read_late model bytes s l.items judged.0 read; alone = λ other text h. read_alone model bytes s other l.items text read alone h })
judged_late model bytes answer (Ending.Stopped s l) short reading alone judged = absurd judged
judged_late model bytes answer (Ending.Plain s) short reading alone judged = judged

-- ---- files

-- a file that is too long
pub too_long_stop : (held : Option (Option (List ℕ))) (before after : ℕ) (e : Ending) → IsFaultOfTold held too_long 0 → StopsWith (Refused too_long 0) (refusal_line too_long 0) e
    → IsEarlyEnding held before after e
too_long_stop held before after (Ending.Judged s l) fault made = absurd made
too_long_stop held before after (Ending.Stopped s l) fault made =
    subst (λ (q : Status). IsEarlyEnd held q l.items) (sym made.0) (record { stops = tt; early = tt; text = fault.text; told = fault.told; ends = (fault.fault, made.1) })
too_long_stop held before after (Ending.Plain s) fault made = subst (IsReadCause before after) (sym made) tt

pub stop_is_early : (e : Ending) → StopsWith (Refused too_long 0) (refusal_line too_long 0) e → MayEndEarly (status_in e)
stop_is_early (Ending.Judged s l) made = absurd made
stop_is_early (Ending.Stopped s l) made = subst MayEndEarly (sym made.0) tt
stop_is_early (Ending.Plain s) made = subst MayEndEarly (sym made) tt

-- a text that is longer than a text may be
long_list : (n : ℕ) → (text : List ℕ) × (length text ≡ n)
long_list zero = ([], refl)
long_list (suc n) = let rest = long_list n in (0 ∷ rest.0, ap suc rest.1)

some_long : (n : ℕ) → n ≡ suc most_bytes → (bytes : List ℕ) × (most_bytes < length bytes)
some_long n e = let some = long_list n in let same = some.1 in (some.0, omega arith)

held_long : (held : Option (Option (List ℕ))) → IsLonger held most_bytes → (bytes : List ℕ) × (IsHeld held bytes × (most_bytes < length bytes))
held_long None longer = let some = some_long (suc most_bytes) refl in (some.0, (tt, some.1))
held_long (Some None) longer = absurd longer
held_long (Some (Some bytes)) longer = (bytes, (refl, longer))

pub long_stop : (model : FznModel) (held : Option (Option (List ℕ))) (before after : ℕ) (e : Ending) → IsLonger held most_bytes → StopsWith BadText bad_text_line e → IsHeldEnding model held before after e
long_stop model held before after (Ending.Judged s l) longer made = absurd made
long_stop model held before after (Ending.Stopped s l) longer made =
    let some = held_long held longer in
    let ends = bad_end model some.0 s l.items (inl some.1.1) made.0 made.1 in
    (ends.0, record { bytes = some.0; told = some.1.0; is_end = ends.1 })
long_stop model held before after (Ending.Plain s) longer made = subst (IsReadCause before after) (sym made) tt

-- a text of solutions that isn't read whole
pub unread_held : (model : FznModel) (held : Option (Option (List ℕ))) (before after : ℕ) (error : ReadError) (e : Ending) → (error ≡ ReadError.ReadFault → CountRose before after)
    → (error ≡ ReadError.TooLong → IsLonger held most_bytes) → IsUnread error e → IsHeldEnding model held before after e
unread_held model held before after ReadError.ReadFault e fault long is = subst (IsHeldEnding model held before after) (sym is) (fault refl)
unread_held model held before after ReadError.TooLong e fault long is = long_stop model held before after e (long refl) is
unread_held model held before after ReadError.NoMemory e fault long is = subst (IsHeldEnding model held before after) (sym is) tt

pub late_held : (model : FznModel) (held : Option (Option (List ℕ))) (bytes : List ℕ) (before after : ℕ) (e : Ending) → IsHeld held bytes → IsLateEnding model bytes e → IsHeldEnding model held before after e
late_held model held bytes before after (Ending.Judged s l) told ends = (ends.0, record { bytes = bytes; told = told; is_end = ends.1 })
late_held model held bytes before after (Ending.Stopped s l) told ends = (ends.0, record { bytes = bytes; told = told; is_end = ends.1 })
late_held model held bytes before after (Ending.Plain s) told ends = subst (IsReadCause before after) (sym ends) tt

pub late_status : (model : FznModel) (bytes : List ℕ) (e : Ending) → IsLateEnding model bytes e → MayEndLate (status_in e)
late_status model bytes (Ending.Judged s l) ends = ends.1.late
late_status model bytes (Ending.Stopped s l) ends = ends.1.late
late_status model bytes (Ending.Plain s) ends = subst MayEndLate (sym ends) tt

pub early_held : (held : Option (Option (List ℕ))) (text : List ℕ) (before after : ℕ) (e : Ending) → IsHeld held text → IsEarlyText text e → IsEarlyEnding held before after e
early_held held text before after (Ending.Judged s l) told ends = absurd ends
early_held held text before after (Ending.Stopped s l) told ends = record { stops = ends.0; early = ends.1; text = text; told = told; ends = ends.2 }
early_held held text before after (Ending.Plain s) told ends = subst (IsReadCause before after) (sym ends) tt

pub early_status : (text : List ℕ) (e : Ending) → IsEarlyText text e → MayEndEarly (status_in e)
early_status text (Ending.Judged s l) ends = absurd ends
early_status text (Ending.Stopped s l) ends = ends.1
early_status text (Ending.Plain s) ends = subst MayEndEarly (sym ends) tt

-- ---- the whole

words_cause : (names : Text × Text) (before middle after : ℕ) (s : Status) → before ≤ middle → middle ≤ after → IsReadCause middle after s → IsWordsCause (Some names) before after s
words_cause names before middle after Right low high cause = absurd cause
words_cause names before middle after Usage low high cause = absurd cause
words_cause names before middle after (Refused kind number) low high cause = absurd cause
words_cause names before middle after ReadFault low high cause = (tt, rose_later before middle after low high cause)
words_cause names before middle after WriteFault low high cause = absurd cause
words_cause names before middle after NoMemory low high cause = tt
words_cause names before middle after WrongSolution low high cause = absurd cause
words_cause names before middle after BadText low high cause = absurd cause
words_cause names before middle after Hidden low high cause = absurd cause

module _ (one_model : (text : List ℕ) (m n : FznModel) → IsTextOf text m → IsTextOf text n → m ≡ n)
    (one_fault : (text : List ℕ) (k l at place : ℕ) → IsFaultOf text k at → IsFaultOf text l place → (k ≡ l) × (at ≡ place))
    (never_both : (text : List ℕ) (m : FznModel) (k at : ℕ) → IsTextOf text m → IsFaultOf text k at → ⊥) where
  pub early_whole : (held : Told) (names : Text × Text) (before after : ℕ) (e : Ending) → before ≤ after → IsEarlyEnding (held names.0) before after e → IsEnding held (Some names) before after e
  early_whole held names before after (Ending.Judged s l) low ends = absurd ends
  early_whole held names before after (Ending.Stopped s l) low h = (
    h.stops,
    record {
      ends = inl (record { text = h.text; held = h.told; ends = h.ends });
      alone = λ other text g. early_only one_model one_fault never_both (held names.0) (held names.1) h.text s other l.items text h.told h.ends g;
    },
  )
  early_whole held names before after (Ending.Plain s) low cause = words_cause names before before after s (omega arith) low cause

  late_whole_end : (held : Told) (names : Text × Text) (text : List ℕ) (model : FznModel) (s : Status) (line : List ℕ) → IsHeld (held names.0) text → IsTextOf text model → AllPrinted model
      → IsHeldEnd model (held names.1) s line → IsEnd held (Some names) s line
  late_whole_end held names text model s line told is shown h = record {
    ends = inr (record { text = text; held = told; model = model; is_model = is; shown = shown; bytes = h.bytes; given = h.told; ends = h.is_end.ends });
    alone = λ other words g. late_only one_model one_fault never_both (held names.0) (held names.1) text h.bytes model s other line words told is shown h.told h.is_end.alone g;
  }

  pub late_whole : (held : Told) (names : Text × Text) (text : List ℕ) (model : FznModel) (before middle after : ℕ) (e : Ending) → before ≤ middle → middle ≤ after
      → IsHeld (held names.0) text → IsTextOf text model → AllPrinted model → IsHeldEnding model (held names.1) middle after e → IsEnding held (Some names) before after e
  late_whole held names text model before middle after (Ending.Judged s l) low high told is shown ends = (ends.0, late_whole_end held names text model s l.items told is shown ends.1)
  late_whole held names text model before middle after (Ending.Stopped s l) low high told is shown ends = (ends.0, late_whole_end held names text model s l.items told is shown ends.1)
  late_whole held names text model before middle after (Ending.Plain s) low high told is shown cause = words_cause names before middle after s low high cause

-- ---- what the source was asked for

pub asked_weaker : (held : Option (Option (List ℕ))) (before after : Option (List (List ℕ))) (left : Option (List ℕ)) (is_open : Bool) (P Q : Type 0) → (P → Q)
    → WasAsked held before after left is_open P → WasAsked held before after left is_open Q
asked_weaker held before after left is_open P Q more h = record { name_leaves = h.name_leaves; part_read = h.part_read; closed = λ e. more (h.closed e) }

-- writing changes a verdict alone
written_status : (status result : Status) → IsVerdict status → (result ≡ status) ⊎ (result ≡ WriteFault) → MayEndLate result
written_status status result verdict (inl same) = subst MayEndLate (sym same) (verdict_late status verdict)
written_status status result verdict (inr fault) = subst MayEndLate (sym fault) tt

not_early : (status : Status) → IsVerdict status → MayEndEarly status → ⊥
not_early Right verdict early = early
not_early Usage verdict early = verdict
not_early (Refused kind number) verdict early = verdict
not_early ReadFault verdict early = verdict
not_early WriteFault verdict early = verdict
not_early NoMemory verdict early = verdict
not_early WrongSolution verdict early = early
not_early BadText verdict early = early
not_early Hidden verdict early = verdict

not_read_fault : (status : Status) → IsVerdict status → status ≡ ReadFault → ⊥
not_read_fault status verdict is = subst IsVerdict is verdict

pub written_asked : (held : Told) (asked : AskedFiles) (before after : Option (List (List ℕ))) (left : Option (List ℕ)) (is_open : Bool) (status result : Status) → IsVerdict status
    → (result ≡ status) ⊎ (result ≡ WriteFault) → WereAskedFor held asked before after left is_open status → WereAskedFor held asked before after left is_open result
written_asked held None before after left is_open status result verdict ends were = absurd were
written_asked held (Some names) before after left is_open status result verdict ends (inl early) = absurd (not_early status verdict early.0)
written_asked held (Some names) before after left is_open status result verdict ends (inr late) =
    inr (written_status status result verdict ends, asked_weaker (held names.1) (later_names before) after left is_open (status ≡ ReadFault) (result ≡ ReadFault) (λ e. absurd (not_read_fault status verdict e)) late.1)
