-- What is written of an end, and the status that is answered.
use Rattle.std.proofs.Common.{◌≡◌, ◌⊎◌, inl, inr, ℕ, List, [], Option, Some, None, refl, sym, subst, ◌∙◌}
use Rattle.fzn_io.specs.Faults.{CountRose}
use Rattle.fzn_io.specs.Streams.{Adds, AddsFront, IsHeld}
use Rattle.fzn_check.specs.Outcome.{AskedFiles, EndsFor, IsEnd, IsErrorLine, IsKnown, IsStop, IsVerdict, IsVerdictLine, NamesFiles, Told, WereAskedFor, Wrote, WroteFront, plain_line}
use Rattle.fzn_check.specs.Steps.{IsWordsCause}
use Rattle.fzn_check.specs.declared.status.Status.{Status}
use Rattle.fzn_check.specs.declared.status.Status.TheVariants.{Right, Usage, Refused, ReadFault, WriteFault, NoMemory, Wrong as WrongSolution, BadText, Hidden}

-- the error line of a status that no text gives, and of one that a text gives
plain_error : (held : Told) (asked : AskedFiles) (status : Status) (line : List ℕ) → (IsStop status → ⊥) → line ≡ plain_line status → IsErrorLine held asked status line
plain_error held asked Right line never is = is
plain_error held asked Usage line never is = is
plain_error held asked (Refused kind number) line never is = absurd (never tt)
plain_error held asked ReadFault line never is = is
plain_error held asked WriteFault line never is = is
plain_error held asked NoMemory line never is = is
plain_error held asked WrongSolution line never is = is
plain_error held asked BadText line never is = absurd (never tt)
plain_error held asked Hidden line never is = absurd (never tt)

stop_error : (held : Told) (asked : AskedFiles) (status : Status) (line : List ℕ) → IsStop status → IsEnd held asked status line → IsErrorLine held asked status line
stop_error held asked Right line stop is = absurd stop
stop_error held asked Usage line stop is = absurd stop
stop_error held asked (Refused kind number) line stop is = is
stop_error held asked ReadFault line stop is = absurd stop
stop_error held asked WriteFault line stop is = absurd stop
stop_error held asked NoMemory line stop is = absurd stop
stop_error held asked WrongSolution line stop is = absurd stop
stop_error held asked BadText line stop is = is
stop_error held asked Hidden line stop is = is

verdict_no_stop : (status : Status) → IsVerdict status → IsStop status → ⊥
verdict_no_stop Right verdict stop = stop
verdict_no_stop Usage verdict stop = verdict
verdict_no_stop (Refused kind number) verdict stop = verdict
verdict_no_stop ReadFault verdict stop = verdict
verdict_no_stop WriteFault verdict stop = verdict
verdict_no_stop NoMemory verdict stop = verdict
verdict_no_stop WrongSolution verdict stop = stop
verdict_no_stop BadText verdict stop = verdict
verdict_no_stop Hidden verdict stop = verdict

-- something that ends the check was asked for
asked_some : (tells : Option (Option (List ℕ)) → List ℕ → Type 0) (held : Told) (asked : AskedFiles) (status : Status) (line : List ℕ) → asked ≡ None → EndsFor tells held asked status line → ⊥
asked_some tells held asked status line none ends = subst (λ (a : AskedFiles). EndsFor tells held a status line) none ends

-- ---- a verdict: written, or not

module _ (held : Told) (asked : AskedFiles) (status result : Status) (line : List ℕ) (verdict : IsVerdict status) (is_end : IsEnd held asked status line)
    (ends : (result ≡ status) ⊎ (result ≡ WriteFault)) where
  result_is : IsVerdict result ⊎ (result ≡ WriteFault)
  result_is = elim ends [ inl same ↦ inl (subst IsVerdict (sym same) verdict) | inr fault ↦ inr fault ]

  pub verdict_never : (other : Status) → (IsVerdict other → ⊥) → (other ≡ WriteFault → ⊥) → result ≡ other → ⊥
  verdict_never other never fault is = elim result_is [ inl v ↦ never (subst IsVerdict is v) | inr w ↦ fault (sym is ∙ w) ]

  pub verdict_asked : asked ≡ None → ⊥
  verdict_asked none = asked_some IsHeld held asked status line none is_end.ends

  pub verdict_complete : (out_before out_after : ℕ) (other : Status) (text : List ℕ) → (result ≡ WriteFault → CountRose out_before out_after) → EndsFor IsKnown held asked other text
      → (IsVerdict other → CountRose out_before out_after → ⊥) → (result ≡ other) ⊎ (result ≡ NoMemory)
  verdict_complete out_before out_after other text cause known none =
      let same = (is_end.alone other text known).0 in
      elim ends [ inl written ↦ inl (written ∙ sym same) | inr fault ↦ absurd (none (subst IsVerdict (sym same) verdict) (cause fault)) ]

  pub verdict_wrote : (before after : Option (List ℕ)) → (result ≡ status → Adds before after line) → IsVerdict result → Wrote (IsEnd held asked result) before after
  verdict_wrote before after added is = elim ends [
    | inl same ↦ record { line = line; is_line = subst (λ (q : Status). IsEnd held asked q line) (sym same) is_end; added = added same }
    | inr fault ↦ absurd (subst IsVerdict fault is)
  ]

  pub verdict_front : (before after : Option (List ℕ)) → AddsFront before after line → WroteFront (IsVerdictLine held asked) before after
  verdict_front before after added = record { line = line; is_line = record { status = status; verdict = verdict; is_end = is_end }; added = added }

  pub verdict_loud : (IsVerdict result → ⊥) → (result ≡ WriteFault → ⊥) → ⊥
  verdict_loud never fault = elim result_is [ inl v ↦ never v | inr w ↦ fault w ]

  no_stop : IsStop result → ⊥
  no_stop stop = elim result_is [ inl v ↦ verdict_no_stop result v stop | inr w ↦ subst IsStop w stop ]

  pub verdict_error : (before after : Option (List ℕ)) → Adds before after (plain_line result) → Wrote (IsErrorLine held asked result) before after
  verdict_error before after added = record { line = plain_line result; is_line = plain_error held asked result (plain_line result) no_stop refl; added = added }

  pub verdict_error_front : (before after : Option (List ℕ)) → AddsFront before after (plain_line result) → WroteFront (IsErrorLine held asked result) before after
  verdict_error_front before after added = record { line = plain_line result; is_line = plain_error held asked result (plain_line result) no_stop refl; added = added }

-- ---- a text that stops the check

module _ (held : Told) (asked : AskedFiles) (status : Status) (line : List ℕ) (stop : IsStop status) (is_end : IsEnd held asked status line) where
  pub stop_never : (other : Status) → (IsStop other → ⊥) → status ≡ other → ⊥
  stop_never other never is = never (subst IsStop is stop)

  pub stop_asked : asked ≡ None → ⊥
  stop_asked none = asked_some IsHeld held asked status line none is_end.ends

  pub stop_complete : (other : Status) (text : List ℕ) → EndsFor IsKnown held asked other text → (status ≡ other) ⊎ (status ≡ NoMemory)
  stop_complete other text known = inl (sym (is_end.alone other text known).0)

  pub stop_no_verdict : IsVerdict status → ⊥
  stop_no_verdict verdict = verdict_no_stop status verdict stop

  pub stop_wrote : (before after : Option (List ℕ)) → Adds before after line → Wrote (IsErrorLine held asked status) before after
  stop_wrote before after added = record { line = line; is_line = stop_error held asked status line stop is_end; added = added }

  pub stop_front : (before after : Option (List ℕ)) → AddsFront before after line → WroteFront (IsErrorLine held asked status) before after
  stop_front before after added = record { line = line; is_line = stop_error held asked status line stop is_end; added = added }

-- ---- a status that no text gives

module _ (asked : AskedFiles) (before after : ℕ) where
  pub plain_is : (status : Status) → IsWordsCause asked before after status → ((status ≡ Usage) × (asked ≡ None)) ⊎ (((status ≡ ReadFault) × (NamesFiles asked × CountRose before after)) ⊎ (status ≡ NoMemory))
  plain_is Right cause = absurd cause
  plain_is Usage cause = inl (refl, cause)
  plain_is (Refused kind number) cause = absurd cause
  plain_is ReadFault cause = inr (inl (refl, cause))
  plain_is WriteFault cause = absurd cause
  plain_is NoMemory cause = inr (inr refl)
  plain_is WrongSolution cause = absurd cause
  plain_is BadText cause = absurd cause
  plain_is Hidden cause = absurd cause

  pub plain_never : (status other : Status) → (IsWordsCause asked before after other → ⊥) → IsWordsCause asked before after status → status ≡ other → ⊥
  plain_never status other never cause is = never (subst (IsWordsCause asked before after) is cause)

  pub plain_usage : (status : Status) → IsWordsCause asked before after status → status ≡ Usage → asked ≡ None
  plain_usage status cause is = subst (IsWordsCause asked before after) is cause

  pub plain_read : (status : Status) → IsWordsCause asked before after status → status ≡ ReadFault → NamesFiles asked × CountRose before after
  plain_read status cause is = subst (IsWordsCause asked before after) is cause

  names_none : asked ≡ None → NamesFiles asked → ⊥
  names_none none names = subst NamesFiles none names

  pub plain_not_taken : (status : Status) → IsWordsCause asked before after status → asked ≡ None → (status ≡ Usage) ⊎ (status ≡ NoMemory)
  plain_not_taken status cause none = elim (plain_is status cause) [
    | inl usage ↦ inl usage.0
    | inr other ↦ elim other [ inl read ↦ absurd (names_none none read.1.0) | inr memory ↦ inr memory ]
  ]

  pub plain_complete : (held : Told) (status other : Status) (text : List ℕ) → IsWordsCause asked before after status → EndsFor IsKnown held asked other text → (CountRose before after → ⊥)
      → (status ≡ other) ⊎ (status ≡ NoMemory)
  plain_complete held status other text cause known none = elim (plain_is status cause) [
    | inl usage ↦ absurd (asked_some IsKnown held asked other text usage.1 known)
    | inr rest ↦ elim rest [ inl read ↦ absurd (none read.1.1) | inr memory ↦ inr memory ]
  ]

  no_stop_plain : (status : Status) → IsWordsCause asked before after status → IsStop status → ⊥
  no_stop_plain status cause stop = elim (plain_is status cause) [
    | inl usage ↦ subst IsStop usage.0 stop
    | inr rest ↦ elim rest [ inl read ↦ subst IsStop read.0 stop | inr memory ↦ subst IsStop memory stop ]
  ]

  pub plain_no_verdict : (status : Status) → IsWordsCause asked before after status → IsVerdict status → ⊥
  plain_no_verdict status cause verdict = elim (plain_is status cause) [
    | inl usage ↦ subst IsVerdict usage.0 verdict
    | inr rest ↦ elim rest [ inl read ↦ subst IsVerdict read.0 verdict | inr memory ↦ subst IsVerdict memory verdict ]
  ]

  pub plain_wrote : (held : Told) (status : Status) (old new : Option (List ℕ)) → IsWordsCause asked before after status → Adds old new (plain_line status) → Wrote (IsErrorLine held asked status) old new
  plain_wrote held status old new cause added = record { line = plain_line status; is_line = plain_error held asked status (plain_line status) (no_stop_plain status cause) refl; added = added }

  pub plain_front : (held : Told) (status : Status) (old new : Option (List ℕ)) → IsWordsCause asked before after status → AddsFront old new (plain_line status) → WroteFront (IsErrorLine held asked status) old new
  plain_front held status old new cause added = record { line = plain_line status; is_line = plain_error held asked status (plain_line status) (no_stop_plain status cause) refl; added = added }
