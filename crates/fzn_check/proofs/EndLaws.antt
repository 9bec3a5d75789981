-- A check of two known texts ends in one way.
use Rattle.std.proofs.Common.{◌≡◌, ◌⊎◌, inl, inr, ◌<◌, ◌≤◌, ℕ, ℤ, List, [], length, Option, Some, None, All, refl, sym, ap, ap₂, subst, ◌∙◌, arith}
use Rattle.fzn_io.specs.Streams.{IsHeld}
use Rattle.constraint_model.specs.declared.model.FznModel.{FznModel}
use Rattle.constraint_model.specs.Relations.{IsSolution}
use Rattle.fzn_print.specs.declared.answers.Answer.{Answer}
use Rattle.fzn_print.specs.Reading.{AllPrinted, IsFirstHidden, IsPrinted, IsReading}
use Rattle.model_text.specs.Texts.{HasFaultOn, IsFaultOf, IsTextOf, fault_line, most_bytes}
use Rattle.model_text.specs.Files.{refusal_line}
use Rattle.fzn_check.specs.Lines.{bad_text_line, hidden_line, right_line, wrong_line}
use Rattle.fzn_check.specs.Endings.{Ends, EndsEarly, EndsHidden, EndsJudged, EndsLate, EndsRead, IsBadText, IsFirstBad, SaysWrong}
use Rattle.fzn_check.specs.Outcome.{IsKnown, IsVerdict, MayEndLate}
use Rattle.fzn_check.specs.declared.wrong.Wrong.{Wrong}
use Rattle.fzn_check.specs.declared.status.Status.{Status}
use Rattle.fzn_check.specs.declared.status.Status.TheVariants.{Right, Usage, Refused, ReadFault, WriteFault, NoMemory, Wrong as WrongSolution, BadText, Hidden}
use Rattle.fzn_check.proofs.WrongLaws.{all_right, bad_alone, first_alone, place_alone}

-- ---- what judging answers

-- all are right, or some solution is wrong
abbrev pub Judged : FznModel → Answer → Status → List ℕ → Type 0
Judged model answer status line =
    ((status ≡ Right) × All (IsSolution model) answer.solutions × (line ≡ right_line (length answer.solutions)))
    ⊎ ((status ≡ WrongSolution) × SaysWrong model answer line)

judged_is : (model : FznModel) (answer : Answer) (status : Status) (line : List ℕ) → EndsJudged model answer status line → Judged model answer status line
judged_is model answer Right line h = inl (refl, h.0, h.1)
judged_is model answer Usage line h = absurd h
judged_is model answer (Refused kind number) line h = absurd h
judged_is model answer ReadFault line h = absurd h
judged_is model answer WriteFault line h = absurd h
judged_is model answer NoMemory line h = absurd h
judged_is model answer WrongSolution line h = inr (refl, h)
judged_is model answer BadText line h = absurd h
judged_is model answer Hidden line h = absurd h

pub judged_verdict : (model : FznModel) (answer : Answer) (status : Status) (line : List ℕ) → EndsJudged model answer status line → IsVerdict status
judged_verdict model answer Right line h = tt
judged_verdict model answer Usage line h = absurd h
judged_verdict model answer (Refused kind number) line h = absurd h
judged_verdict model answer ReadFault line h = absurd h
judged_verdict model answer WriteFault line h = absurd h
judged_verdict model answer NoMemory line h = absurd h
judged_verdict model answer WrongSolution line h = tt
judged_verdict model answer BadText line h = absurd h
judged_verdict model answer Hidden line h = absurd h

says_alone : (model : FznModel) (answer : Answer) (l m : List ℕ) → SaysWrong model answer l → SaysWrong model answer m → l ≡ m
says_alone model answer l m h g =
    let place = place_alone model answer.solutions h.place g.place h.wrong g.wrong h.first g.first in
    let wrong = bad_alone model answer.solutions h.place g.place h.wrong g.wrong h.first g.first in
    h.says ∙ ap₂ (wrong_line model) place wrong ∙ sym g.says

by_judged : (model : FznModel) (answer : Answer) (s t : Status) (l m : List ℕ) → Judged model answer s l → Judged model answer t m → (s ≡ t) × (l ≡ m)
by_judged model answer s t l m (inl h) (inl g) = (h.0 ∙ sym g.0, h.2 ∙ sym g.2)
by_judged model answer s t l m (inl h) (inr g) = absurd (all_right model answer.solutions g.1.place g.1.wrong h.1 g.1.first)
by_judged model answer s t l m (inr h) (inl g) = absurd (all_right model answer.solutions h.1.place h.1.wrong g.1 h.1.first)
by_judged model answer s t l m (inr h) (inr g) = (h.0 ∙ sym g.0, says_alone model answer l m h.1 g.1)

judged_alone : (model : FznModel) (answer : Answer) (s t : Status) (l m : List ℕ) → EndsJudged model answer s l → EndsJudged model answer t m → (s ≡ t) × (l ≡ m)
judged_alone model answer s t l m h g = by_judged model answer s t l m (judged_is model answer s l h) (judged_is model answer t m g)

-- ---- by the solutions' text

abbrev pub Late : FznModel → List ℕ → Status → List ℕ → Type 0
Late model bytes status line = ((status ≡ BadText) × IsBadText model bytes × (line ≡ bad_text_line)) ⊎ EndsRead model bytes status line

late_is : (model : FznModel) (bytes : List ℕ) (status : Status) (line : List ℕ) → EndsLate model bytes status line → Late model bytes status line
late_is model bytes Right line h = inr h
late_is model bytes Usage line h = inr h
late_is model bytes (Refused kind number) line h = inr h
late_is model bytes ReadFault line h = inr h
late_is model bytes WriteFault line h = inr h
late_is model bytes NoMemory line h = inr h
late_is model bytes WrongSolution line h = inr h
late_is model bytes BadText line h = inl (refl, h.0, h.1)
late_is model bytes Hidden line h = inr h

pub read_late : (model : FznModel) (bytes : List ℕ) (status : Status) (line : List ℕ) → IsVerdict status → EndsRead model bytes status line → EndsLate model bytes status line
read_late model bytes Right line verdict h = h
read_late model bytes Usage line verdict h = absurd verdict
read_late model bytes (Refused kind number) line verdict h = absurd verdict
read_late model bytes ReadFault line verdict h = absurd verdict
read_late model bytes WriteFault line verdict h = absurd verdict
read_late model bytes NoMemory line verdict h = absurd verdict
read_late model bytes WrongSolution line verdict h = h
read_late model bytes BadText line verdict h = absurd verdict
read_late model bytes Hidden line verdict h = absurd verdict

pub verdict_late : (status : Status) → IsVerdict status → MayEndLate status
verdict_late Right verdict = tt
verdict_late Usage verdict = absurd verdict
verdict_late (Refused kind number) verdict = absurd verdict
verdict_late ReadFault verdict = absurd verdict
verdict_late WriteFault verdict = absurd verdict
verdict_late NoMemory verdict = absurd verdict
verdict_late WrongSolution verdict = tt
verdict_late BadText verdict = absurd verdict
verdict_late Hidden verdict = absurd verdict

-- a text that is read is no bad one
read_is_good : (model : FznModel) (bytes : List ℕ) (status : Status) (line : List ℕ) → EndsRead model bytes status line → IsBadText model bytes → ⊥
read_is_good model bytes status line h (inl long) = let short = h.short in absurd (omega arith)
read_is_good model bytes status line h (inr none) = none h.answer h.reading

by_bad : (model : FznModel) (bytes : List ℕ) (other : Status) (text : List ℕ) → IsBadText model bytes → Late model bytes other text → (other ≡ BadText) × (text ≡ bad_text_line)
by_bad model bytes other text bad (inl h) = (h.0, h.2)
by_bad model bytes other text bad (inr h) = absurd (read_is_good model bytes other text h bad)

pub bad_late_alone : (model : FznModel) (bytes : List ℕ) (other : Status) (text : List ℕ) → IsBadText model bytes → EndsLate model bytes other text → (other ≡ BadText) × (text ≡ bad_text_line)
bad_late_alone model bytes other text bad h = by_bad model bytes other text bad (late_is model bytes other text h)

by_read : (model : FznModel) (bytes : List ℕ) (status other : Status) (line text : List ℕ) (h : EndsRead model bytes status line) → ((a : Answer) → IsReading model bytes a → a ≡ h.answer)
    → Late model bytes other text → (other ≡ status) × (text ≡ line)
by_read model bytes status other line text h alone (inl g) = absurd (read_is_good model bytes status line h g.1)
by_read model bytes status other line text h alone (inr g) =
    judged_alone model h.answer other status text line (subst (λ (a : Answer). EndsJudged model a other text) (alone g.answer g.reading) g.judged) h.judged

pub read_alone : (model : FznModel) (bytes : List ℕ) (status other : Status) (line text : List ℕ) (h : EndsRead model bytes status line) → ((a : Answer) → IsReading model bytes a → a ≡ h.answer)
    → EndsLate model bytes other text → (other ≡ status) × (text ≡ line)
read_alone model bytes status other line text h alone g = by_read model bytes status other line text h alone (late_is model bytes other text g)

-- ---- by the model's text

abbrev pub Early : List ℕ → Status → List ℕ → Type 0
Early text status line =
    ((kind : ℕ) × ((number : ℕ) × ((status ≡ Refused kind number) × HasFaultOn text kind number × (line ≡ refusal_line kind number))))
    ⊎ ((status ≡ Hidden) × EndsHidden text line)

early_is : (text : List ℕ) (status : Status) (line : List ℕ) → EndsEarly text status line → Early text status line
early_is text Right line h = absurd h
early_is text Usage line h = absurd h
early_is text (Refused kind number) line h = inl (kind, (number, (refl, h.0, h.1)))
early_is text ReadFault line h = absurd h
early_is text WriteFault line h = absurd h
early_is text NoMemory line h = absurd h
early_is text WrongSolution line h = absurd h
early_is text BadText line h = absurd h
early_is text Hidden line h = inr (refl, h)

hidden_alone : (model : FznModel) (v u : ℕ) → IsFirstHidden model v → IsFirstHidden model u → v ≡ u
hidden_alone model v u h g = first_alone (IsPrinted model) v u h.hidden g.hidden h.before g.before

-- a held text that is known
known_text : (held : Option (Option (List ℕ))) (text known : List ℕ) → IsHeld held text → IsKnown held known → known ≡ text
known_text held text known told is = sym (subst (λ (h : Option (Option (List ℕ))). IsHeld h text) is told)

module _ (one_model : (text : List ℕ) (m n : FznModel) → IsTextOf text m → IsTextOf text n → m ≡ n)
    (one_fault : (text : List ℕ) (k l at place : ℕ) → IsFaultOf text k at → IsFaultOf text l place → (k ≡ l) × (at ≡ place))
    (never_both : (text : List ℕ) (m : FznModel) (k at : ℕ) → IsTextOf text m → IsFaultOf text k at → ⊥) where
  fault_alone : (text : List ℕ) (k l n m : ℕ) → HasFaultOn text k n → HasFaultOn text l m → (k ≡ l) × (n ≡ m)
  fault_alone text k l n m h g =
      let same = one_fault text k l h.at g.at h.fault g.fault in
      (same.0, h.is_line ∙ ap₂ (fault_line text) same.0 same.1 ∙ sym g.is_line)

  both_hidden : (text l m : List ℕ) → EndsHidden text l → EndsHidden text m → l ≡ m
  both_hidden text l m h g =
      let same = one_model text h.model g.model h.is_model g.is_model in
      let variable = hidden_alone g.model h.variable g.variable (subst (λ (x : FznModel). IsFirstHidden x h.variable) same h.first) g.first in
      h.says ∙ ap₂ hidden_line same variable ∙ sym g.says

  by_early : (text : List ℕ) (s t : Status) (l m : List ℕ) → Early text s l → Early text t m → (s ≡ t) × (l ≡ m)
  by_early text s t l m (inl h) (inl g) =
      let same = fault_alone text h.0 g.0 h.1.0 g.1.0 h.1.1.1 g.1.1.1 in
      (h.1.1.0 ∙ ap₂ Refused same.0 same.1 ∙ sym g.1.1.0, h.1.1.2 ∙ ap₂ refusal_line same.0 same.1 ∙ sym g.1.1.2)
  by_early text s t l m (inl h) (inr g) = absurd (never_both text g.1.model h.0 h.1.1.1.at g.1.is_model h.1.1.1.fault)
  by_early text s t l m (inr h) (inl g) = absurd (never_both text h.1.model g.0 g.1.1.1.at h.1.is_model g.1.1.1.fault)
  by_early text s t l m (inr h) (inr g) = (h.0 ∙ sym g.0, both_hidden text l m h.1 g.1)

  early_alone : (text : List ℕ) (s t : Status) (l m : List ℕ) → EndsEarly text s l → EndsEarly text t m → (s ≡ t) × (l ≡ m)
  early_alone text s t l m h g = by_early text s t l m (early_is text s l h) (early_is text t m g)

  -- a model that shows its variables doesn't end the check
  by_shown : (text : List ℕ) (model : FznModel) (s : Status) (l : List ℕ) → IsTextOf text model → AllPrinted model → Early text s l → ⊥
  by_shown text model s l is shown (inl h) = never_both text model h.0 h.1.1.1.at is h.1.1.1.fault
  by_shown text model s l is shown (inr h) =
      let first = subst (λ (x : FznModel). IsFirstHidden x h.1.variable) (one_model text h.1.model model h.1.is_model is) h.1.first in
      first.hidden (shown h.1.variable first.declared)

  shown_goes_on : (text : List ℕ) (model : FznModel) (s : Status) (l : List ℕ) → IsTextOf text model → AllPrinted model → EndsEarly text s l → ⊥
  shown_goes_on text model s l is shown h = by_shown text model s l is shown (early_is text s l h)

  -- an end by the model's text is the only one
  pub early_only : (held solutions : Option (Option (List ℕ))) (text : List ℕ) (s t : Status) (l m : List ℕ) → IsHeld held text → EndsEarly text s l
      → Ends (IsKnown held) (IsKnown solutions) t m → (t ≡ s) × (m ≡ l)
  early_only held solutions text s t l m told h (inl g) =
      early_alone text t s m l (subst (λ x. EndsEarly x t m) (known_text held text g.text told g.held) g.ends) h
  early_only held solutions text s t l m told h (inr g) =
      absurd (shown_goes_on text g.model s l (subst (λ x. IsTextOf x g.model) (known_text held text g.text told g.held) g.is_model) g.shown h)

  -- an end by the solutions' text too
  pub late_only : (held solutions : Option (Option (List ℕ))) (text bytes : List ℕ) (model : FznModel) (s t : Status) (l m : List ℕ) → IsHeld held text → IsTextOf text model → AllPrinted model
      → IsHeld solutions bytes → ((other : Status) (line : List ℕ) → EndsLate model bytes other line → (other ≡ s) × (line ≡ l))
      → Ends (IsKnown held) (IsKnown solutions) t m → (t ≡ s) × (m ≡ l)
  late_only held solutions text bytes model s t l m told is shown given alone (inl g) =
      absurd (shown_goes_on text model t m is shown (subst (λ x. EndsEarly x t m) (known_text held text g.text told g.held) g.ends))
  late_only held solutions text bytes model s t l m told is shown given alone (inr g) =
      let same = one_model text g.model model (subst (λ x. IsTextOf x g.model) (known_text held text g.text told g.held) g.is_model) is in
      let here = known_text solutions bytes g.bytes given g.given in
      alone t m (subst (λ (x : FznModel). EndsLate x bytes t m) same (subst (λ b. EndsLate g.model b t m) here g.ends))
