use Rattle.std.proofs.Common.{◌≡◌, ◌∙◌, sym, subst, inl, inr}
use Rattle.fzn_check.specs.Words.{names_of}
use Rattle.fzn_check.specs.Outcome.{WereAskedFor}
use Rattle.fzn_check.specs.Steps.{IsEnding, status_in}
use Rattle.fzn_check.specs.declared.ending.Ending.{Ending}
use Rattle.fzn_check.specs.declared.status.Status.TheVariants.{Usage, ReadFault, WriteFault, NoMemory}
use Rattle.fzn_check.proofs.StepLaws.{written_asked}
use Rattle.fzn_check.proofs.TopLaws.{plain_complete, plain_front, plain_never, plain_no_verdict, plain_not_taken, plain_read, plain_usage, plain_wrote, stop_asked, stop_complete, stop_front, stop_never, stop_no_verdict, stop_wrote, verdict_asked, verdict_complete, verdict_error, verdict_error_front, verdict_front, verdict_loud, verdict_never, verdict_wrote}
use Rattle.fzn_check.proofs.top.check_main.Goals as goal

pub returns-in-Judged-clause-usage : goal.returns-in-Judged-clause-usage
returns-in-Judged-clause-usage g c =
    let e = subst (IsEnding _ _ _ _) c.in-Judged.is c.check_words.ensures.ends in
    λ is. absurd (verdict_never _ _ _ _ _ e.0 e.1 c.tell_verdict.ensures.ends Usage (λ v. v) (λ same. cc) is)

pub returns-in-Judged-clause-not_taken : goal.returns-in-Judged-clause-not_taken
returns-in-Judged-clause-not_taken g c =
    let e = subst (IsEnding _ _ _ _) c.in-Judged.is c.check_words.ensures.ends in
    λ none. absurd (verdict_asked _ _ _ _ _ e.0 e.1 c.tell_verdict.ensures.ends none)

pub returns-in-Judged-clause-complete : goal.returns-in-Judged-clause-complete
returns-in-Judged-clause-complete g c =
    let e = subst (IsEnding _ _ _ _) c.in-Judged.is c.check_words.ensures.ends in
    λ other text known read written. verdict_complete _ _ _ _ _ e.0 e.1 c.tell_verdict.ensures.ends _ _ other text c.tell_verdict.ensures.write_fault known written

pub returns-in-Judged-clause-verdict : goal.returns-in-Judged-clause-verdict
returns-in-Judged-clause-verdict g c =
    let e = subst (IsEnding _ _ _ _) c.in-Judged.is c.check_words.ensures.ends in
    λ is. verdict_wrote _ _ _ _ _ e.0 e.1 c.tell_verdict.ensures.ends _ _ (λ same. rw c.deref.ensures.value at c.tell_verdict.ensures.verdict same) is

pub returns-in-Judged-clause-front : goal.returns-in-Judged-clause-front
returns-in-Judged-clause-front g c =
    let e = subst (IsEnding _ _ _ _) c.in-Judged.is c.check_words.ensures.ends in
    λ is. verdict_front _ _ _ _ _ e.0 e.1 c.tell_verdict.ensures.ends _ _ (rw c.deref.ensures.value at c.tell_verdict.ensures.front)

pub returns-in-Judged-clause-silent : goal.returns-in-Judged-clause-silent
returns-in-Judged-clause-silent g c =
    let e = subst (IsEnding _ _ _ _) c.in-Judged.is c.check_words.ensures.ends in
    λ never fault. absurd (verdict_loud _ _ _ _ _ e.0 e.1 c.tell_verdict.ensures.ends never fault)

pub returns-in-Judged-clause-read_fault : goal.returns-in-Judged-clause-read_fault
returns-in-Judged-clause-read_fault g c =
    let e = subst (IsEnding _ _ _ _) c.in-Judged.is c.check_words.ensures.ends in
    λ is. absurd (verdict_never _ _ _ _ _ e.0 e.1 c.tell_verdict.ensures.ends ReadFault (λ v. v) (λ same. cc) is)

pub returns-in-Judged-clause-asked : goal.returns-in-Judged-clause-asked
returns-in-Judged-clause-asked g c =
    let e = subst (IsEnding _ _ _ _) c.in-Judged.is c.check_words.ensures.ends in
    λ names. elim (c.check_words.ensures.asked names) [
      | inl early ↦ (let bad : Ending.Judged c.in-Judged.status c.in-Judged.line ≡ Ending.Plain NoMemory = sym c.in-Judged.is ∙ early.1 in cc)
      | inr were ↦ inr (written_asked (g.S.Source.held c.args.files.now) (names_of c.args.words.now) (g.S.Source.names c.args.files.now) (g.S.Source.names c.check_words.new.files) (g.S.Source.left c.check_words.new.files)
          (g.S.Source.is_open c.check_words.new.files) _ _ e.0 c.tell_verdict.ensures.ends
          (subst (λ x. WereAskedFor (g.S.Source.held c.args.files.now) (names_of c.args.words.now) (g.S.Source.names c.args.files.now) (g.S.Source.names c.check_words.new.files) (g.S.Source.left c.check_words.new.files)
          (g.S.Source.is_open c.check_words.new.files) (status_in x)) c.in-Judged.is were))
    ]

pub returns-in-Judged-clause-err_line : goal.returns-in-Judged-clause-err_line
returns-in-Judged-clause-err_line g c =
    let e = subst (IsEnding _ _ _ _) c.in-Judged.is c.check_words.ensures.ends in
    λ sound. verdict_error _ _ _ _ _ e.0 e.1 c.tell_verdict.ensures.ends _ _ (c.tell_verdict.ensures.err_line sound)

pub returns-in-Judged-clause-err_front : goal.returns-in-Judged-clause-err_front
returns-in-Judged-clause-err_front g c =
    let e = subst (IsEnding _ _ _ _) c.in-Judged.is c.check_words.ensures.ends in
    verdict_error_front _ _ _ _ _ e.0 e.1 c.tell_verdict.ensures.ends _ _ c.tell_verdict.ensures.err_front

pub returns-in-Stopped-clause-usage : goal.returns-in-Stopped-clause-usage
returns-in-Stopped-clause-usage g c =
    let e = subst (IsEnding _ _ _ _) c.in-Stopped.is c.check_words.ensures.ends in
    λ is. absurd (stop_never _ _ _ _ e.0 e.1 Usage (λ v. v) is)

pub returns-in-Stopped-clause-not_taken : goal.returns-in-Stopped-clause-not_taken
returns-in-Stopped-clause-not_taken g c =
    let e = subst (IsEnding _ _ _ _) c.in-Stopped.is c.check_words.ensures.ends in
    λ none. absurd (stop_asked _ _ _ _ e.0 e.1 none)

pub returns-in-Stopped-clause-complete : goal.returns-in-Stopped-clause-complete
returns-in-Stopped-clause-complete g c =
    let e = subst (IsEnding _ _ _ _) c.in-Stopped.is c.check_words.ensures.ends in
    λ other text known read written. stop_complete _ _ _ _ e.0 e.1 other text known

pub returns-in-Stopped-clause-verdict : goal.returns-in-Stopped-clause-verdict
returns-in-Stopped-clause-verdict g c =
    let e = subst (IsEnding _ _ _ _) c.in-Stopped.is c.check_words.ensures.ends in
    λ is. absurd (stop_no_verdict _ _ _ _ e.0 e.1 is)

pub returns-in-Stopped-clause-front : goal.returns-in-Stopped-clause-front
returns-in-Stopped-clause-front g c =
    let e = subst (IsEnding _ _ _ _) c.in-Stopped.is c.check_words.ensures.ends in
    λ is. absurd (stop_never _ _ _ _ e.0 e.1 WriteFault (λ v. v) is)

pub returns-in-Stopped-clause-read_fault : goal.returns-in-Stopped-clause-read_fault
returns-in-Stopped-clause-read_fault g c =
    let e = subst (IsEnding _ _ _ _) c.in-Stopped.is c.check_words.ensures.ends in
    λ is. absurd (stop_never _ _ _ _ e.0 e.1 ReadFault (λ v. v) is)

pub returns-in-Stopped-clause-write_fault : goal.returns-in-Stopped-clause-write_fault
returns-in-Stopped-clause-write_fault g c =
    let e = subst (IsEnding _ _ _ _) c.in-Stopped.is c.check_words.ensures.ends in
    λ is. absurd (stop_never _ _ _ _ e.0 e.1 WriteFault (λ v. v) is)

pub returns-in-Stopped-clause-err_line : goal.returns-in-Stopped-clause-err_line
returns-in-Stopped-clause-err_line g c =
    let e = subst (IsEnding _ _ _ _) c.in-Stopped.is c.check_words.ensures.ends in
    λ sound. stop_wrote _ _ _ _ e.0 e.1 _ _ (rw c.deref-in-Stopped.ensures.value at c.tell_error.ensures.line sound)

pub returns-in-Stopped-clause-err_front : goal.returns-in-Stopped-clause-err_front
returns-in-Stopped-clause-err_front g c =
    let e = subst (IsEnding _ _ _ _) c.in-Stopped.is c.check_words.ensures.ends in
    stop_front _ _ _ _ e.0 e.1 _ _ (rw c.deref-in-Stopped.ensures.value at c.tell_error.ensures.front)

pub returns-in-Plain-clause-usage : goal.returns-in-Plain-clause-usage
returns-in-Plain-clause-usage g c =
    let e = subst (IsEnding _ _ _ _) c.in-Plain.is c.check_words.ensures.ends in
    plain_usage _ _ _ _ e

pub returns-in-Plain-clause-not_taken : goal.returns-in-Plain-clause-not_taken
returns-in-Plain-clause-not_taken g c =
    let e = subst (IsEnding _ _ _ _) c.in-Plain.is c.check_words.ensures.ends in
    plain_not_taken _ _ _ _ e

pub returns-in-Plain-clause-complete : goal.returns-in-Plain-clause-complete
returns-in-Plain-clause-complete g c =
    let e = subst (IsEnding _ _ _ _) c.in-Plain.is c.check_words.ensures.ends in
    λ other text known read written. plain_complete _ _ _ _ _ other text e known read

pub returns-in-Plain-clause-verdict : goal.returns-in-Plain-clause-verdict
returns-in-Plain-clause-verdict g c =
    let e = subst (IsEnding _ _ _ _) c.in-Plain.is c.check_words.ensures.ends in
    λ is. absurd (plain_no_verdict _ _ _ _ e is)

pub returns-in-Plain-clause-front : goal.returns-in-Plain-clause-front
returns-in-Plain-clause-front g c =
    let e = subst (IsEnding _ _ _ _) c.in-Plain.is c.check_words.ensures.ends in
    λ is. absurd (plain_never _ _ _ _ WriteFault (λ v. v) e is)

pub returns-in-Plain-clause-read_fault : goal.returns-in-Plain-clause-read_fault
returns-in-Plain-clause-read_fault g c =
    let e = subst (IsEnding _ _ _ _) c.in-Plain.is c.check_words.ensures.ends in
    plain_read _ _ _ _ e

pub returns-in-Plain-clause-write_fault : goal.returns-in-Plain-clause-write_fault
returns-in-Plain-clause-write_fault g c =
    let e = subst (IsEnding _ _ _ _) c.in-Plain.is c.check_words.ensures.ends in
    λ is. absurd (plain_never _ _ _ _ WriteFault (λ v. v) e is)

pub returns-in-Plain-clause-err_line : goal.returns-in-Plain-clause-err_line
returns-in-Plain-clause-err_line g c =
    let e = subst (IsEnding _ _ _ _) c.in-Plain.is c.check_words.ensures.ends in
    λ sound. plain_wrote _ _ _ _ _ _ _ e (rw c.plain_line.ensures at c.tell_error-in-Plain.ensures.line sound)

pub returns-in-Plain-clause-err_front : goal.returns-in-Plain-clause-err_front
returns-in-Plain-clause-err_front g c =
    let e = subst (IsEnding _ _ _ _) c.in-Plain.is c.check_words.ensures.ends in
    plain_front _ _ _ _ _ _ _ e (rw c.plain_line.ensures at c.tell_error-in-Plain.ensures.front)
