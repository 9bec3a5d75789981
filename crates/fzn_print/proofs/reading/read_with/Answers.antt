use Rattle.std.proofs.Common.{◌≡◌, ◌∙◌, ℤ, List, false, Result, Ok, Err, OnOk, sym, subst}
use Rattle.std.specs.Result.{is_err}
use Rattle.std.proofs.lemmas.Bool.{true≢false}
use Rattle.fzn_print.proofs.ReadLaws.{IsRead, no_reading, one_read, reading_alone}
use Rattle.fzn_print.proofs.reading.read_with.Goals as goal

ok_then : {V E : Type 0} (r : Result V E) (P : Type 0) → is_err r ≡ false → OnOk r P → P
ok_then (Ok v) P fine h = h
ok_then (Err e) P fine h = absurd (true≢false fine)

pub returns-in-Some-clause-alone : goal.returns-in-Some-clause-alone
returns-in-Some-clause-alone c = λ other reading.
    reading_alone c.args.model.now c.args.bytes.now c.loop-mark.solutions c.loop-mark.rest.now c.in-Some.mark c.loop-mark.invariant.read c.in-Some.ensures other reading

pub returns-in_default-read-clause-bad_text : goal.returns-in_default-read-clause-bad_text
returns-in_default-read-clause-bad_text c = λ e answer reading.
    no_reading c.args.model.now c.args.bytes.now c.loop-mark.solutions c.loop-mark.rest.now c.loop-mark.invariant.read c.in_default.ensures
    (λ b tail values is. rw c.in_default-read.is at (c.in-Ok.ensures.each b tail values is)) answer reading

pub loop-mark-preserved : goal.loop-mark-preserved
loop-mark-preserved c =
    let model = c.args.model.now in
    let bytes = c.args.bytes.now in
    let found = c.loop-mark.solutions in
    let rest = c.loop-mark.rest.now in
    let solution = c.in-Some-read.solution in
    let after = c.in-Some-read.after.now in
    let front = rw c.in-Some-read.is at c.in-Ok.ensures.found in
    let pushed = ok_then c.push.result _ (sym c.is_err.ensures.value ∙ c.if-is_err.false) c.push.ensures.pushed in
    let more = one_read model bytes found rest after solution c.loop-mark.invariant.read c.in_default.ensures front (λ b tail values is. rw c.in-Some-read.is at (c.in-Ok.ensures.each b tail values is)) in
    record {
      read = subst (λ (s : List (List ℤ)). IsRead model bytes s after) (sym pushed) more;
      room = c.in-Ok.ensures.room ∙ c.loop-mark.invariant.room;
    }
