use Rattle.std.proofs.Common.{refl}
use Rattle.fzn_check.specs.declared.status.Status.TheVariants.{Right, Wrong}
use Rattle.fzn_check.proofs.StepLaws.{judgement}
use Rattle.fzn_check.proofs.judging.judge.Goals as goal

pub returns-in-Ok-None : goal.returns-in-Ok-None
returns-in-Ok-None g c = judgement _ _ Right _ _ (c.judged.ensures _ c.print_right.ensures) (rw c.as_slice.ensures at (rw c.in-Ok-None.field-0-is at c.in-Ok-None.ensures), rw c.len-count.ensures refl)

pub returns-in-Ok-Some : goal.returns-in-Ok-Some
returns-in-Ok-Some g c =
    judgement _ _ Wrong _ _ (c.judged-in-Ok-Some.ensures _ c.print_wrong.ensures)
    (record { place = c.in-Ok-Some.place; wrong = c.in-Ok-Some.wrong; first = rw c.as_slice.ensures at (rw c.in-Ok-Some.field-0-is at c.in-Ok-Some.ensures); says = refl })
