use Rattle.std.proofs.Common.{Err, inr, ap}
use Rattle.fzn_check.proofs.StepLaws.{bad_stop, judged_late}
use Rattle.fzn_check.proofs.judging.judge_text.Goals as goal

pub returns-in-Ok : goal.returns-in-Ok
returns-in-Ok g c = judged_late _ _ c.in-Ok.answer _ c.requires.short c.in-Ok.ensures.ok c.in-Ok.ensures.alone c.judge.ensures

pub returns-in-Err-BadText : goal.returns-in-Err-BadText
returns-in-Err-BadText g c = bad_stop _ _ _ (inr (c.in-Err-BadText.ensures.bad_text (ap Err c.in-Err-BadText.field-0-is))) (c.stopped.ensures _ c.print_bad_text.ensures)
