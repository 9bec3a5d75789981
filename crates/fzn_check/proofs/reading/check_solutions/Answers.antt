use Rattle.std.proofs.Common.{Err, ap}
use Rattle.fzn_check.proofs.StepLaws.{unread_held}
use Rattle.fzn_check.proofs.reading.check_solutions.Goals as goal

pub returns-in-Err-clause-ends : goal.returns-in-Err-clause-ends
returns-in-Err-clause-ends g c =
    unread_held _ _ _ _ c.in-Err.error c.unread.result (λ e. c.in-Err.ensures.read_fault (ap Err e)) (λ e. c.in-Err.ensures.too_long (ap Err e)) c.unread.ensures
