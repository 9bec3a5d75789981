use Rattle.std.proofs.Common.{subst, sym}
use Rattle.fzn_check.specs.Steps.{IsUnread}
use Rattle.fzn_check.proofs.reading.unread.Goals as goal

pub returns-in-TooLong : goal.returns-in-TooLong
returns-in-TooLong c = subst (λ e. IsUnread e c.stopped.result) (sym c.in-TooLong.is) (c.stopped.ensures _ c.print_bad_text.ensures)
