use Rattle.std.proofs.Common.{◌-◌}
use Rattle.tickets.specs.Seats.{IsTicketSeatOf, count_of, next_of}
use Rattle.search_tests.proofs.draws.draw_all.Given as goal

abbrev pub invariant-loop-number : goal.invariant-loop-number
invariant-loop-number g l = IsTicketSeatOf l.tickets l.drawer.seat

abbrev pub decreases-loop-number : goal.decreases-loop-number
decreases-loop-number g l = count_of l.tickets - next_of l.drawer.seat
