use Rattle.std.proofs.Common.{◌-◌, ◌≡◌, ◌≤◌}
use Rattle.tickets.specs.Seats.{IsTicketSeatOf, ticket_parts, next_of, numbers_drawn}
use Rattle.tickets.proofs.tickets.Tickets.draw.Given as goal

abbrev pub invariant-loop-seat : goal.invariant-loop-seat
invariant-loop-seat l = record {
  seat : IsTicketSeatOf l.self l.seat;
  parts : ticket_parts l.seat ≡ ticket_parts l.initial.seat;
  drawn : numbers_drawn l.seat ≡ numbers_drawn l.initial.seat;
  grows : next_of l.initial.seat ≤ next_of l.seat;
  same : next_of l.initial.seat ≡ next_of l.seat → l.seat ≡ l.initial.seat;
}

abbrev pub decreases-loop-seat : goal.decreases-loop-seat
decreases-loop-seat l = l.self.count - l.seat.next
