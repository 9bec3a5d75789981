-- Seats of tickets as rights to draw.
use Rattle.std.specs.Prelude.{ℕ, ◌≡◌, ◌-◌, ◌<◌, List, length, sum_by}
use Rattle.tickets.specs.declared.tickets.Tickets.{Tickets}
use Rattle.tickets.specs.declared.seat.TicketSeat.{TicketSeat}
use Rattle.tickets.specs.Seats.{ticket_parts, next_of, count_of}

-- all numbers are behind the seat
abbrev pub HasPassedTickets : Tickets → TicketSeat → Type 0
HasPassedTickets tickets seat = next_of seat ≡ count_of tickets

-- how many numbers are before it
abbrev pub tickets_left : Tickets → TicketSeat → ℕ
tickets_left tickets seat = count_of tickets - next_of seat

abbrev pub HasAsManyParts : TicketSeat → TicketSeat → Type 0
HasAsManyParts first later = ticket_parts first ≡ ticket_parts later

-- some seats, which have all parts together
pub record HaveAllParts (seats : List TicketSeat) : Type 0 where
  pub some : 0 < length seats
  pub parts : sum_by ticket_parts seats ≡ 1024
