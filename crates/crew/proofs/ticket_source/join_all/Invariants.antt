use Rattle.std.proofs.Common.{◌≡◌, ◌+◌, ◌++◌}
use Rattle.std.specs.Prelude.{sum_by}
use Rattle.std.specs.List.{flat_map}
use Rattle.tickets.specs.Seats.{IsTicketSeatOf, ticket_parts, next_of, count_of, numbers_drawn}
use Rattle.crew.proofs.ticket_source.join_all.Given as goal

abbrev pub invariant-loop-other : goal.invariant-loop-other
invariant-loop-other l = record {
  all : l.yielded ++ l.other-iterator.rest.items ≡ l.fn.others.items;
  seat : IsTicketSeatOf l.tickets l.seat;
  parts : ticket_parts l.seat ≡ ticket_parts l.initial.seat + sum_by ticket_parts l.yielded;
  drawn : numbers_drawn l.seat ≡ numbers_drawn l.initial.seat ++ flat_map numbers_drawn l.yielded;
  next : next_of l.initial.seat ≡ count_of l.tickets → next_of l.seat ≡ count_of l.tickets;
}
