use Rattle.std.proofs.Common.{◌≡◌, ◌+◌, ◌≤◌, [], length, vec_len, vec_capacity}
use Rattle.std.specs.Prelude.{sum_by}
use Rattle.std.specs.List.{All}
use Rattle.tickets.specs.Seats.{IsTicketSeatOf, ticket_parts, numbers_drawn}
use Rattle.crew.proofs.ticket_source.split_all.Given as goal

abbrev pub invariant-loop : goal.invariant-loop
invariant-loop l = record {
  first : IsTicketSeatOf l.tickets l.first;
  parts : ticket_parts l.first + l.counter ≡ 1024;
  all : sum_by ticket_parts l.rights.items ≡ l.counter;
  drawn : numbers_drawn l.first ≡ [];
  size : length l.rights.items ≡ l.counter;
  len : vec_len l.rights ≡ l.counter;
  room : l.workers ≤ vec_capacity l.rights;
  rights : All (IsTicketSeatOf l.tickets) l.rights.items;
  idle : All (λ right. numbers_drawn right ≡ []) l.rights.items;
}
