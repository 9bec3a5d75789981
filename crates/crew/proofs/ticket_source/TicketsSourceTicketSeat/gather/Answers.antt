use Rattle.std.proofs.Common.{◌≡◌, refl, subst, arith}
use Rattle.std.specs.List.{All}
use Rattle.tickets.specs.Seats.{IsTicketSeatOf, next_of, count_of}
use Rattle.crew.proofs.Items.{all_front, all_last}
use Rattle.crew.proofs.Tickets.{all_parts, some_right, gathered_once, gathered_below, gathered_each}
use Rattle.crew.proofs.ticket_source.TicketsSourceTicketSeat.gather.Goals as goal

pub returns-in-None : goal.returns-in-None
returns-in-None c =
    let some = some_right c.args.rights.items c.requires.all in
    let none = c.in-None.ensures.cases.0 in
    absurd (omega (arith, some, none))

pub join_all-requires-clause-seat : goal.join_all-requires-clause-seat
join_all-requires-clause-seat c =
    all_last (IsTicketSeatOf c.args.self) c.pop.new.self.items c.in-Some.last (subst (All (IsTicketSeatOf c.args.self)) c.in-Some.ensures.items c.requires.rights)

pub join_all-requires-clause-others : goal.join_all-requires-clause-others
join_all-requires-clause-others c =
    all_front (IsTicketSeatOf c.args.self) c.pop.new.self.items c.in-Some.last (subst (All (IsTicketSeatOf c.args.self)) c.in-Some.ensures.items c.requires.rights)

pub returns : goal.returns
returns c =
    let e = c.in-Some.ensures.items in
    let j = c.join_all.ensures in
    record {
      once = gathered_once c.args.self c.args.rights.items c.pop.new.self.items c.in-Some.last c.join_all.new.seat e j.seat j.drawn;
      below = gathered_below c.args.self c.args.rights.items c.pop.new.self.items c.in-Some.last c.join_all.new.seat e j.seat j.drawn;
      each_once = λ passed.
          gathered_each c.args.self c.args.rights.items c.pop.new.self.items c.in-Some.last c.join_all.new.seat e j.seat j.drawn j.parts (all_parts c.args.rights.items c.requires.all)
          (j.next (all_last (λ seat. next_of seat ≡ count_of c.args.self) c.pop.new.self.items c.in-Some.last (subst (All (λ seat. next_of seat ≡ count_of c.args.self)) e passed)));
      full = λ passed each. refl;
    }
