use Rattle.std.proofs.Common.{◌≡◌, [], ◌∷◌, ap, sym, subst, ◌∙◌, arith, length, length-append}
use Rattle.std.specs.Prelude.{sum_by}
use Rattle.std.specs.List.{All}
use Rattle.std.proofs.lemmas.List.Elements.{All-push}
use Rattle.tickets.specs.declared.seat.TicketSeat.{TicketSeat}
use Rattle.tickets.specs.Seats.{IsTicketSeatOf, ticket_parts, numbers_drawn}
use Rattle.crew.proofs.Tickets.{sum_more}
use Rattle.crew.proofs.ticket_source.split_all.Goals as goal

pub loop-preserved : goal.loop-preserved
loop-preserved c =
    let i = c.loop.invariant in
    let p = c.push_reserved.ensures in
    let more = sum_more ticket_parts c.loop.rights.items c.split.result in
    let sum = ap (sum_by ticket_parts) p.items in
    let long = ap length p.items in
    let one = length-append c.loop.rights.items (c.split.result ∷ []) in
    record {
      first = c.split.ensures.seat;
      parts = omega (arith, c.split.ensures.parts, i.parts);
      all = omega (arith, sum, more, i.all, c.split.ensures.new_parts);
      drawn = c.split.ensures.drawn ∙ i.drawn;
      size = omega (arith, long, one, i.size);
      len = omega (arith, p.len, i.len);
      room = omega (arith, p.capacity, i.room);
      rights = subst (All (IsTicketSeatOf c.args.tickets.now)) (sym p.items) (All-push (IsTicketSeatOf c.args.tickets.now) c.loop.rights.items c.split.result i.rights c.split.ensures.new_seat);
      idle = subst (All (λ (s : TicketSeat). numbers_drawn s ≡ [])) (sym p.items) (All-push (λ (s : TicketSeat). numbers_drawn s ≡ []) c.loop.rights.items c.split.result i.idle c.split.ensures.new_drawn);
    }

pub returns-clause-all : goal.returns-clause-all
returns-clause-all c =
    let i = c.loop.invariant in
    let p = c.push_reserved-2.ensures in
    let long = ap length p.items in
    let one = length-append c.loop.rights.items (c.loop.first ∷ []) in
    let more = sum_more ticket_parts c.loop.rights.items c.loop.first in
    let sum = ap (sum_by ticket_parts) p.items in
    record {
      some = omega (arith, long, one);
      parts = omega (arith, sum, more, i.all, i.parts);
    }
