use Rattle.std.proofs.Common.{◌≡◌, ◌++◌, ◌∷◌, ap, sym, ◌∙◌, arith}
use Rattle.std.proofs.lemmas.List.{flat_map_more}
use Rattle.tickets.specs.Seats.{IsTicketSeatOf, ticket_parts, numbers_drawn}
use Rattle.crew.proofs.Items.{all_next, taken_more}
use Rattle.crew.proofs.Tickets.{sum_more}
use Rattle.crew.proofs.ticket_source.join_all.Goals as goal

pub join_back-requires-clause-other : goal.join_back-requires-clause-other
join_back-requires-clause-other c =
    let all : c.loop-other.yielded ++ c.in-Some.other ∷ c.next.new.self.rest.items ≡ c.args.others.items =
    ap (λ xs. c.loop-other.yielded ++ xs) (sym c.in-Some.ensures.steps.0) ∙ c.loop-other.invariant.all in
    all_next (IsTicketSeatOf c.args.tickets.now) c.loop-other.yielded c.in-Some.other c.next.new.self.rest.items c.args.others.items all c.requires.others

pub loop-other-preserved : goal.loop-other-preserved
loop-other-preserved c =
    let i = c.loop-other.invariant in
    let more = sum_more ticket_parts c.loop-other.yielded c.in-Some.other in
    record {
      all = taken_more c.loop-other.yielded c.in-Some.other c.next.new.self.rest.items _ _ c.in-Some.ensures.steps.0 i.all;
      seat = c.join_back.ensures.seat;
      parts = omega (arith, c.join_back.ensures.parts, i.parts, more);
      drawn =
          c.join_back.ensures.drawn ∙ ap (λ xs. xs ++ numbers_drawn c.in-Some.other) i.drawn
          ∙ flat_map_more numbers_drawn (numbers_drawn c.args.seat.now) c.loop-other.yielded c.in-Some.other;
      next = λ passed.
          let first = i.next passed in
          let bound = c.join_back.ensures.tally.next_bound in
          let next = c.join_back.ensures.next in
          omega (arith, first, bound, next);
    }
