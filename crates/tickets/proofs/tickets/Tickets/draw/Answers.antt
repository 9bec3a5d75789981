use Rattle.std.proofs.Common.{ℕ, subst, arith}
use Rattle.tickets.specs.Counting.{IsEachOnce}
use Rattle.tickets.specs.Seats.{numbers_drawn}
use Rattle.tickets.proofs.tickets.Tickets.draw.Goals as goal

pub returns-clause-each_once : goal.returns-clause-each_once
returns-clause-each_once c = λ all.
    let s = c.loop-seat.seat in
    let is = s.next_is in
    let bound = s.tally.next_bound in
    let count = c.loop-seat.invariant.seat.count in
    let end = c.loop-seat-test.false in
    subst (λ (n : ℕ). IsEachOnce n (numbers_drawn s)) (omega arith) (s.tally.all all)
