-- Seats of tickets that are dealt and gathered.
use Rattle.std.proofs.Common.{◌≡◌, ℕ, ◌+◌, ◌<◌, ◌≤◌, List, [], ◌∷◌, ◌++◌, length, cond, refl, sym, ap, subst, ◌∙◌, arith}
use Rattle.std.specs.Prelude.{◌==◌, sum_by}
use Rattle.std.specs.List.{AllZip, flat_map}
use Rattle.std.proofs.lemmas.List.{flat_map_more}
use Rattle.std.proofs.lemmas.List.Sums.{sum_by-append, sum_by-cons}
use Rattle.std.proofs.lemmas.List.Elements.{length_all_zip}
use Rattle.tickets.specs.Counting.{times, IsEachOnce}
use Rattle.tickets.specs.Seats.{IsTicketSeatOf, ticket_parts, next_of, count_of, numbers_drawn}
use Rattle.tickets.specs.declared.seat.TicketSeat.{TicketSeat}
use Rattle.tickets.specs.declared.tickets.Tickets.{Tickets}
use Rattle.crew.specs.Rights.{KeepsSame, AreDrawn}
use Rattle.crew.specs.TicketRights.{HasAsManyParts, HaveAllParts}

pub sum_more : (f : TicketSeat → ℕ) (xs : List TicketSeat) (x : TicketSeat) → sum_by f (xs ++ x ∷ []) ≡ sum_by f xs + f x
sum_more f xs x = let a = sum_by-append f xs (x ∷ []) in let b = sum_by-cons f x [] in omega arith

as_many_parts : (before after : List TicketSeat) → AllZip (KeepsSame HasAsManyParts) before after → sum_by ticket_parts before ≡ sum_by ticket_parts after
as_many_parts [] [] h = refl
as_many_parts [] (y ∷ after) h = absurd h
as_many_parts (x ∷ before) [] h = absurd h
as_many_parts (x ∷ before) (y ∷ after) h =
    let one : ticket_parts x ≡ ticket_parts y = h.0 x refl in
    let rest = as_many_parts before after h.1 in
    let a = sum_by-cons ticket_parts x before in
    let b = sum_by-cons ticket_parts y after in
    omega arith

pub all_parts : (seats : List TicketSeat) → AreDrawn HaveAllParts HasAsManyParts seats → sum_by ticket_parts seats ≡ 1024
all_parts seats drawn = sym (as_many_parts drawn.before seats drawn.later) ∙ drawn.dealt.parts

pub some_right : (seats : List TicketSeat) → AreDrawn HaveAllParts HasAsManyParts seats → 0 < length seats
some_right seats drawn = let size = length_all_zip (KeepsSame HasAsManyParts) drawn.before seats drawn.later in let some = drawn.dealt.some in omega arith

-- the last seat has taken in the others
module _ (tickets : Tickets) (seats others : List TicketSeat) (last whole : TicketSeat) (all : seats ≡ others ++ last ∷ []) (of : IsTicketSeatOf tickets whole) (drawn : numbers_drawn whole ≡ numbers_drawn last ++ flat_map numbers_drawn others) where
  as_often : (k : ℕ) → times k (flat_map numbers_drawn seats) ≡ times k (numbers_drawn whole)
  as_often k =
      let a : times k (flat_map numbers_drawn seats) ≡ times k (flat_map numbers_drawn others ++ numbers_drawn last) =
      ap (λ xs. times k (flat_map numbers_drawn xs)) all ∙ ap (times k) (sym (flat_map_more numbers_drawn [] others last)) in
      let b : times k (flat_map numbers_drawn others ++ numbers_drawn last) ≡ times k (flat_map numbers_drawn others) + times k (numbers_drawn last) = sum_by-append (λ x. cond (x == k) 1 0) (flat_map numbers_drawn others) (numbers_drawn last) in
      let c : times k (numbers_drawn whole) ≡ times k (numbers_drawn last) + times k (flat_map numbers_drawn others) = ap (times k) drawn ∙ sum_by-append (λ x. cond (x == k) 1 0) (numbers_drawn last) (flat_map numbers_drawn others) in
      omega arith

  pub gathered_once : (k : ℕ) → times k (flat_map numbers_drawn seats) ≤ 1
  gathered_once k = let a = as_often k in let b = whole.tally.once k in omega arith

  pub gathered_below : (k : ℕ) → count_of tickets ≤ k → times k (flat_map numbers_drawn seats) ≡ 0
  gathered_below k above =
      let a = as_often k in
      let bound = whole.tally.next_bound in
      let count = of.count in
      let b = whole.tally.passed k (omega arith) in
      omega arith

  pub gathered_each : ticket_parts whole ≡ ticket_parts last + sum_by ticket_parts others → sum_by ticket_parts seats ≡ 1024 → next_of whole ≡ count_of tickets → IsEachOnce (count_of tickets) (flat_map numbers_drawn seats)
  gathered_each parts whole_parts next =
      let sum : sum_by ticket_parts seats ≡ sum_by ticket_parts others + ticket_parts last = ap (sum_by ticket_parts) all ∙ sum_more ticket_parts others last in
      let full : ticket_parts whole ≡ 1024 = omega arith in
      let each : IsEachOnce (count_of tickets) (numbers_drawn whole) = subst (λ n. IsEachOnce n (numbers_drawn whole)) (sym whole.next_is ∙ next) (whole.tally.all full) in
      record {
        once = λ k below. as_often k ∙ each.once k below;
        no_other = λ k above. as_often k ∙ each.no_other k above;
      }
