-- What contracts say of an object and its seats.
use Rattle.std.specs.Prelude.{ℕ, ◌≡◌, ◌+◌, ◌<◌, ◌≤◌, List, [], ◌∷◌, ◌++◌, Option, Some, None}
use Rattle.tickets.specs.Counting.{IsTally}
use Rattle.tickets.specs.declared.tickets.Tickets.{Tickets}
use Rattle.tickets.specs.declared.seat.TicketSeat.{TicketSeat}

-- how many numbers there are: they are 0 to one less
abbrev pub count_of : Tickets → ℕ
count_of tickets = tickets.count

-- a seat of this very object
pub record IsTicketSeatOf (tickets : Tickets) (s : TicketSeat) : Type 0 where
  pub table : s.place.table_id ≡ tickets.table.shared.table_id
  pub count : s.place.me.0.count ≡ tickets.count

-- The seat's share of the 1024 parts that all seats of its object have together
abbrev pub ticket_parts : TicketSeat → ℕ
ticket_parts s = s.place.me.0.parts

-- the numbers below it were all drawn, by this seat or another
abbrev pub next_of : TicketSeat → ℕ
next_of s = s.next

-- the numbers that the seat, or a seat joined into it, has drawn
abbrev pub numbers_drawn : TicketSeat → List ℕ
numbers_drawn s = s.place.me.0.drawn

-- the list with the number that was drawn behind it, where there is one
abbrev pub with_drawn : Option ℕ → List ℕ → List ℕ
with_drawn None drawn = drawn
with_drawn (Some k) drawn = drawn ++ k ∷ []

-- what is known of a seat of this object by itself
abbrev pub HasTally : Tickets → TicketSeat → Type 0
HasTally tickets s = IsTally (ticket_parts s) (count_of tickets) (next_of s) (numbers_drawn s)

-- What a draw answers: the number is at or above the seat's next, which is one more then; there is none where all numbers
-- are passed
abbrev pub IsDraw : ℕ → ℕ → ℕ → Option ℕ → Type 0
IsDraw count before after None = after ≡ count
IsDraw count before after (Some k) = (before ≤ k) × (k < count) × (after ≡ k + 1)
