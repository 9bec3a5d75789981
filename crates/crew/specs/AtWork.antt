-- A worker before, between and after its runs, and who hired it. Each definition takes what the job says of seats (`fits`,
-- `has_parts`), of what a worker keeps (`owns`) and of runs (`stands`), and what the source of the numbers says of rights
-- (`is_right`, `drawn`, `has_passed`).
use Rattle.std.specs.Prelude.{ℕ, ◌≡◌, ◌<◌, ◌≤◌, ◌+◌, List, [], ◌∷◌, ◌++◌, true, length, slice_index_or, Result, IfOk, OnErr}
use denote.Ref.{MutBor}
use Rattle.memory.specs.declared.NoMemory.{NoMemory}
use Rattle.tickets.specs.Counting.{times}
use Rattle.crew.specs.declared.worker.Worker.{Worker}
use Rattle.crew.specs.Ends.{numbers_of}

-- all these numbers were run with the seat, in this order, and these are the runs
pub record HaveRun {S E : Type 0} (stands : S → List (ℕ × E) → Type 0) (numbers : List ℕ) (seat : S) (runs : List (ℕ × E)) : Type 0 where
  pub all : numbers ≡ numbers_of runs
  pub stand : stands seat runs

-- some of these numbers were run with the seat, none oftener than it stands there
pub record HaveRunSome {S E : Type 0} (stands : S → List (ℕ × E) → Type 0) (numbers : List ℕ) (seat : S) : Type 0 where
  pub runs : List (ℕ × E)
  pub stand : stands seat runs
  pub some : (k : ℕ) → times k (numbers_of runs) ≤ times k numbers

-- the first seat, where so many workers have one of the 1024 parts each
pub record IsFirstSeat {S : Type 0} (fits : S → Type 0) (has_parts : S → ℕ → Type 0) (workers : ℕ) (seat : S) : Type 0 where
  pub seat_fits : fits seat
  pub parts : ℕ
  pub all : parts + workers ≡ 1024
  pub has : has_parts seat parts

-- of 64 workers at most, one more has a part of the first seat
abbrev pub GivesPart : {S : Type 0} → (S → Type 0) → (S → ℕ → Type 0) → S → S → Type 0
GivesPart fits has_parts before after =
    (workers : ℕ) → workers < 64 → IsFirstSeat fits has_parts workers before → IsFirstSeat fits has_parts (workers + 1) after

-- a worker has a seat of one part
pub record HasSeat {N S W E : Type 0} (fits : S → Type 0) (has_parts : S → ℕ → Type 0) (w : Worker N S W E) : Type 0 where
  pub seat_fits : fits w.seat
  pub part : has_parts w.seat 1

-- it has run all numbers that it has drawn, in this order
abbrev pub HasRun : {N S W E : Type 0} → (N → List ℕ) → (S → List (ℕ × E) → Type 0) → Worker N S W E → Type 0
HasRun drawn stands w = HaveRun stands (drawn w.right) w.seat w.runs.items

-- it has run some of the numbers that it has drawn
abbrev pub HasRunSome : {N S W E : Type 0} → (N → List ℕ) → (S → List (ℕ × E) → Type 0) → Worker N S W E → Type 0
HasRunSome drawn stands w = HaveRunSome stands (drawn w.right) w.seat

-- it is at the start of its work
pub record IsHired {N S W E : Type 0} (fits : S → Type 0) (has_parts : S → ℕ → Type 0) (owns : W → Type 0) (stands : S → List (ℕ × E) → Type 0) (w : Worker N S W E) : Type 0 where
  pub seat : HasSeat fits has_parts w
  pub own : owns w.own
  pub idle : w.runs.items ≡ []
  pub stand : stands w.seat []

-- its right is one to draw, with which nothing was drawn yet
pub record MayStart {N S W E : Type 0} (is_right : N → Type 0) (drawn : N → List ℕ) (w : Worker N S W E) : Type 0 where
  pub right : is_right w.right
  pub none : drawn w.right ≡ []

-- it has run all numbers that it has drawn, and may draw the next
pub record MayDraw {N S W E : Type 0} (is_right : N → Type 0) (drawn : N → List ℕ) (owns : W → Type 0) (stands : S → List (ℕ × E) → Type 0) (w : Worker N S W E) : Type 0 where
  pub right : is_right w.right
  pub own : owns w.own
  pub run : HasRun drawn stands w

-- it can be taken back, and if it says that it is done, it has run all that it has drawn and found nothing left to draw
pub record IsBack {N S W E : Type 0} (is_right : N → Type 0) (drawn : N → List ℕ) (has_passed : N → Type 0) (fits : S → Type 0) (has_parts : S → ℕ → Type 0) (stands : S → List (ℕ × E) → Type 0) (w : Worker N S W E) : Type 0 where
  pub seat : HasSeat fits has_parts w
  pub right : is_right w.right
  pub passed : w.is_done ≡ true → has_passed w.right
  pub run : w.is_done ≡ true → HasRun drawn stands w

-- at each place, what stands there before and after is so
abbrev pub AtEachPlace : {X : Type 0} → (X → X → Type 0) → List X → List X → Type 0
AtEachPlace {X} is_so before after = (i : ℕ) (d : X) → i < length before → is_so (slice_index_or before i d) (slice_index_or after i d)

-- what a run of a number leaves, by its result: the seat is one with as many parts, and where memory sufficed the worker may
-- keep what it has, and the run was made with the seat
pub record IsRun {S W E : Type 0} (fits : S → Type 0) (has_parts : S → ℕ → Type 0) (owns : W → Type 0) (stands : S → List (ℕ × E) → Type 0) (own : W) (before after : S) (number : ℕ) (result : Result E NoMemory) : Type 0 where
  pub seat : fits after
  pub parts : (n : ℕ) → has_parts before n → has_parts after n
  pub kept : IfOk result (λ end. owns own)
  pub run : (runs : List (ℕ × E)) → stands before runs → IfOk result (λ end. stands after (runs ++ (number, end) ∷ []))

-- a run that was refused leaves standing what stood of the runs before it
abbrev pub KeepsRuns : {S E : Type 0} → (S → List (ℕ × E) → Type 0) → S → S → Result E NoMemory → Type 0
KeepsRuns stands before after result = (runs : List (ℕ × _)) → stands before runs → OnErr result (stands after runs)

-- a worker may call this for each number below the count, with what it may keep and a seat
abbrev pub CanRun : {S W : Type 0} → ℕ → (W → Type 0) → (S → Type 0) → (MutBor W → MutBor S → ℕ → Type 0) → Type 0
CanRun {S} {W} count owns fits pre = (own : MutBor W) (seat : MutBor S) (number : ℕ) → number < count → owns own.now → fits seat.now → pre own seat number

-- such a call is a run of the number
abbrev pub Runs : {S W E : Type 0} → ℕ → (W → Type 0) → (S → Type 0) → (S → ℕ → Type 0) → (S → List (ℕ × E) → Type 0) →
    (MutBor W → MutBor S → ℕ → Result E NoMemory → MutBor W → MutBor S → Type 0) → Type 0
Runs {S} {W} {E} count owns fits has_parts stands post =
    (own : MutBor W) (seat : MutBor S) (number : ℕ) (r : Result E NoMemory) (own2 : MutBor W) (seat2 : MutBor S) → number < count → owns own.now → fits seat.now →
    post own seat number r own2 seat2 → IsRun fits has_parts owns stands own2.now seat.now seat2.now number r

-- where such a call is refused memory, what stood of the runs before it still stands
abbrev pub KeepRuns : {S W E : Type 0} → ℕ → (W → Type 0) → (S → Type 0) → (S → List (ℕ × E) → Type 0) →
    (MutBor W → MutBor S → ℕ → Result E NoMemory → MutBor W → MutBor S → Type 0) → Type 0
KeepRuns {S} {W} {E} count owns fits stands post =
    (own : MutBor W) (seat : MutBor S) (number : ℕ) (r : Result E NoMemory) (own2 : MutBor W) (seat2 : MutBor S) → number < count → owns own.now → fits seat.now →
    post own seat number r own2 seat2 → KeepsRuns stands seat.now seat2.now r
