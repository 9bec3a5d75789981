-- The rule of the shared words, kept by every step of every seat, and what each kind of step tells.
use Rattle.std.specs.Prelude.{ℕ, ◌≡◌, ◌≢◌, ◌+◌, ◌<◌, ◌≤◌, ◌==◌, max, List, [], ◌∷◌, length, slice_index, slice_set, Bool, true, false, Option, None}
use mathlib.Core.Option.{some}
use lib.ListN.{get_elem?}
use Rattle.atomic_table.specs.Table.{State, Me, Step}
use Rattle.interval.specs.Boxes.{Bounds}
use Rattle.lattice_store.specs.Words.{epoch_of, code_of, IsCode, ceiling}
use Rattle.lattice_store.specs.declared.table.View.{View}

-- What the rule says of the word k, which is n, beside a view that isn't spent
pub record Sees (n : ℕ) (v : View) (k : ℕ) : Type 0 where
  -- what was seen is at most what stands
  pub at_most : slice_index v.seen k ≤ n
  -- a word of the view's epoch holds its floor
  pub held : epoch_of n ≡ v.epoch → code_of n ≤ ceiling v.floor k
  -- no word has an epoch above that of the first seat
  pub newest : v.first ≡ true → epoch_of n ≤ v.epoch
  -- what the first seat has yet to open is of an earlier epoch
  pub unopened : v.first ≡ true → v.opened ≤ k → epoch_of n < v.epoch
  -- what was seen is of the view's epoch, and holds its floor
  pub own : k < v.opened → (epoch_of (slice_index v.seen k) ≡ v.epoch) × (code_of (slice_index v.seen k) ≤ ceiling v.floor k)
  -- at the start the first seat knows the words
  pub as_made : v.fresh ≡ true → n ≡ slice_index v.seen k

-- What the rule says of two views, of the seats i and j, that aren't spent. They may be one
pub record Agree (i j : ℕ) (u v : View) : Type 0 where
  -- one epoch has one floor
  pub one_floor : u.epoch ≡ v.epoch → u.floor ≡ v.floor
  -- no seat has an epoch above that of the first seat
  pub ahead : u.first ≡ true → v.epoch ≤ u.epoch
  pub one_first : u.first ≡ true → v.first ≡ true → i ≡ j
  -- nobody else is in the epoch that the first seat is opening
  pub opening : u.first ≡ true → u.opened < length u.seen → i ≢ j → v.epoch < u.epoch
  -- a seat that is past is behind the first seat
  pub behind : u.first ≡ true → v.past ≡ true → v.epoch < u.epoch
  -- at the start there is one seat
  pub alone : u.fresh ≡ true → i ≡ j

-- The rule, over the words and the views of all seats. The word 0 is spare
pub record Lawful (words : List ℕ) (views : List View) : Type 0 where
  pub codes : (k : ℕ) → 1 ≤ k → k < length words → IsCode (slice_index words k)
  pub lengths : (j : ℕ) (v : View) → get_elem? views j ≡ some v → v.live ≡ true → length v.seen ≡ length words
  -- a seat that isn't the first has opened all words of its epoch: the first one alone opens
  pub opened_all : (j : ℕ) (v : View) → get_elem? views j ≡ some v → v.live ≡ true → v.first ≡ false → v.opened ≡ length words
  pub sees : (j : ℕ) (v : View) → get_elem? views j ≡ some v → v.live ≡ true → (k : ℕ) → 1 ≤ k → k < length words → Sees (slice_index words k) v k
  pub agree : (i j : ℕ) (u v : View) → get_elem? views i ≡ some u → get_elem? views j ≡ some v → u.live ≡ true → v.live ≡ true → Agree i j u v

abbrev pub Keeps : State ℕ View → Type 0
Keeps s = Lawful s.words s.views

-- the first seat of a store that was just made
abbrev pub made_view : List ℕ → ℕ → View
made_view words epoch = record { epoch = epoch; first = true; live = true; fresh = true; past = false; opened = length words; floor = None; seen = words }

-- What is seen after the word k was n: nothing new where the seat was past, or where n is of another epoch
abbrev pub seen_after : Bool → Bool → List ℕ → ℕ → ℕ → List ℕ
seen_after true own seen k n = seen
seen_after false true seen k n = slice_set seen k n
seen_after false false seen k n = seen

abbrev pub past_after : Bool → Bool → Bool
past_after true own = true
past_after false true = false
past_after false false = true

abbrev pub noted : View → ℕ → ℕ → View
noted v k n = record v { seen = seen_after v.past (epoch_of n == v.epoch) v.seen k n; past = past_after v.past (epoch_of n == v.epoch) }

-- The seat goes from v to w as it sees that the word k is n
pub record Notes (v : View) (k n : ℕ) (w : View) : Type 0 where
  pub view : w ≡ noted v k n
  pub code : IsCode n
  pub later : slice_index v.seen k ≤ n
  pub held : epoch_of n ≡ v.epoch → code_of n ≤ ceiling v.floor k
  pub newest : v.first ≡ true → epoch_of n ≤ v.epoch

abbrev pub asked : Step ℕ → Me ℕ View → ℕ → Me ℕ View → Type 0
asked step before n after = (after.1 ≡ before.1) × Notes before.0 step.word n after.0

abbrev pub told : Step ℕ → Me ℕ View → ℕ → Me ℕ View → Type 0
told step before n after = (after.1 ≡ before.1) × Notes before.0 step.word (max n step.first) after.0

abbrev pub with_floor : View → Option Bounds → View
with_floor v floor = record v { fresh = false; floor = floor }

abbrev pub named : Option Bounds → Step ℕ → Me ℕ View → ℕ → Me ℕ View → Type 0
named floor step before n after = (after.1 ≡ before.1) × (after.0 ≡ with_floor before.0 floor)

abbrev pub begun : View → Option Bounds → View
begun v floor = record v { epoch = v.epoch + 1; floor = floor; opened = 1 }

abbrev pub began : Option Bounds → Step ℕ → Me ℕ View → ℕ → Me ℕ View → Type 0
began floor step before n after = (after.1 ≡ before.1) × (after.0 ≡ begun before.0 floor)

abbrev pub opened_by : View → ℕ → ℕ → View
opened_by v k n = record v { opened = k + 1; seen = slice_set v.seen k n }

abbrev pub opens : Step ℕ → Me ℕ View → ℕ → Me ℕ View → Type 0
opens step before n after = (after.1 ≡ before.1) × (after.0 ≡ opened_by before.0 step.word step.first)

-- what the rule says of a view alone
pub record IsOwn (v : View) : Type 0 where
  pub first_is_not_past : v.first ≡ true → v.past ≡ false
  pub own : (k : ℕ) → 1 ≤ k → k < v.opened → k < length v.seen → (epoch_of (slice_index v.seen k) ≡ v.epoch) × (code_of (slice_index v.seen k) ≤ ceiling v.floor k)

abbrev pub learned : Step ℕ → Me ℕ View → ℕ → Me ℕ View → Type 0
learned step before n after = (after.1 ≡ before.1) × (after.0 ≡ before.0) × IsOwn before.0

abbrev pub not_first : View → View
not_first v = record v { first = false }

-- the greater word at each place of the first list
abbrev pub greater : List ℕ → List ℕ → List ℕ
greater [] ys = []
greater (x ∷ xs) [] = x ∷ xs
greater (x ∷ xs) (y ∷ ys) = max x y ∷ greater xs ys

abbrev pub either : Bool → Bool → Bool
either true b = true
either false b = b

abbrev pub merged : View → View → View
merged v w = record v { seen = greater v.seen w.seen; past = either v.past w.past }

abbrev pub spent_view : View
spent_view = record { epoch = 0; first = false; live = false; fresh = false; past = false; opened = 0; floor = None; seen = [] }
