-- The rule of the shared words, kept by every step of every seat, and what each kind of step tells.
use Rattle.std.specs.Prelude.{ℕ, ◌≡◌, ◌<◌, List, [], ◌∷◌, length, slice_index, slice_index_or, slice_set, true, false, Option, None, IfSome}
use mathlib.Core.Option.{some}
use lib.ListN.{get_elem?}
use Rattle.atomic_table.specs.Table.{State, Me, Step}
use Rattle.bit_domain.specs.Mixes.{Mix}
use Rattle.mix_store.specs.declared.table.WordKind.{WordKind}
use Rattle.mix_store.specs.declared.table.WordKind.TheVariants.{Set}
use Rattle.mix_store.specs.declared.table.View.{View}
use Rattle.mix_store.specs.Order.{Holds, join_of, IsWord}
use Rattle.mix_store.specs.Words.{words_of, kinds_of}

abbrev pub kind_at : List WordKind → ℕ → WordKind
kind_at kinds k = slice_index_or kinds k Set

-- n may stand at the place k: it is a word of its kind, and holds the floor, if there is one
pub record IsAllowed (kinds : List WordKind) (floor : Option Mix) (k n : ℕ) : Type 0 where
  pub word : IsWord (kind_at kinds k) n
  pub held : IfSome floor (λ f. Holds (kind_at kinds k) n (slice_index (words_of f) k))

-- What the rule says of the word k, which is n, beside a view that isn't spent: what was seen holds it
pub record Fits (v : View) (k n : ℕ) : Type 0 where
  pub allowed : IsAllowed v.kinds v.floor k n
  pub behind : Holds (kind_at v.kinds k) (slice_index v.seen k) n

-- What the rule says of all words beside a view that isn't spent
pub record Sees (words : List ℕ) (v : View) : Type 0 where
  pub length_is : length words ≡ length v.seen
  pub fits : (k : ℕ) → k < length words → Fits v k (slice_index words k)
  -- at the start the one seat knows the words
  pub as_made : v.fresh ≡ true → words ≡ v.seen

-- What the rule says of two views, of the seats i and j, that aren't spent. They may be one
pub record Agree (i j : ℕ) (u v : View) : Type 0 where
  pub kinds : u.kinds ≡ v.kinds
  pub floor : u.floor ≡ v.floor
  -- at the start there is one seat
  pub alone : u.fresh ≡ true → i ≡ j

-- The rule, over the words and the views of all seats
pub record Lawful (words : List ℕ) (views : List View) : Type 0 where
  pub each : (j : ℕ) (v : View) → get_elem? views j ≡ some v → v.live ≡ true → Sees words v
  pub agree : (i j : ℕ) (u v : View) → get_elem? views i ≡ some u → get_elem? views j ≡ some v → u.live ≡ true → v.live ≡ true → Agree i j u v

abbrev pub Keeps : State ℕ View → Type 0
Keeps s = Lawful s.words s.views

-- the seat of a store that was just made of a mix
abbrev pub made_view : Mix → View
made_view m = record { live = true; fresh = true; kinds = kinds_of m; floor = None; seen = words_of m }

abbrev pub noted : View → ℕ → ℕ → View
noted v k n = record v { seen = slice_set v.seen k n }

-- The seat goes from v to w as it sees that the word k is n
pub record Notes (v : View) (k n : ℕ) (w : View) : Type 0 where
  pub view : w ≡ noted v k n
  pub fits : Fits v k n

abbrev pub asked : Step ℕ → Me ℕ View → ℕ → Me ℕ View → Type 0
asked step before n after = (after.1 ≡ before.1) × Notes before.0 step.word n after.0

abbrev pub told : Step ℕ → Me ℕ View → ℕ → Me ℕ View → Type 0
told step before n after = (after.1 ≡ before.1) × Notes before.0 step.word (join_of (kind_at before.0.kinds step.word) n step.first) after.0

abbrev pub with_floor : View → Option Mix → View
with_floor v floor = record v { fresh = false; floor = floor }

abbrev pub named : Option Mix → Step ℕ → Me ℕ View → ℕ → Me ℕ View → Type 0
named floor step before n after = (after.1 ≡ before.1) × (after.0 ≡ with_floor before.0 floor)

-- what the rule says of a view alone: what was seen holds the floor
abbrev pub IsOwn : View → Type 0
IsOwn v = (k : ℕ) → k < length v.seen → IfSome v.floor (λ f. Holds (kind_at v.kinds k) (slice_index v.seen k) (slice_index (words_of f) k))

abbrev pub learned : Step ℕ → Me ℕ View → ℕ → Me ℕ View → Type 0
learned step before n after = (after.1 ≡ before.1) × (after.0 ≡ before.0) × IsOwn before.0

-- at each place of the first list the join of both words
abbrev pub joined : List WordKind → List ℕ → List ℕ → List ℕ
joined kinds [] ys = []
joined [] (x ∷ xs) ys = x ∷ xs
joined (kind ∷ kinds) (x ∷ xs) [] = x ∷ xs
joined (kind ∷ kinds) (x ∷ xs) (y ∷ ys) = join_of kind x y ∷ joined kinds xs ys

abbrev pub merged : View → View → View
merged v w = record v { seen = joined v.kinds v.seen w.seen }

abbrev pub spent_view : View
spent_view = record { live = false; fresh = false; kinds = []; floor = None; seen = [] }
