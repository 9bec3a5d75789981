-- The rule of the shared word and of what the seats know, kept by every step of every seat.
use Rattle.std.specs.Prelude.{ℕ, ◌≡◌, ◌+◌, ◌-◌, ◌==◌, ◌<◌, ◌≤◌, ◌⊎◌, min, Bool, true, false, List, [], ◌∷◌, ◌++◌, length, slice_index}
use mathlib.Core.Option.{some}
use lib.ListN.{get_elem?}
use Rattle.atomic_table.specs.Table.{State, Me, Step}
use Rattle.best_bound.specs.Lists.{Among}
use Rattle.best_bound.specs.Codes.{none_word}
use Rattle.best_bound.specs.declared.table.View.{View}

-- some seat, live or ended, has posted the word
pub record IsPosted (views : List View) (x : ℕ) : Type 0 where
  pub seat : ℕ
  pub view : View
  pub there : get_elem? views seat ≡ some view
  pub posted : Among view.posts x

-- what the rule says of one view beside the shared word
pub record Knows (Passes : ℕ → Type 0) (word : ℕ) (views : List View) (v : View) : Type 0 where
  -- what it has seen is at or above the word, and was posted by some seat
  pub seen : (x : ℕ) → Among v.seen x → (word ≤ x) × IsPosted views x
  -- what it has posted is at or above the word, isn't the word of no value, and passes the test
  pub posts : (x : ℕ) → Among v.posts x → (word ≤ x) × (x < none_word) × Passes x
  -- a spent seat has no posts
  pub spent : v.parts ≡ 0 → v.posts ≡ []

-- the parts of all seats together
abbrev pub total_parts : List View → ℕ
total_parts [] = 0
total_parts (v ∷ views) = v.parts + total_parts views

-- The rule, over the shared word and the views of all seats
pub record Lawful (Passes : ℕ → Type 0) (word : ℕ) (views : List View) : Type 0 where
  pub word_is : (word ≡ none_word) ⊎ IsPosted views word
  pub each : (j : ℕ) (v : View) → get_elem? views j ≡ some v → Knows Passes word views v
  pub total : total_parts views ≡ 1024

abbrev pub Keeps : (ℕ → Type 0) → State ℕ View → Type 0
Keeps Passes s = (0 < length s.words) × Lawful Passes (slice_index s.words 0) s.views

-- the first seat's view at the start
abbrev pub first_view : View
first_view = record { parts = 1024; posts = []; seen = [] }

-- what is seen after the word was n: the word of no value isn't kept
abbrev pub with_word : Bool → List ℕ → ℕ → List ℕ
with_word true seen n = seen
with_word false seen n = n ∷ seen

abbrev pub seeing : View → ℕ → View
seeing v n = record v { seen = with_word (n == none_word) v.seen n }

abbrev pub posting : View → ℕ → ℕ → View
posting v x n = record v { posts = x ∷ v.posts; seen = n ∷ v.seen }

-- what the rule says of a view by itself, just after its seat stepped and the word was n
pub record Hears (Passes : ℕ → Type 0) (n : ℕ) (v : View) : Type 0 where
  pub seen : (x : ℕ) → Among v.seen x → (n ≤ x) × (x < none_word) × Passes x
  pub posts : (x : ℕ) → Among v.posts x → (n ≤ x) × (x < none_word) × Passes x
  -- a seat with all parts knows all posts
  pub all : v.parts ≡ 1024 → (x : ℕ) → Among v.seen x → Among v.posts x

pub record Looked (Passes : ℕ → Type 0) (before : Me ℕ View) (n : ℕ) (after : Me ℕ View) : Type 0 where
  pub slots : after.1 ≡ before.1
  pub view : after.0 ≡ seeing before.0 n
  pub hears : Hears Passes n after.0

-- the seat posted x, and the word is n after that
pub record Posted (Passes : ℕ → Type 0) (before : Me ℕ View) (x n : ℕ) (after : Me ℕ View) : Type 0 where
  pub slots : after.1 ≡ before.1
  pub view : after.0 ≡ posting before.0 x n
  pub at_most : n ≤ x
  pub hears : Hears Passes n after.0

abbrev pub looked : (ℕ → Type 0) → Step ℕ → Me ℕ View → ℕ → Me ℕ View → Type 0
looked Passes step before n after = Looked Passes before n after

abbrev pub told : (ℕ → Type 0) → Step ℕ → Me ℕ View → ℕ → Me ℕ View → Type 0
told Passes step before n after = Posted Passes before step.first (min n step.first) after

-- a split moves one part to the new seat, which has seen the same and posted nothing
abbrev pub one_less : View → View
one_less v = record v { parts = v.parts - 1 }

abbrev pub one_part : View → View
one_part v = record { parts = 1; posts = []; seen = v.seen }

abbrev pub joined : View → View → View
joined v w = record { parts = v.parts + w.parts; posts = v.posts ++ w.posts; seen = v.seen ++ w.seen }

abbrev pub spent_view : View
spent_view = record { parts = 0; posts = []; seen = [] }

-- a seat that may step: it isn't spent, and holds no slot
pub record IsReady (me : Me ℕ View) : Type 0 where
  pub live : 1 ≤ me.0.parts
  pub empty : me.1 ≡ []
