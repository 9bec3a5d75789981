-- The rule of the shared words and of what the seats know, kept by every step of every seat. Word 0 is spare, word k + 1 is
-- that of number k.
use Rattle.std.specs.Prelude.{ℕ, suc, ◌≡◌, ◌+◌, ◌-◌, ◌==◌, ◌<◌, ◌≤◌, max, Bool, true, false, List, [], ◌∷◌, ◌++◌, length, slice_index}
use mathlib.Core.Option.{some}
use lib.ListN.{get_elem?}
use Rattle.atomic_table.specs.Table.{State, Me, Step}
use Rattle.tickets.specs.Counting.{times, IsTally}
use Rattle.tickets.specs.declared.table.View.{View}

-- how often the number stands in the lists of all seats, live or ended
abbrev pub times_all : ℕ → List View → ℕ
times_all k [] = 0
times_all k (v ∷ views) = times k v.drawn + times_all k views

-- the parts of all seats together
abbrev pub total_parts : List View → ℕ
total_parts [] = 0
total_parts (v ∷ views) = v.parts + total_parts views

-- what the rule says of a seat that isn't spent
pub record Passes (words : List ℕ) (v : View) : Type 0 where
  pub count : length words ≡ suc v.count
  pub next : v.next ≤ v.count
  -- each number below the next is drawn, by this seat or another
  pub passed : (k : ℕ) → k < v.next → slice_index words (suc k) ≡ 1
  pub ahead : (k : ℕ) → v.next ≤ k → times k v.drawn ≡ 0

pub record Knows (words : List ℕ) (v : View) : Type 0 where
  pub live : 1 ≤ v.parts → Passes words v
  -- a spent seat has no list
  pub spent : v.parts ≡ 0 → v.drawn ≡ []

-- The rule, over the words and the views of all seats
pub record Lawful (words : List ℕ) (views : List View) : Type 0 where
  -- a number's word is how often it was drawn, and that is once at most
  pub counted : (k : ℕ) → times_all k views ≡ slice_index words (suc k)
  pub at_most : (k : ℕ) → slice_index words (suc k) ≤ 1
  pub each : (j : ℕ) (v : View) → get_elem? views j ≡ some v → Knows words v
  pub total : total_parts views ≡ 1024

abbrev pub Keeps : State ℕ View → Type 0
Keeps s = Lawful s.words s.views

-- the first seat's view at the start
abbrev pub first_view : ℕ → View
first_view count = record { parts = 1024; count = count; next = 0; drawn = [] }

-- the list after a step on the number's word, by whether the word was 0
abbrev pub with_number : Bool → List ℕ → ℕ → List ℕ
with_number true drawn k = drawn ++ k ∷ []
with_number false drawn k = drawn

-- the view after a step on the word of the next number, which was n
abbrev pub drawing : View → ℕ → View
drawing v n = record v { next = suc v.next; drawn = with_number (n == 0) v.drawn v.next }

abbrev pub TallyOf : View → Type 0
TallyOf v = IsTally v.parts v.count v.next v.drawn

pub record Drew (before : Me ℕ View) (n : ℕ) (after : Me ℕ View) : Type 0 where
  pub slots : after.1 ≡ before.1
  pub view : after.0 ≡ drawing before.0 n
  pub tally : TallyOf after.0

pub record Heard (before after : Me ℕ View) : Type 0 where
  pub same : after ≡ before
  pub tally : TallyOf before.0

abbrev pub drew : Step ℕ → Me ℕ View → ℕ → Me ℕ View → Type 0
drew step before n after = Drew before n after

abbrev pub heard : Step ℕ → Me ℕ View → ℕ → Me ℕ View → Type 0
heard step before n after = Heard before after

-- a split moves one part to the new seat, which has drawn nothing and has the same next number
abbrev pub one_less : View → View
one_less v = record v { parts = v.parts - 1 }

abbrev pub one_part : View → View
one_part v = record { parts = 1; count = v.count; next = v.next; drawn = [] }

abbrev pub joined : View → View → View
joined v w = record { parts = v.parts + w.parts; count = v.count; next = max v.next w.next; drawn = v.drawn ++ w.drawn }

abbrev pub spent_view : View
spent_view = record { parts = 0; count = 0; next = 0; drawn = [] }

-- a seat that may step: it isn't spent, and holds no slot
pub record IsReady (me : Me ℕ View) : Type 0 where
  pub live : 1 ≤ me.0.parts
  pub empty : me.1 ≡ []
