-- The rule of a deque of numbers and of what the views of its passes know, kept by every step of every pass.
use Rattle.std.specs.Prelude.{ℕ, ◌≡◌, ◌≢◌, ◌+◌, ◌-◌, ◌<◌, ◌≤◌, List, [], ◌∷◌, ◌++◌, length, sum_by}
use mathlib.Core.Option.{some}
use lib.ListN.{get_elem?}
use Rattle.steal_crew.specs.declared.deque.View.{View}
use Rattle.steal_crew.specs.Numbers.{AreSameNumbers, IsPart}

-- what the numbers that all views have taken weigh together
abbrev pub taken_weight : (ℕ → ℕ) → List View → ℕ
taken_weight w [] = 0
taken_weight w (v ∷ views) = sum_by w v.taken + taken_weight w views

-- the parts of all views together
abbrev pub total_parts : List View → ℕ
total_parts [] = 0
total_parts (v ∷ views) = v.parts + total_parts views

-- What the rule says of a view: where it isn't spent, the numbers in the deque and those that all views have taken are together
-- the numbers that were dealt to the deque, each as often; and a spent view has taken nothing.
pub record Knows (items : List ℕ) (views : List View) (v : View) : Type 0 where
  pub live : 1 ≤ v.parts → (w : ℕ → ℕ) → sum_by w items + taken_weight w views ≡ sum_by w v.dealt
  pub spent : v.parts ≡ 0 → v.taken ≡ []

-- The rule
pub record Lawful (items : List ℕ) (views : List View) : Type 0 where
  pub each : (j : ℕ) (v : View) → get_elem? views j ≡ some v → Knows items views v
  pub total : total_parts views ≡ 1024

abbrev pub view_of : ℕ → List ℕ → List ℕ → View
view_of parts dealt taken = record { parts = parts; dealt = dealt; taken = taken }

abbrev pub first_view : View
first_view = view_of 1024 [] []

abbrev pub spent_view : View
spent_view = view_of 0 [] []

abbrev pub pushed : View → List ℕ → View → Type 0
pushed v xs after = after ≡ view_of v.parts (v.dealt ++ xs) v.taken

-- a view after its pass has taken xs. It has taken no number oftener than it was dealt.
pub record Took (v : View) (xs : List ℕ) (after : View) : Type 0 where
  pub view : after ≡ view_of v.parts v.dealt (v.taken ++ xs)
  pub within : IsPart (v.taken ++ xs) v.dealt

abbrev pub took : View → List ℕ → View → Type 0
took v xs after = Took v xs after

-- with all parts, the view has taken all that was dealt
abbrev pub IsAllTaken : View → Type 0
IsAllTaken v = v.parts ≡ 1024 → AreSameNumbers v.taken v.dealt

-- fewer numbers were taken than were dealt
abbrev pub IsSomeLeft : View → Type 0
IsSomeLeft v = length v.taken < length v.dealt

-- What a look at the deque tells, which found these numbers in it
pub record Looked (v : View) (items : List ℕ) : Type 0 where
  pub within : IsPart v.taken v.dealt
  pub all : items ≡ [] → IsAllTaken v
  pub some : items ≢ [] → IsSomeLeft v

abbrev pub looked : View → List ℕ → Type 0
looked v items = Looked v items

-- a new pass gets one part and has taken nothing
abbrev pub one_less : View → View
one_less v = view_of (v.parts - 1) v.dealt v.taken

abbrev pub one_part : View → View
one_part v = view_of 1 v.dealt []

abbrev pub joined : View → View → View
joined v other = view_of (v.parts + other.parts) v.dealt (v.taken ++ other.taken)
