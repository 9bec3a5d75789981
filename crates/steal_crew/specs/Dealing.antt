-- Hands that are being dealt.
use Rattle.std.specs.Prelude.{ℕ, ◌≡◌, ◌≢◌, ◌+◌, ◌-◌, ◌≤◌, false, List, [], ◌∷◌, ◌++◌, map, flat_map, length, take, drop, slice_index_or, slice_set}
use Rattle.std.specs.List.{All}
use Rattle.steal_crew.specs.declared.hand.Hand.{Hand}
use Rattle.steal_crew.specs.Numbers.{AreSameNumbers, numbers_below, share}
use Rattle.steal_crew.specs.Rights.{Right}
use Rattle.steal_crew.specs.Hands.{Standing, standing_of, AreWhole, lent_to, rights_at, count_of, dealt_of, taken_of, drawn_of, is_done, own_view}

-- it has taken and given nothing
pub record IsUndrawn (hand : Hand) : Type 0 where
  pub drawn : drawn_of hand ≡ []
  pub taken : taken_of hand ≡ []
  pub idle : is_done hand ≡ false

-- and it has rights at no other deque yet
pub record IsFresh (n : ℕ) (hand : Hand) : Type 0 where
  pub count : count_of hand ≡ n
  pub parts : (own_view hand).parts ≡ 1024
  pub others : hand.others.items ≡ []
  pub undrawn : IsUndrawn hand

-- the first hands, each with its share of the numbers
pub record AreFresh (n workers m : ℕ) (hands : List Hand) : Type 0 where
  pub dealt : map dealt_of hands ≡ map (share n workers) (numbers_below m)
  pub fresh : All (IsFresh n) hands

-- a right at a deque, with one part
abbrev pub right_at : ℕ → Standing → Right
right_at of s = record { of = of; deque = s.deque; parts = 1; dealt = s.dealt }

abbrev pub less_one : Standing → Standing
less_one s = record s { parts = s.parts - 1 }

abbrev pub with_right : Standing → Right → Standing
with_right s r = record s { rights = s.rights ++ r ∷ [] }

-- one hand has got a right at the deque of another
abbrev pub lent : Standing → List Standing → ℕ → ℕ → List Standing
lent d standings robber of =
    let giver = slice_index_or standings of d in
    let given = slice_set standings of (less_one giver) in
    slice_set given robber (with_right (slice_index_or given robber d) (right_at of giver))

-- What holds while rights are given: no deque is left without parts, since each hand has one part at most of each deque, and the
-- numbers dealt to all deques are those that each hand counts
pub record AreBeingDealt (standings : List Standing) : Type 0 where
  pub whole : AreWhole standings
  pub few : (d : ℕ) → All (λ s. lent_to d s ≤ 1) standings
  pub dealt : All (λ s. AreSameNumbers (flat_map (λ t. t.dealt) standings) (numbers_below s.count)) standings

-- all but one, from the next one on
abbrev pub others_from : {A : Type 0} → ℕ → List A → List A
others_from place xs = drop (place + 1) xs ++ take place xs

-- one hand has got a right at the deque of each of so many others, and the rights of all others stay
pub record IsLending (robber passed : ℕ) (before after : List Hand) : Type 0 where
  pub undrawn : All IsUndrawn after
  pub dealing : AreBeingDealt (map standing_of after)
  pub count : map count_of after ≡ map count_of before
  pub dealt : map dealt_of after ≡ map dealt_of before
  pub others : (i : ℕ) → i ≢ robber → rights_at i after ≡ rights_at i before
  pub places : map (λ r. r.of) (rights_at robber after) ≡ take passed (others_from robber (numbers_below (length before)))
  pub lists : map (λ r. r.dealt) (rights_at robber after) ≡ take passed (others_from robber (map dealt_of before))
