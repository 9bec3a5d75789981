-- What contracts say of hands.
use Rattle.std.specs.Prelude.{ℕ, ◌≡◌, ◌+◌, ◌<◌, ◌≤◌, ◌==◌, cond, Bool, List, [], ◌++◌, map, length, sum_by, flat_map, slice_index, slice_index_or}
use Rattle.std.specs.List.{All}
use Rattle.std.specs.declared.alloc.Global.{Global}
use Rattle.atomic_blocks.specs.Lent.{RowsId}
use Rattle.crossbeam_deque.specs.Handles.{worker_deque, worker_view}
use Rattle.steal_crew.specs.declared.deque.View.{View}
use Rattle.steal_crew.specs.declared.hand.Hand.{Hand}
use Rattle.steal_crew.specs.Numbers.{AreSameNumbers, numbers_below}
use Rattle.steal_crew.specs.Rights.{Right, right_of, taken_by}

-- how many numbers were dealt in its deal: they are 0 to one less
abbrev pub count_of : Hand → ℕ
count_of hand = hand.count

-- the numbers that it gave, in order
abbrev pub drawn_of : Hand → List ℕ
drawn_of hand = hand.drawn.items

-- whether its last answer was that it found no number
abbrev pub is_done : Hand → Bool
is_done hand = hand.is_done

-- the numbers that were dealt to its own deque
abbrev pub dealt_of : Hand → List ℕ
dealt_of hand = (worker_view hand.own).dealt

-- the numbers that left a deque by one of its passes
abbrev pub taken_of : Hand → List ℕ
taken_of hand = (worker_view hand.own).taken ++ flat_map taken_by hand.others.items

-- what its pass of its own deque knows
abbrev pub own_view : Hand → View
own_view hand = worker_view hand.own

-- what stays as a hand draws: how many numbers were dealt, its own deque with its share of the parts and what was dealt to it,
-- and its rights at the deques of others
pub record Standing : Type 0 where
  pub count : ℕ
  pub deque : RowsId × Global
  pub parts : ℕ
  pub dealt : List ℕ
  pub rights : List Right

abbrev pub standing_of : Hand → Standing
standing_of hand = record {
  count = hand.count;
  deque = worker_deque hand.own;
  parts = (worker_view hand.own).parts;
  dealt = (worker_view hand.own).dealt;
  rights = map right_of hand.others.items;
}

-- its rights at the deques of others, in the order in which it tries them
abbrev pub rights_of : Hand → List Right
rights_of hand = map right_of hand.others.items

-- those of the hand at this place
abbrev pub rights_at : ℕ → List Hand → List Right
rights_at place hands = slice_index_or (map rights_of hands) place []

-- the second is the first after some draws: what left the deques by its passes is what it gave
pub record IsSameHand (before after : Hand) : Type 0 where
  pub standing : standing_of after ≡ standing_of before
  pub drawn : AreSameNumbers (drawn_of after ++ taken_of before) (drawn_of before ++ taken_of after)

-- the parts of the deque of hand d that this one has by its rights
abbrev pub lent_to : ℕ → Standing → ℕ
lent_to d s = sum_by (λ r. cond (r.of == d) r.parts 0) s.rights

-- the parts of the deque of hand d that all have together
abbrev pub parts_of : ℕ → List Standing → ℕ
parts_of d standings = slice_index (map (λ s. s.parts) standings) d + sum_by (lent_to d) standings

-- a right at the deque of the hand whose number it has
pub record IsRightAt (standings : List Standing) (r : Right) : Type 0 where
  pub place : r.of < length standings
  pub deque : (d : Standing) → r.deque ≡ (slice_index_or standings r.of d).deque

-- the hands have all parts of each of their deques, and rights at no others
pub record AreWhole (standings : List Standing) : Type 0 where
  pub rights : All (λ s. All (IsRightAt standings) s.rights) standings
  pub parts : (d : ℕ) → d < length standings → parts_of d standings ≡ 1024

-- all numbers that some hands gave, one list after the other
abbrev pub all_drawn : List Hand → List ℕ
all_drawn hands = flat_map drawn_of hands

-- All hands of one deal of n numbers, in order: they have all parts of their deques, to which together each number below n was
-- dealt once, and what left the deques is what they gave
pub record AreHandsOfOneDeal (n : ℕ) (hands : List Hand) : Type 0 where
  pub some : 1 ≤ length hands
  pub count : All (λ hand. count_of hand ≡ n) hands
  pub whole : AreWhole (map standing_of hands)
  pub dealt : AreSameNumbers (flat_map dealt_of hands) (numbers_below n)
  pub held : AreSameNumbers (all_drawn hands) (flat_map taken_of hands)

-- what is known of hands
pub record HandLaws : Type 0 where
  pub reflexive : (hand : Hand) → IsSameHand hand hand
  pub transitive : (one two three : Hand) → IsSameHand one two → IsSameHand two three → IsSameHand one three
  -- hands of one deal stay that while each draws
  pub one_deal : (n : ℕ) (before after : List Hand) → length after ≡ length before
      → ((i : ℕ) (d : Hand) → i < length before → IsSameHand (slice_index_or before i d) (slice_index_or after i d))
      → AreHandsOfOneDeal n before → AreHandsOfOneDeal n after
