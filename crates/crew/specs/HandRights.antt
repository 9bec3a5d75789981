-- Hands as rights to draw.
use Rattle.std.specs.Prelude.{ℕ, ◌≡◌, ◌-◌, List, length, true}
use Rattle.steal_crew.specs.declared.hand.Hand.{Hand}
use Rattle.steal_crew.specs.Hands.{AreHandsOfOneDeal, count_of, drawn_of, is_done}
use Rattle.crew.specs.declared.hand_source.HandSource.{HandSource}

-- how many numbers were dealt
abbrev pub numbers_dealt : HandSource → ℕ
numbers_dealt source = source.count

-- as many were dealt with it
abbrev pub IsHandOf : HandSource → Hand → Type 0
IsHandOf source hand = count_of hand ≡ source.count

-- its last answer was that it found none
abbrev pub HasNoneLeft : HandSource → Hand → Type 0
HasNoneLeft source hand = is_done hand ≡ true

-- how many numbers it hasn't given
abbrev pub hand_left : HandSource → Hand → ℕ
hand_left source hand = source.count - length (drawn_of hand)

abbrev pub AreHandsOf : HandSource → List Hand → Type 0
AreHandsOf source hands = AreHandsOfOneDeal source.count hands
