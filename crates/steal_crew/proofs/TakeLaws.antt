-- What a hand has after it has looked for a number.
use Rattle.std.proofs.Common.{ℕ, ◌≡◌, ◌+◌, ◌<◌, ◌≤◌, List, [], ◌∷◌, ◌++◌, length, map, set, get_or, sym, ap, ◌∙◌, subst, arith, length-append}
use Rattle.std.specs.Prelude.{flat_map, sum_by, Option, Some, None, IfSome, option_to_list}
use Rattle.std.proofs.lemmas.List.Sums.{sum_by-set}
use Rattle.std.proofs.lemmas.List.Folds.{flat_map-map}
use Rattle.std.proofs.Math.Seq.{map-set_same}
use Rattle.tickets.specs.Seats.{with_drawn}
use Rattle.steal_crew.specs.Numbers.{AreSameNumbers, IsPart, numbers_below}
use Rattle.steal_crew.specs.Rights.{right_of, taken_by, dealt_to}
use Rattle.steal_crew.specs.Hands.{count_of, drawn_of, taken_of, own_view, rights_of}
use Rattle.steal_crew.specs.declared.deque.View.{View}
use Rattle.steal_crew.specs.declared.victim.Victim.{Victim}
use Rattle.steal_crew.specs.declared.hand.Hand.{Hand}
use Rattle.steal_crew.proofs.NumberLaws.{weight-with_drawn, sum_by-flat_map, length_of_part, below_of_part}
use Rattle.steal_crew.proofs.DrawLaws.{dealt_of_rights, all_within, fits, stays_below}

pub robbed_none : (os : List Victim) (place : ℕ) (v d : Victim) → taken_by v ≡ taken_by (get_or os place d) → flat_map taken_by (set os place v) ≡ flat_map taken_by os
robbed_none os place v d e = sym (flat_map-map (λ (x : List ℕ). x) taken_by (set os place v)) ∙ ap (flat_map (λ (x : List ℕ). x)) (map-set_same taken_by os place v d e) ∙ flat_map-map (λ (x : List ℕ). x) taken_by os

pub robbed : (os : List Victim) (place : ℕ) (v d : Victim) (found : Option ℕ) → place < length os → taken_by v ≡ with_drawn found (taken_by (get_or os place d)) → AreSameNumbers (flat_map taken_by (set os place v)) (with_drawn found (flat_map taken_by os))
robbed os place v d found lt e = record {
  weight = λ w.
      let a = sum_by-set (λ (x : Victim). sum_by w (taken_by x)) os place v d lt in
      let b = sum_by-flat_map w taken_by (set os place v) in
      let c = sum_by-flat_map w taken_by os in
      let f : sum_by w (taken_by v) ≡ sum_by w (taken_by (get_or os place d)) + sum_by w (option_to_list found) = ap (sum_by w) e ∙ weight-with_drawn w found (taken_by (get_or os place d)) in
      let g = weight-with_drawn w found (flat_map taken_by os) in omega arith;
}

length-drawn : (found : Option ℕ) (xs : List ℕ) → length (with_drawn found xs) ≡ length xs + length (option_to_list found)
length-drawn None xs = omega arith
length-drawn (Some k) xs = length-append xs (k ∷ [])

below_found : (found : Option ℕ) (n : ℕ) (xs : List ℕ) → IsPart (with_drawn found xs) (numbers_below n) → IfSome found (λ k. k < n)
below_found None n xs p = tt
below_found (Some k) n xs p = below_of_part n k xs p

module _ (hand : Hand) (v : View) (os : List Victim) (found : Option ℕ) (dealt : v.dealt ≡ (own_view hand).dealt) (within : IsPart v.taken v.dealt) (rights : map right_of os ≡ rights_of hand)
    (taken : AreSameNumbers (v.taken ++ flat_map taken_by os) (with_drawn found (taken_of hand))) where
  all_dealt : v.dealt ++ flat_map dealt_to os ≡ (own_view hand).dealt ++ flat_map dealt_to hand.others.items
  all_dealt = ap (λ (l : List ℕ). l ++ flat_map dealt_to os) dealt ∙ ap (λ (l : List ℕ). (own_view hand).dealt ++ l) (dealt_of_rights hand.others.items os rights)

  part : IsPart (with_drawn found (drawn_of hand)) (numbers_below (count_of hand))
  part = fits found (count_of hand) (drawn_of hand) ((own_view hand).dealt ++ flat_map dealt_to hand.others.items) (taken_of hand) (v.taken ++ flat_map taken_by os) taken hand.below
      (subst (IsPart (v.taken ++ flat_map taken_by os)) all_dealt (all_within v.taken v.dealt os within))

  pub take_below : IsPart (with_drawn found (drawn_of hand) ++ (v.dealt ++ flat_map dealt_to os)) (numbers_below (count_of hand) ++ (v.taken ++ flat_map taken_by os))
  take_below = subst (λ (l : List ℕ). IsPart (with_drawn found (drawn_of hand) ++ l) (numbers_below (count_of hand) ++ (v.taken ++ flat_map taken_by os))) (sym all_dealt)
      (stays_below found (count_of hand) (drawn_of hand) ((own_view hand).dealt ++ flat_map dealt_to hand.others.items) (taken_of hand) (v.taken ++ flat_map taken_by os) taken hand.below)

  pub take_room : length (drawn_of hand) + length (option_to_list found) ≤ count_of hand
  take_room = let a = length_of_part (count_of hand) (with_drawn found (drawn_of hand)) part in let b = length-drawn found (drawn_of hand) in omega arith

  pub take_few : length (with_drawn found (drawn_of hand)) ≤ count_of hand
  take_few = length_of_part (count_of hand) (with_drawn found (drawn_of hand)) part

  pub take_found : IfSome found (λ k. k < count_of hand)
  take_found = below_found found (count_of hand) (drawn_of hand) part
