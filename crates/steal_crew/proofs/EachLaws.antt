-- A hand gets a right at the deque of each other.
use Rattle.std.proofs.Common.{ℕ, ◌≡◌, ◌≢◌, ◌+◌, ◌<◌, ◌≤◌, List, [], ◌∷◌, ◌++◌, length, map, take, get_or, set, refl, sym, ap, ◌∙◌, subst, arith, length-set}
use Rattle.std.specs.Prelude.{flat_map, sum_by, Result, Ok, Err, OnOk}
use Rattle.std.specs.List.{All}
use Rattle.std.proofs.Math.ListN.{get_or-map as at_map}
use Rattle.std.proofs.Math.Seq.{take-length}
use Rattle.std.proofs.lemmas.List.{length-map, map-append, map-set, get_or-map, get_or-set_same, get_or-set_other, take_more}
use Rattle.std.proofs.lemmas.Simd.{map-map}
use Rattle.std.proofs.lemmas.List.Sums.{sum_by-append, sum_by-cons, sum_by_push, sum_by-take-le}
use mathlib.Core.Logic.{dite}
use native.Mathlib.Decide.{dec_le}
use Rattle.steal_crew.specs.Numbers.{AreSameNumbers, IsPart, numbers_below}
use Rattle.steal_crew.specs.Rights.{Right, right_of, dealt_to}
use Rattle.steal_crew.specs.Hands.{Standing, standing_of, lent_to, count_of, dealt_of, own_view, rights_of, rights_at}
use Rattle.steal_crew.specs.Dealing.{IsUndrawn, AreBeingDealt, IsLending, less_one, with_right, lent, right_at, others_from}
use Rattle.steal_crew.specs.declared.hand.Hand.{Hand}
use Rattle.steal_crew.proofs.NumberLaws.{length-below, sum_by-flat_map}
use Rattle.steal_crew.proofs.HandLemmas.{dealt_of_standings}
use Rattle.steal_crew.proofs.LendLaws.{same_length, has_parts, others-weight, others-length, others-at, at-below, not_yet, lent-count, lent-dealt, lent-rights_list, lent-being_dealt}

sum_by-map : {X Y : Type 0} (g : Y → ℕ) (f : X → Y) (xs : List X) → sum_by g (map f xs) ≡ sum_by (λ x. g (f x)) xs
sum_by-map g f [] = refl
sum_by-map g f (x ∷ xs) = let a = sum_by-cons g (f x) (map f xs) in let b = sum_by-cons (λ y. g (f y)) x xs in let r = sum_by-map g f xs in omega arith

of_standings : {Y : Type 0} (f : Standing → Y) (hs : List Hand) → map (λ (h : Hand). f (standing_of h)) hs ≡ map f (map standing_of hs)
of_standings f hs = sym (map-map f standing_of hs)

module _ (before now : List Hand) (robber passed o : ℕ) (inv : IsLending robber passed before now) (robber_in : robber < length before) (few : passed + 1 < length before)
    (ahead : robber + (passed + 1) < length before → o ≡ robber + (passed + 1)) (around : length before ≤ robber + (passed + 1) → o + length before ≡ robber + (passed + 1)) where
  long : length now ≡ length before
  long = same_length count_of now before inv.count

  pub lend_of : o < length now
  lend_of = let l = long in dite (dec_le (length before) (robber + (passed + 1)))
      (λ (le : length before ≤ robber + (passed + 1)). let a = around le in omega arith)
      (λ (no : ¬ (length before ≤ robber + (passed + 1))). let a = ahead (omega arith) in omega arith)

  pub lend_apart : o ≢ robber
  lend_apart e = dite (dec_le (length before) (robber + (passed + 1)))
      (λ (le : length before ≤ robber + (passed + 1)). let a = around le in absurd (omega arith))
      (λ (no : ¬ (length before ≤ robber + (passed + 1))). let a = ahead (omega arith) in absurd (omega arith))

  robber_now : robber < length now
  robber_now = let l = long in omega arith

  long_standings : length (map standing_of now) ≡ length before
  long_standings = let l = long in let m = length-map now standing_of in omega arith

  pub lend_parts : length before ≤ 64 → (d : Hand) → 1 < (own_view (get_or now o d)).parts
  lend_parts small d = subst (λ (s : Standing). 1 < s.parts) (at_map standing_of now o d)
      (has_parts (map standing_of now) o (standing_of d) inv.dealing (let l = long_standings in omega arith) (let l = long_standings in let m = long in let p = lend_of in omega arith))

  -- the next list that the hand gets a right to
  next_list : (d : Hand) → get_or (others_from robber (map dealt_of now)) passed [] ≡ dealt_of (get_or now o d)
  next_list d =
      let l = long in let m = length-map now dealt_of in let p = lend_of in
      others-at (map dealt_of now) robber passed o [] (omega arith) (omega arith) (λ h. ahead (omega arith)) (λ h. let a = around (omega arith) in omega arith)
      ∙ get_or-map dealt_of now o d [] p

  lists_now : map (λ (r : Right). r.dealt) (rights_at robber now) ≡ take passed (others_from robber (map dealt_of now))
  lists_now = inv.lists ∙ ap (λ (l : List (List ℕ)). take passed (others_from robber l)) (sym inv.dealt)

  weight_rights : (w : ℕ → ℕ) (d : Hand) → sum_by w (flat_map dealt_to (get_or now robber d).others.items) ≡ sum_by (sum_by w) (take passed (others_from robber (map dealt_of now)))
  weight_rights w d =
      let hand : Hand = get_or now robber d in
      let e : map (λ (r : Right). r.dealt) (rights_of hand) ≡ take passed (others_from robber (map dealt_of now)) = ap (map (λ (r : Right). r.dealt)) (sym (get_or-map rights_of now robber d [] robber_now)) ∙ lists_now in
      sum_by-flat_map w dealt_to hand.others.items
      ∙ sym (sum_by-map (λ (r : Right). sum_by w r.dealt) right_of hand.others.items)
      ∙ sym (sum_by-map (sum_by w) (λ (r : Right). r.dealt) (rights_of hand))
      ∙ ap (sum_by (sum_by w)) e

  weight_all : (w : ℕ → ℕ) (d : Hand) → sum_by (sum_by w) (map dealt_of now) ≡ sum_by w (numbers_below (count_of (get_or now robber d)))
  weight_all w d =
      let same : AreSameNumbers (flat_map (λ (t : Standing). t.dealt) (map standing_of now)) (numbers_below (get_or (map standing_of now) robber (standing_of d)).count) = inv.dealing.dealt robber (standing_of d) (let l = long_standings in omega arith) in
      sum_by-map (sum_by w) dealt_of now ∙ sym (sum_by-flat_map w dealt_of now) ∙ ap (sum_by w) (sym (dealt_of_standings now)) ∙ same.weight w
      ∙ ap (λ (s : Standing). sum_by w (numbers_below s.count)) (at_map standing_of now robber d)

  pub lend_part : (d : Hand) → IsPart (dealt_of (get_or now robber d) ++ (flat_map dealt_to (get_or now robber d).others.items ++ dealt_of (get_or now o d))) (numbers_below (count_of (get_or now robber d)))
  lend_part d = record {
    weight = λ w.
        let hand : Hand = get_or now robber d in
        let lists : List (List ℕ) = map dealt_of now in
        let os : List (List ℕ) = others_from robber lists in
        let l = long in let m = length-map now dealt_of in
        let a = sum_by-append w (dealt_of hand) (flat_map dealt_to hand.others.items ++ dealt_of (get_or now o d)) in
        let b = sum_by-append w (flat_map dealt_to hand.others.items) (dealt_of (get_or now o d)) in
        let c = weight_rights w d in
        let e = weight_all w d in
        let ol = others-length lists robber (omega arith) in
        let f : sum_by (sum_by w) (take (passed + 1) os) ≡ sum_by (sum_by w) (take passed os) + sum_by w (dealt_of (get_or now o d)) =
        ap (sum_by (sum_by w)) (take_more os passed [] (omega arith)) ∙ sum_by_push (sum_by w) (take passed os) (get_or os passed []) ∙ ap (λ (xs : List ℕ). sum_by (sum_by w) (take passed os) + sum_by w xs) (next_list d) in
        let g = sum_by-take-le (sum_by w) os (passed + 1) in
        let h = others-weight (sum_by w) lists robber [] (omega arith) in
        let i : sum_by w (get_or lists robber []) ≡ sum_by w (dealt_of hand) = ap (sum_by w) (get_or-map dealt_of now robber d [] robber_now) in
        omega arith;
  }

  next_place : get_or (others_from robber (numbers_below (length before))) passed 0 ≡ o
  next_place =
      let n = length-below (length before) in let l = long in let p = lend_of in
      others-at (numbers_below (length before)) robber passed o 0 (omega arith) (omega arith) (λ h. ahead (omega arith)) (λ h. let a = around (omega arith) in omega arith)
      ∙ at-below (length before) o 0 (omega arith)

  rights_here : (d : Standing) → rights_at robber now ≡ (get_or (map standing_of now) robber d).rights
  rights_here d = ap (λ (l : List (List Right)). get_or l robber []) (of_standings (λ (s : Standing). s.rights) now) ∙ get_or-map (λ (s : Standing). s.rights) (map standing_of now) robber d [] (let l = long_standings in omega arith)

  none_yet : (d : Standing) → lent_to o (get_or (map standing_of now) robber d) ≡ 0
  none_yet d = not_yet (length before) robber passed o (get_or (map standing_of now) robber d).rights robber_in few next_place (ap (map (λ (r : Right). r.of)) (sym (rights_here d)) ∙ inv.places)

  module _ (small : length before ≤ 64) (after : List Hand) (d : Hand) (undrawn : All IsUndrawn after) (is : map standing_of after ≡ lent (standing_of d) (map standing_of now) robber o) where
    ro : robber < length (map standing_of now)
    ro = let l = long_standings in omega arith

    oo : o < length (map standing_of now)
    oo = let l = long_standings in let m = long in let p = lend_of in omega arith

    count_after : map count_of after ≡ map count_of now
    count_after = of_standings (λ (s : Standing). s.count) after ∙ ap (map (λ (s : Standing). s.count)) is ∙ lent-count (standing_of d) (map standing_of now) robber o ro oo ∙ sym (of_standings (λ (s : Standing). s.count) now)

    dealt_after : map dealt_of after ≡ map dealt_of now
    dealt_after = of_standings (λ (s : Standing). s.dealt) after ∙ ap (map (λ (s : Standing). s.dealt)) is ∙ lent-dealt (standing_of d) (map standing_of now) robber o ro oo ∙ sym (of_standings (λ (s : Standing). s.dealt) now)

    rights_after : map rights_of after ≡ set (map rights_of now) robber (rights_at robber now ++ right_at o (get_or (map standing_of now) o (standing_of d)) ∷ [])
    rights_after = of_standings (λ (s : Standing). s.rights) after ∙ ap (map (λ (s : Standing). s.rights)) is ∙ lent-rights_list (standing_of d) (map standing_of now) robber o ro oo
        ∙ ap (λ (l : List (List Right)). set l robber (get_or l robber [] ++ right_at o (get_or (map standing_of now) o (standing_of d)) ∷ [])) (sym (of_standings (λ (s : Standing). s.rights) now))

    here_after : rights_at robber after ≡ rights_at robber now ++ right_at o (get_or (map standing_of now) o (standing_of d)) ∷ []
    here_after = ap (λ (l : List (List Right)). get_or l robber []) rights_after ∙ get_or-set_same (map rights_of now) robber (rights_at robber now ++ right_at o (get_or (map standing_of now) o (standing_of d)) ∷ []) [] (let l = length-map now rights_of in let m = robber_now in omega arith)

    pub lending : IsLending robber (passed + 1) before after
    lending = record {
      undrawn = undrawn;
      dealing = subst AreBeingDealt (sym is) (lent-being_dealt (standing_of d) (map standing_of now) robber o ro oo (none_yet (standing_of d)) (let p = has_parts (map standing_of now) o (standing_of d) inv.dealing (let l = long_standings in omega arith) oo in omega arith) inv.dealing);
      count = count_after ∙ inv.count;
      dealt = dealt_after ∙ inv.dealt;
      others = λ i ne. ap (λ (l : List (List Right)). get_or l i []) rights_after ∙ get_or-set_other (map rights_of now) robber i (rights_at robber now ++ right_at o (get_or (map standing_of now) o (standing_of d)) ∷ []) [] ne ∙ inv.others i ne;
      places =
          let os : List ℕ = others_from robber (numbers_below (length before)) in
          let n = length-below (length before) in let ol = others-length (numbers_below (length before)) robber (omega arith) in
          ap (map (λ (r : Right). r.of)) here_after ∙ map-append (λ (r : Right). r.of) (rights_at robber now) (right_at o (get_or (map standing_of now) o (standing_of d)) ∷ [])
          ∙ ap (λ (l : List ℕ). l ++ o ∷ []) inv.places ∙ ap (λ (x : ℕ). take passed os ++ x ∷ []) (sym next_place) ∙ sym (take_more os passed 0 (omega arith));
      lists =
          let os : List (List ℕ) = others_from robber (map dealt_of before) in
          let n = length-map before dealt_of in let ol = others-length (map dealt_of before) robber (omega arith) in
          let next : get_or os passed [] ≡ (get_or (map standing_of now) o (standing_of d)).dealt = ap (λ (l : List (List ℕ)). get_or (others_from robber l) passed []) (sym inv.dealt) ∙ next_list d ∙ ap (λ (s : Standing). s.dealt) (sym (at_map standing_of now o d)) in
          ap (map (λ (r : Right). r.dealt)) here_after ∙ map-append (λ (r : Right). r.dealt) (rights_at robber now) (right_at o (get_or (map standing_of now) o (standing_of d)) ∷ [])
          ∙ ap (λ (l : List (List ℕ)). l ++ (get_or (map standing_of now) o (standing_of d)).dealt ∷ []) inv.lists ∙ ap (λ (x : List ℕ). take passed os ++ x ∷ []) (sym next) ∙ sym (take_more os passed [] (omega arith));
    }

-- no right yet
pub lending_none : (robber : ℕ) (hands : List Hand) → rights_at robber hands ≡ [] → All IsUndrawn hands → AreBeingDealt (map standing_of hands) → IsLending robber 0 hands hands
lending_none robber hands none undrawn dealing = record {
  undrawn = undrawn;
  dealing = dealing;
  count = refl;
  dealt = refl;
  others = λ i ne. refl;
  places = ap (map (λ (r : Right). r.of)) none;
  lists = ap (map (λ (r : Right). r.dealt)) none;
}

-- a right for each other hand
pub lent_all : (before : List Hand) (robber passed : ℕ) (now : List Hand) → IsLending robber passed before now → robber < length before → passed + 1 ≡ length before
    → map (λ (r : Right). r.of) (rights_at robber now) ≡ others_from robber (numbers_below (length before))
lent_all before robber passed now lending lt all =
    let os : List ℕ = others_from robber (numbers_below (length before)) in
    let n = length-below (length before) in
    let l = others-length (numbers_below (length before)) robber (omega arith) in
    let e : passed ≡ length os = omega arith in
    lending.places ∙ ap (λ (i : ℕ). take i os) e ∙ take-length os

-- a hand has lent, and another has got the right
pub lent_hands : (hands : List Hand) (of robber : ℕ) (d : Standing) (giver given taker took : Hand) (right : Right) → of < length hands → robber < length hands
    → giver ≡ get_or hands of giver → standing_of given ≡ less_one (standing_of giver) → right ≡ right_at of (standing_of giver)
    → taker ≡ get_or (set hands of given) robber taker → standing_of took ≡ with_right (standing_of taker) right
    → map standing_of (set (set hands of given) robber took) ≡ lent d (map standing_of hands) robber of
lent_hands hands of robber d giver given taker took right of_in robber_in is_giver less is_right is_taker more =
    let ss : List Standing = map standing_of hands in
    let g : standing_of giver ≡ get_or ss of d = ap standing_of is_giver ∙ sym (get_or-map standing_of hands of giver d of_in) in
    let m : map standing_of (set hands of given) ≡ set ss of (less_one (get_or ss of d)) = map-set standing_of hands of given ∙ ap (set ss of) (less ∙ ap less_one g) in
    let t : standing_of taker ≡ get_or (set ss of (less_one (get_or ss of d))) robber d =
    ap standing_of is_taker ∙ sym (get_or-map standing_of (set hands of given) robber taker d (let l = length-set hands of given in omega arith)) ∙ ap (λ (l : List Standing). get_or l robber d) m in
    let w : standing_of took ≡ with_right (get_or (set ss of (less_one (get_or ss of d))) robber d) (right_at of (get_or ss of d)) =
    more ∙ ap (λ (s : Standing). with_right s right) t ∙ ap (with_right (get_or (set ss of (less_one (get_or ss of d))) robber d)) (is_right ∙ ap (right_at of) g) in
    map-set standing_of (set hands of given) robber took ∙ ap (λ (l : List Standing). set l robber (standing_of took)) m ∙ ap (set (set ss of (less_one (get_or ss of d))) robber) w

pub on_ok : {A B : Type 0} {P Q : Type 0} (r : Result A B) → OnOk r P → (P → Q) → OnOk r Q
on_ok (Ok a) p f = f p
on_ok (Err b) p f = tt
