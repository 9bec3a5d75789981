-- What stays as hands draw.
use Rattle.std.proofs.Common.{ℕ, zero, suc, ◌≡◌, ◌+◌, ◌<◌, List, [], ◌∷◌, length, map, refl, sym, ap, ◌∙◌, subst, arith}
use Rattle.std.proofs.lemmas.List.{length-map}
use Rattle.std.proofs.lemmas.Simd.{map-map}
use Rattle.std.specs.Prelude.{flat_map, sum_by, slice_index_or}
use Rattle.std.specs.List.{All}
use Rattle.std.proofs.lemmas.List.Sums.{sum_by-append}
use Rattle.std.proofs.lemmas.List.Folds.{flat_map-map}
use Rattle.std.proofs.lemmas.List.Elements.{All-map}
use Rattle.std.proofs.Math.ListN.{get_or-map}
use Rattle.steal_crew.specs.Hands.{Standing, standing_of, IsSameHand, AreHandsOfOneDeal, AreWhole, count_of, dealt_of, taken_of, drawn_of, all_drawn}
use Rattle.steal_crew.specs.declared.hand.Hand.{Hand}

pub same_hand_trans : (one two three : Hand) → IsSameHand one two → IsSameHand two three → IsSameHand one three
same_hand_trans one two three a b = record {
  standing = b.standing ∙ a.standing;
  drawn = record {
    weight = λ w.
        let x = a.drawn.weight w in let y = b.drawn.weight w in
        let p = sum_by-append w (drawn_of two) (taken_of one) in let q = sum_by-append w (drawn_of one) (taken_of two) in
        let r = sum_by-append w (drawn_of three) (taken_of two) in let s = sum_by-append w (drawn_of two) (taken_of three) in
        let t = sum_by-append w (drawn_of three) (taken_of one) in let u = sum_by-append w (drawn_of one) (taken_of three) in omega arith;
  };
}

abbrev pub AreSameHands : List Hand → List Hand → Type 0
AreSameHands before after = (i : ℕ) (d : Hand) → i < length before → IsSameHand (slice_index_or before i d) (slice_index_or after i d)

standings_same : (before after : List Hand) → length after ≡ length before → AreSameHands before after → map standing_of after ≡ map standing_of before
standings_same [] [] e h = refl
standings_same [] (y ∷ after) e h = absurd (omega arith)
standings_same (x ∷ before) [] e h = absurd (omega arith)
standings_same (x ∷ before) (y ∷ after) e h =
    let here : IsSameHand x y = h zero x (omega arith) in
    let r = standings_same before after (omega arith) (λ i d lt. h (suc i) d (omega arith)) in
    let a : standing_of y ∷ map standing_of after ≡ standing_of x ∷ map standing_of after = ap (λ (s : Standing). s ∷ map standing_of after) here.standing in
    a ∙ ap (λ (l : List Standing). standing_of x ∷ l) r

drawn_same : (w : ℕ → ℕ) (before after : List Hand) → length after ≡ length before → AreSameHands before after
    → sum_by w (all_drawn after) + sum_by w (flat_map taken_of before) ≡ sum_by w (all_drawn before) + sum_by w (flat_map taken_of after)
drawn_same w [] [] e h = refl
drawn_same w [] (y ∷ after) e h = absurd (omega arith)
drawn_same w (x ∷ before) [] e h = absurd (omega arith)
drawn_same w (x ∷ before) (y ∷ after) e h =
    let here : IsSameHand x y = h zero x (omega arith) in
    let r = drawn_same w before after (omega arith) (λ i d lt. h (suc i) d (omega arith)) in
    let a = here.drawn.weight w in
    let p = sum_by-append w (drawn_of y) (taken_of x) in let q = sum_by-append w (drawn_of x) (taken_of y) in
    let s = sum_by-append w (drawn_of y) (all_drawn after) in let t = sum_by-append w (drawn_of x) (all_drawn before) in
    let u = sum_by-append w (taken_of y) (flat_map taken_of after) in let v = sum_by-append w (taken_of x) (flat_map taken_of before) in omega arith

pub dealt_of_standings : (hands : List Hand) → flat_map (λ (s : Standing). s.dealt) (map standing_of hands) ≡ flat_map dealt_of hands
dealt_of_standings hands = flat_map-map (λ (s : Standing). s.dealt) standing_of hands

pub all_of_map : {X Y : Type 0} (P : Y → Type 0) (f : X → Y) (xs : List X) → All P (map f xs) → All (λ x. P (f x)) xs
all_of_map P f xs all = λ k d lt. subst P (get_or-map f xs k d) (all k (f d) (let e = length-map xs f in omega arith))

pub counts_same : (n : ℕ) (before after : List Hand) → map count_of after ≡ map count_of before → All (λ (h : Hand). count_of h ≡ n) before → All (λ (h : Hand). count_of h ≡ n) after
counts_same n before after e all = all_of_map (λ (c : ℕ). c ≡ n) count_of after (subst (All (λ (c : ℕ). c ≡ n)) (sym e) (All-map (λ (c : ℕ). c ≡ n) count_of before all))

pub map_standing : {Y : Type 0} (f : Standing → Y) (before after : List Hand) → map standing_of after ≡ map standing_of before → map (λ (h : Hand). f (standing_of h)) after ≡ map (λ (h : Hand). f (standing_of h)) before
map_standing f before after e = sym (map-map f standing_of after) ∙ ap (map f) e ∙ map-map f standing_of before

pub one_deal : (n : ℕ) (before after : List Hand) → length after ≡ length before → AreSameHands before after → AreHandsOfOneDeal n before → AreHandsOfOneDeal n after
one_deal n before after e h deal =
    let s = standings_same before after e h in
    record {
      some = let a = deal.some in omega arith;
      count = counts_same n before after (map_standing (λ (t : Standing). t.count) before after s) deal.count;
      whole = subst AreWhole (sym s) deal.whole;
      dealt = record { weight = λ w. ap (sum_by w) (sym (dealt_of_standings after) ∙ ap (flat_map (λ (t : Standing). t.dealt)) s ∙ dealt_of_standings before) ∙ deal.dealt.weight w };
      held = record { weight = λ w. let a = deal.held.weight w in let b = drawn_same w before after e h in omega arith };
    }
