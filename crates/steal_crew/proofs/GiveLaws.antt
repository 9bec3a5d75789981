-- What stays as passes are given back.
use Rattle.std.proofs.Common.{ℕ, zero, suc, ◌≡◌, ◌≢◌, ◌+◌, ◌<◌, List, [], ◌∷◌, ◌++◌, length, map, get_or, set, Bool, cond, refl, sym, ap, ◌∙◌, subst, arith, eq-eqb, ne_eqb, length-append}
use Rattle.std.specs.Prelude.{◌==◌, flat_map, sum_by}
use Rattle.std.specs.List.{All}
use Rattle.std.proofs.Math.ListN.{get_or-map as at_map}
use Rattle.std.proofs.lemmas.List.{length-map, map-append, map-set, get_or-map, get_or-set_same, get_or-set_other, get_or_append_left}
use Rattle.std.proofs.lemmas.Grind.{get_or-set_at, flat_map-append}
use Rattle.std.proofs.Math.Seq.{map-set_same}
use Rattle.std.proofs.lemmas.List.Sums.{sum_by-append, sum_by_push, sum_by-set}
use mathlib.Core.Logic.{dite}
use native.Mathlib.Decide.{ℕ_discrete}
use Rattle.steal_crew.specs.Rights.{Right, right_of, taken_by}
use Rattle.steal_crew.specs.Hands.{Standing, standing_of, lent_to, parts_of, IsRightAt, AreWhole, count_of, dealt_of, taken_of, drawn_of, is_done, own_view, rights_of, rights_at}
use Rattle.steal_crew.specs.Settling.{AreKept}
use Rattle.steal_crew.specs.declared.deque.View.{View}
use Rattle.steal_crew.specs.declared.hand.Hand.{Hand}
use Rattle.steal_crew.specs.declared.victim.Victim.{Victim}
use Rattle.steal_crew.proofs.NumberLaws.{sum_by-flat_map}
use Rattle.steal_crew.proofs.LendLaws.{same_length, same_at, right_stays}

abbrev pub with_rights : Standing → List Right → Standing
with_rights s rs = record s { rights = rs }

abbrev pub with_parts : Standing → ℕ → Standing
with_parts s p = record s { parts = s.parts + p }

prefix_all : {X : Type 0} (P : X → Type 0) (xs ys : List X) → All P (xs ++ ys) → All P xs
prefix_all P xs ys all = λ k d lt. subst P (get_or_append_left xs ys d k lt) (all k d (let a = length-append xs ys in omega arith))

last_of : {X : Type 0} (P : X → Type 0) (xs : List X) (y : X) → All P (xs ++ y ∷ []) → P y
last_of P [] y all = all zero y (omega arith)
last_of P (x ∷ xs) y all = last_of P xs y (λ k d lt. all (suc k) d (omega arith))

-- a right is taken from one, and its parts go to another
module _ (ss : List Standing) (place of : ℕ) (d : Standing) (init : List Right) (r : Right) (place_in : place < length ss) (of_in : of < length ss) (is : r.of ≡ of) (had : (get_or ss place d).rights ≡ init ++ r ∷ []) where
  abbrev one : List Standing
  one = set ss place (with_rights (get_or ss place d) init)

  abbrev pub two : List Standing
  two = set (set ss place (with_rights (get_or ss place d) init)) of (with_parts (get_or (set ss place (with_rights (get_or ss place d) init)) of d) r.parts)

  deques : map (λ (s : Standing). s.deque) two ≡ map (λ (s : Standing). s.deque) ss
  deques = map-set_same (λ (s : Standing). s.deque) (set ss place (with_rights (get_or ss place d) init)) of (with_parts (get_or (set ss place (with_rights (get_or ss place d) init)) of d) r.parts) d refl ∙ map-set_same (λ (s : Standing). s.deque) ss place (with_rights (get_or ss place d) init) d refl

  long_one : length one ≡ length ss
  long_one = same_length (λ (s : Standing). s.deque) one ss (map-set_same (λ (s : Standing). s.deque) ss place (with_rights (get_or ss place d) init) d refl)

  long_two : length two ≡ length ss
  long_two = same_length (λ (s : Standing). s.deque) two ss deques

  rights_two : map (λ (s : Standing). s.rights) two ≡ map (λ (s : Standing). s.rights) one
  rights_two = map-set_same (λ (s : Standing). s.rights) one of (with_parts (get_or one of d) r.parts) d refl

  parts_two : map (λ (s : Standing). s.parts) two ≡ set (map (λ (s : Standing). s.parts) ss) of ((get_or one of d).parts + r.parts)
  parts_two = map-set (λ (s : Standing). s.parts) one of (with_parts (get_or one of d) r.parts) ∙ ap (λ (l : List ℕ). set l of ((get_or one of d).parts + r.parts)) parts_one
    where
      parts_one : map (λ (s : Standing). s.parts) one ≡ map (λ (s : Standing). s.parts) ss
      parts_one = map-set_same (λ (s : Standing). s.parts) ss place (with_rights (get_or ss place d) init) d refl

  giver_parts : (get_or one of d).parts ≡ get_or (map (λ (s : Standing). s.parts) ss) of 0
  giver_parts = same_at (λ (s : Standing). s.parts) one ss of d (map-set_same (λ (s : Standing). s.parts) ss place (with_rights (get_or ss place d) init) d refl) (let l = long_one in omega arith) ∙ sym (get_or-map (λ (s : Standing). s.parts) ss of d 0 of_in)

  sum_two : (q : ℕ) → sum_by (lent_to q) two + cond (of == q) r.parts 0 ≡ sum_by (lent_to q) ss
  sum_two q =
      let l = long_one in
      let a = sum_by-set (lent_to q) ss place (with_rights (get_or ss place d) init) d place_in in
      let b = sum_by-set (lent_to q) one of (with_parts (get_or one of d) r.parts) d (omega arith) in
      let c : lent_to q (get_or ss place d) ≡ sum_by (λ (x : Right). cond (x.of == q) x.parts 0) init + cond (of == q) r.parts 0 =
      ap (sum_by (λ (x : Right). cond (x.of == q) x.parts 0)) had ∙ sum_by_push (λ (x : Right). cond (x.of == q) x.parts 0) init r ∙ ap (λ (j : ℕ). sum_by (λ (x : Right). cond (x.of == q) x.parts 0) init + cond (j == q) r.parts 0) is in
      let e : lent_to q (with_parts (get_or one of d) r.parts) ≡ lent_to q (get_or one of d) = refl in
      let f : lent_to q (with_rights (get_or ss place d) init) ≡ sum_by (λ (x : Right). cond (x.of == q) x.parts 0) init = refl in
      omega arith

  stay_whole_parts : (q : ℕ) → parts_of q ss ≡ 1024 → parts_of q two ≡ 1024
  stay_whole_parts q was =
      let ps : List ℕ = map (λ (s : Standing). s.parts) ss in
      let new : ℕ = (get_or one of d).parts + r.parts in
      let s = sum_two q in
      let g = giver_parts in
      let m : get_or (map (λ (s : Standing). s.parts) two) q 0 ≡ get_or (set ps of new) q 0 = ap (λ (l : List ℕ). get_or l q 0) parts_two in
      let long = length-map ss (λ (s : Standing). s.parts) in
      dite (ℕ_discrete q of)
      (λ (e : q ≡ of).
      let a : get_or (set ps of new) q 0 ≡ new = get_or-set_at ps of q new 0 e (omega arith) in
      let b : get_or ps q 0 ≡ get_or ps of 0 = ap (λ (i : ℕ). get_or ps i 0) e in
      let c : cond (of == q) r.parts 0 ≡ r.parts = ap (λ (t : Bool). cond t r.parts 0) (eq-eqb of q (sym e)) in omega arith)
      (λ (ne : q ≢ of).
      let a : get_or (set ps of new) q 0 ≡ get_or ps q 0 = get_or-set_other ps of q new 0 ne in
      let c : cond (of == q) r.parts 0 ≡ 0 = ap (λ (t : Bool). cond t r.parts 0) (ne_eqb of q (λ e. ne (sym e))) in omega arith)

  rights_stay : All (λ (s : Standing). All (IsRightAt ss) s.rights) ss → All (λ (s : Standing). All (IsRightAt two) s.rights) two
  rights_stay all = λ k e lt.
      let l = long_two in let m = long_one in
      let here : (get_or two k e).rights ≡ (get_or one k e).rights = same_at (λ (s : Standing). s.rights) two one k e rights_two lt in
      dite (ℕ_discrete k place)
      (λ (at : k ≡ place).
      let there : (get_or one k e).rights ≡ init = ap (λ (s : Standing). s.rights) (get_or-set_at ss place k (with_rights (get_or ss place d) init) e at place_in) in
      subst (All (IsRightAt two)) (sym (here ∙ there)) (moved init (prefix_all (IsRightAt ss) init (r ∷ []) (subst (All (IsRightAt ss)) had (all place d place_in)))))
      (λ (ne : k ≢ place).
      let there : (get_or one k e).rights ≡ (get_or ss k e).rights = ap (λ (s : Standing). s.rights) (get_or-set_other ss place k (with_rights (get_or ss place d) init) e ne) in
      subst (All (IsRightAt two)) (sym (here ∙ there)) (moved (get_or ss k e).rights (all k e (omega arith))))
    where
      moved : (rs : List Right) → All (IsRightAt ss) rs → All (IsRightAt two) rs
      moved rs each = λ j x lt. right_stays ss two (get_or rs j x) deques (each j x lt)

  pub give_whole : AreWhole ss → AreWhole two
  give_whole w = record { rights = rights_stay w.rights; parts = λ q lt. stay_whole_parts q (w.parts q (let l = long_two in omega arith)) }

-- which right the last one is
pub last_right : (ss : List Standing) (place : ℕ) (d : Standing) (init : List Right) (r : Right) → place < length ss → (get_or ss place d).rights ≡ init ++ r ∷ [] → AreWhole ss → IsRightAt ss r
last_right ss place d init r lt had w = last_of (IsRightAt ss) init r (subst (All (IsRightAt ss)) had (w.rights place d lt))

-- the same over hands
pub kept_refl : (hands : List Hand) → AreKept hands hands
kept_refl hands = record { count = refl; dealt = refl; drawn = refl; done = refl; taken = record { weight = λ w. refl } }

pub kept_trans : (one two three : List Hand) → AreKept one two → AreKept two three → AreKept one three
kept_trans x y z a b = record { count = b.count ∙ a.count; dealt = b.dealt ∙ a.dealt; drawn = b.drawn ∙ a.drawn; done = b.done ∙ a.done; taken = record { weight = λ w. b.taken.weight w ∙ a.taken.weight w } }

-- one hand in the place of another that was dealt and gave the same
pub map_in_place : {Y : Type 0} (f : Hand → Y) (hands : List Hand) (place : ℕ) (h d : Hand) → f h ≡ f (get_or hands place d) → map f (set hands place h) ≡ map f hands
map_in_place f hands place h d e = map-set_same f hands place h d e

pub taken_in_place : (w : ℕ → ℕ) (hands : List Hand) (place : ℕ) (h d : Hand) → place < length hands → sum_by w (flat_map taken_of (set hands place h)) + sum_by w (taken_of (get_or hands place d)) ≡ sum_by w (flat_map taken_of hands) + sum_by w (taken_of h)
taken_in_place w hands place h d lt = let a = sum_by-set (λ (x : Hand). sum_by w (taken_of x)) hands place h d lt in let b = sum_by-flat_map w taken_of hands in let c = sum_by-flat_map w taken_of (set hands place h) in omega arith

-- the last pass of one hand is given back to the hand whose deque it is
module _ (hands : List Hand) (place of : ℕ) (d h1 h2 : Hand) (v : Victim) (place_in : place < length hands) (whole : AreWhole (map standing_of hands)) (is : v.of ≡ of)
    (others1 : (get_or hands place d).others.items ≡ h1.others.items ++ v ∷ [])
    (standing1 : standing_of h1 ≡ with_rights (standing_of (get_or hands place d)) (map right_of h1.others.items))
    (own1 : own_view h1 ≡ own_view (get_or hands place d))
    (drawn1 : drawn_of h1 ≡ drawn_of (get_or hands place d))
    (done1 : is_done h1 ≡ is_done (get_or hands place d)) where
  had : (get_or (map standing_of hands) place (standing_of d)).rights ≡ map right_of h1.others.items ++ right_of v ∷ []
  had = ap (λ (s : Standing). s.rights) (at_map standing_of hands place d) ∙ ap (map right_of) others1 ∙ map-append right_of h1.others.items (v ∷ [])

  pub at_right : IsRightAt (map standing_of hands) (right_of v)
  at_right = last_right (map standing_of hands) place (standing_of d) (map right_of h1.others.items) (right_of v) (let l = length-map hands standing_of in omega arith) had whole

  pub right_in : of < length hands
  right_in = let l = length-map hands standing_of in let p = at_right.place in omega arith

  pub rest_long : length (set hands place h1) ≡ length hands
  rest_long = let a = length-map (set hands place h1) drawn_of in let b = length-map hands drawn_of in let c : length (map drawn_of (set hands place h1)) ≡ length (map drawn_of hands) = ap length (map_in_place drawn_of hands place h1 d drawn1) in omega arith

  pub deque_at : (right_of v).deque ≡ (standing_of (get_or (set hands place h1) of d)).deque
  deque_at = at_right.deque (standing_of d) ∙ ap (λ (i : ℕ). (get_or (map standing_of hands) i (standing_of d)).deque) is ∙ ap (λ (s : Standing). s.deque) (at_map standing_of hands of d)
      ∙ sym (same_at (λ (h : Hand). (standing_of h).deque) (set hands place h1) hands of d (map_in_place (λ (h : Hand). (standing_of h).deque) hands place h1 d (ap (λ (s : Standing). s.deque) standing1)) (let l = rest_long in let r = right_in in omega arith))

  module _ (standing2 : standing_of h2 ≡ with_parts (standing_of (get_or (set hands place h1) of d)) (right_of v).parts)
      (taken2 : (own_view h2).taken ≡ (own_view (get_or (set hands place h1) of d)).taken ++ taken_by v)
      (others2 : h2.others.items ≡ (get_or (set hands place h1) of d).others.items)
      (drawn2 : drawn_of h2 ≡ drawn_of (get_or (set hands place h1) of d))
      (done2 : is_done h2 ≡ is_done (get_or (set hands place h1) of d)) where
    map_rest : map standing_of (set hands place h1) ≡ set (map standing_of hands) place (with_rights (get_or (map standing_of hands) place (standing_of d)) (map right_of h1.others.items))
    map_rest = map-set standing_of hands place h1 ∙ ap (set (map standing_of hands) place) (standing1 ∙ ap (λ (s : Standing). with_rights s (map right_of h1.others.items)) (sym (at_map standing_of hands place d)))

    map_all : map standing_of (set (set hands place h1) of h2) ≡ two (map standing_of hands) place of (standing_of d) (map right_of h1.others.items) (right_of v) (let l = length-map hands standing_of in omega arith) (let l = length-map hands standing_of in let r = right_in in omega arith) is had
    map_all = map-set standing_of (set hands place h1) of h2
        ∙ ap (set (map standing_of (set hands place h1)) of) (standing2 ∙ ap (λ (s : Standing). with_parts s (right_of v).parts) (sym (at_map standing_of (set hands place h1) of d)))
        ∙ ap (λ (l : List Standing). set l of (with_parts (get_or l of (standing_of d)) (right_of v).parts)) map_rest

    pub given_whole : AreWhole (map standing_of (set (set hands place h1) of h2))
    given_whole = subst AreWhole (sym map_all) (give_whole (map standing_of hands) place of (standing_of d) (map right_of h1.others.items) (right_of v) (let l = length-map hands standing_of in omega arith) (let l = length-map hands standing_of in let r = right_in in omega arith) is had whole)

    given_map : {Y : Type 0} (f : Hand → Y) → f h1 ≡ f (get_or hands place d) → f h2 ≡ f (get_or (set hands place h1) of d) → map f (set (set hands place h1) of h2) ≡ map f hands
    given_map f a b = map_in_place f (set hands place h1) of h2 d b ∙ map_in_place f hands place h1 d a

    pub given_kept : AreKept hands (set (set hands place h1) of h2)
    given_kept = record {
      count = given_map count_of (ap (λ (s : Standing). s.count) standing1) (ap (λ (s : Standing). s.count) standing2);
      dealt = given_map dealt_of (ap (λ (s : Standing). s.dealt) standing1) (ap (λ (s : Standing). s.dealt) standing2);
      drawn = given_map drawn_of drawn1 drawn2;
      done = given_map is_done done1 done2;
      taken = record {
        weight = λ w.
            let g0 : Hand = get_or hands place d in
            let g1 : Hand = get_or (set hands place h1) of d in
            let l = rest_long in let r = right_in in
            let a = taken_in_place w hands place h1 d place_in in
            let b = taken_in_place w (set hands place h1) of h2 d (omega arith) in
            let c = sum_by-append w (own_view g0).taken (flat_map taken_by g0.others.items) in
            let e : sum_by w (flat_map taken_by g0.others.items) ≡ sum_by w (flat_map taken_by h1.others.items) + sum_by w (flat_map taken_by (v ∷ [])) = ap (λ (os : List Victim). sum_by w (flat_map taken_by os)) others1 ∙ ap (sum_by w) (flat_map-append taken_by h1.others.items (v ∷ [])) ∙ sum_by-append w (flat_map taken_by h1.others.items) (flat_map taken_by (v ∷ [])) in
            let f = sum_by-append w (taken_by v) [] in
            let g = sum_by-append w (own_view h1).taken (flat_map taken_by h1.others.items) in
            let h : sum_by w (own_view h1).taken ≡ sum_by w (own_view g0).taken = ap (λ (u : View). sum_by w u.taken) own1 in
            let i = sum_by-append w (own_view h2).taken (flat_map taken_by h2.others.items) in
            let j : sum_by w (own_view h2).taken ≡ sum_by w (own_view g1).taken + sum_by w (taken_by v) = ap (sum_by w) taken2 ∙ sum_by-append w (own_view g1).taken (taken_by v) in
            let k : sum_by w (flat_map taken_by h2.others.items) ≡ sum_by w (flat_map taken_by g1.others.items) = ap (λ (os : List Victim). sum_by w (flat_map taken_by os)) others2 in
            let m = sum_by-append w (own_view g1).taken (flat_map taken_by g1.others.items) in
            let z : sum_by w [] ≡ 0 = refl in
            omega arith;
      };
    }

    given_rights : map rights_of (set (set hands place h1) of h2) ≡ set (map rights_of hands) place (map right_of h1.others.items)
    given_rights = map_in_place rights_of (set hands place h1) of h2 d (ap (map right_of) others2) ∙ map-set rights_of hands place h1

    pub given_others : (i : ℕ) → i ≢ place → rights_at i (set (set hands place h1) of h2) ≡ rights_at i hands
    given_others i ne = ap (λ (l : List (List Right)). get_or l i []) given_rights ∙ get_or-set_other (map rights_of hands) place i (map right_of h1.others.items) [] ne

    pub given_fewer : length (rights_at place (set (set hands place h1) of h2)) < length (rights_at place hands)
    given_fewer =
        let l = length-map hands rights_of in
        let a : length (rights_at place (set (set hands place h1) of h2)) ≡ length (map right_of h1.others.items) = ap length (ap (λ (l : List (List Right)). get_or l place []) given_rights ∙ get_or-set_same (map rights_of hands) place (map right_of h1.others.items) [] (omega arith)) in
        let b : length (rights_at place hands) ≡ length (map right_of h1.others.items ++ right_of v ∷ []) = ap length (get_or-map rights_of hands place d [] place_in ∙ ap (map right_of) others1 ∙ map-append right_of h1.others.items (v ∷ [])) in
        let c = length-append (map right_of h1.others.items) (right_of v ∷ []) in omega arith
