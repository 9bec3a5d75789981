-- What stays as rights are given, over what stays of the hands as they draw.
use Rattle.std.proofs.Common.{ℕ, zero, suc, ◌≡◌, ◌≢◌, ◌+◌, ◌-◌, ◌<◌, ◌≤◌, List, [], ◌∷◌, ◌++◌, length, map, take, drop, get_or, set, Bool, true, false, cond, refl, sym, ap, ◌∙◌, subst, arith, eq-eqb, ne_eqb, length-append, length-drop}
use Rattle.std.specs.Prelude.{◌==◌, flat_map, sum_by}
use Rattle.std.specs.List.{All}
use Rattle.std.proofs.lemmas.List.{length-map, map-set, get_or-map, get_or-set_same, get_or-set_other, get_or-drop, get_or-take, get_or_append_left, get_or-append_right, take_more}
use Rattle.std.proofs.lemmas.Grind.{get_or-set_at}
use Rattle.std.proofs.Math.Seq.{map-set_same}
use Rattle.std.proofs.lemmas.List.Sums.{sum_by-append, sum_by-cons, sum_by_push, sum_by-take-le, sum_by-take-drop, sum_by-drop_more, sum_by-set}
use Rattle.std.proofs.lemmas.List.Folds.{flat_map-map}
use Rattle.std.proofs.lemmas.List.Elements.{All-append, All-set}
use mathlib.Core.Logic.{dite}
use native.Mathlib.Decide.{ℕ_discrete, dec_le}
use Rattle.tickets.specs.Counting.{times}
use Rattle.steal_crew.specs.Numbers.{AreSameNumbers, numbers_below}
use Rattle.steal_crew.specs.Rights.{Right}
use Rattle.steal_crew.specs.Hands.{Standing, lent_to, parts_of, IsRightAt}
use Rattle.steal_crew.specs.Dealing.{AreBeingDealt, less_one, with_right, right_at, lent, others_from}
use Rattle.steal_crew.proofs.NumberLaws.{times-below, length-below}

pub any_default : {X : Type 0} (xs : List X) (i : ℕ) (d e : X) → i < length xs → get_or xs i d ≡ get_or xs i e
any_default [] i d e h = absurd (omega arith)
any_default (x ∷ xs) zero d e h = refl
any_default (x ∷ xs) (suc i) d e h = any_default xs i d e (omega arith)

length_of_set : {X : Type 0} (xs : List X) (i : ℕ) (x : X) → length (set xs i x) ≡ length xs
length_of_set [] i x = refl
length_of_set (y ∷ xs) zero x = refl
length_of_set (y ∷ xs) (suc i) x = let r = length_of_set xs i x in omega arith

pub same_length : {X Y : Type 0} (f : X → Y) (xs ys : List X) → map f xs ≡ map f ys → length xs ≡ length ys
same_length f xs ys e = let a = length-map xs f in let b = length-map ys f in let c : length (map f xs) ≡ length (map f ys) = ap length e in omega arith

-- what a function tells of an element, where it tells the same of both lists
pub same_at : {X Y : Type 0} (f : X → Y) (xs ys : List X) (i : ℕ) (d : X) → map f xs ≡ map f ys → i < length xs → f (get_or xs i d) ≡ f (get_or ys i d)
same_at f xs ys i d e h = let l = same_length f xs ys e in
    sym (get_or-map f xs i d (f d) h) ∙ ap (λ (zs : List _). get_or zs i (f d)) e ∙ get_or-map f ys i d (f d) (omega arith)

-- all dealt lists
pub dealt_same : (ss ts : List Standing) → map (λ (s : Standing). s.dealt) ss ≡ map (λ (s : Standing). s.dealt) ts → flat_map (λ (s : Standing). s.dealt) ss ≡ flat_map (λ (s : Standing). s.dealt) ts
dealt_same ss ts e = sym (flat_map-map (λ (x : List ℕ). x) (λ (s : Standing). s.dealt) ss) ∙ ap (flat_map (λ (x : List ℕ). x)) e ∙ flat_map-map (λ (x : List ℕ). x) (λ (s : Standing). s.dealt) ts

pub right_stays : (ss ts : List Standing) (r : Right) → map (λ (s : Standing). s.deque) ts ≡ map (λ (s : Standing). s.deque) ss → IsRightAt ss r → IsRightAt ts r
right_stays ss ts r e h = let l = same_length (λ (s : Standing). s.deque) ts ss e in let p = h.place in record {
  place = omega arith;
  deque = λ d. h.deque d ∙ sym (same_at (λ (s : Standing). s.deque) ts ss r.of d e (omega arith));
}

module _ (d : Standing) (ss : List Standing) (robber of : ℕ) (robber_in : robber < length ss) (of_in : of < length ss) where
  abbrev giver : Standing
  giver = get_or ss of d

  abbrev given : List Standing
  given = set ss of (less_one giver)

  abbrev right : Right
  right = right_at of giver

  abbrev after : List Standing
  after = set given robber (with_right (get_or given robber d) right)

  length-given : length given ≡ length ss
  length-given = length_of_set ss of (less_one giver)

  pub length-lent : length (lent d ss robber of) ≡ length ss
  length-lent = length_of_set given robber (with_right (get_or given robber d) right) ∙ length-given

  pub lent-count : map (λ (s : Standing). s.count) (lent d ss robber of) ≡ map (λ (s : Standing). s.count) ss
  lent-count = map-set_same (λ (s : Standing). s.count) given robber (with_right (get_or given robber d) right) d refl ∙ map-set_same (λ (s : Standing). s.count) ss of (less_one giver) d refl

  pub lent-dealt : map (λ (s : Standing). s.dealt) (lent d ss robber of) ≡ map (λ (s : Standing). s.dealt) ss
  lent-dealt = map-set_same (λ (s : Standing). s.dealt) given robber (with_right (get_or given robber d) right) d refl ∙ map-set_same (λ (s : Standing). s.dealt) ss of (less_one giver) d refl

  lent-deque : map (λ (s : Standing). s.deque) (lent d ss robber of) ≡ map (λ (s : Standing). s.deque) ss
  lent-deque = map-set_same (λ (s : Standing). s.deque) given robber (with_right (get_or given robber d) right) d refl ∙ map-set_same (λ (s : Standing). s.deque) ss of (less_one giver) d refl

  given-rights : map (λ (s : Standing). s.rights) given ≡ map (λ (s : Standing). s.rights) ss
  given-rights = map-set_same (λ (s : Standing). s.rights) ss of (less_one giver) d refl

  pub lent-others : (i : ℕ) (e : Standing) → i ≢ robber → (get_or (lent d ss robber of) i e).rights ≡ (get_or ss i e).rights
  lent-others i e ne = dite (dec_le (suc i) (length ss))
      (λ (h : i < length ss). ap (λ (s : Standing). s.rights) (get_or-set_other given robber i (with_right (get_or given robber d) right) e ne) ∙ same_at (λ (s : Standing). s.rights) given ss i e given-rights (let l = length-given in omega arith))
      (λ (no : ¬ (i < length ss)). ap (λ (s : Standing). s.rights) (outside (lent d ss robber of) i e (let l = length-lent in omega arith) ∙ sym (outside ss i e (omega arith))))
    where
      outside : (xs : List Standing) (i : ℕ) (e : Standing) → length xs ≤ i → get_or xs i e ≡ e
      outside [] i e h = refl
      outside (x ∷ xs) zero e h = absurd (omega arith)
      outside (x ∷ xs) (suc i) e h = outside xs i e (omega arith)

  robber-rights : (get_or given robber d).rights ≡ (get_or ss robber d).rights
  robber-rights = same_at (λ (s : Standing). s.rights) given ss robber d given-rights (let l = length-given in omega arith)

  pub lent-robber : (e : Standing) → (get_or (lent d ss robber of) robber e).rights ≡ (get_or ss robber d).rights ++ right_at of (get_or ss of d) ∷ []
  lent-robber e = ap (λ (s : Standing). s.rights) (get_or-set_same given robber (with_right (get_or given robber d) right) e (let l = length-given in omega arith)) ∙ ap (λ (rs : List Right). rs ++ right ∷ []) robber-rights

  lent-rights : All (λ (s : Standing). All (IsRightAt ss) s.rights) ss → All (λ (s : Standing). All (IsRightAt (lent d ss robber of)) s.rights) (lent d ss robber of)
  lent-rights all = λ k e h. dite (ℕ_discrete k robber)
      (λ (is : k ≡ robber). subst (All (IsRightAt (lent d ss robber of))) (sym (ap (λ (i : ℕ). (get_or (lent d ss robber of) i e).rights) is ∙ lent-robber e))
      (All-append (IsRightAt (lent d ss robber of)) (get_or ss robber d).rights (right ∷ []) (moved (get_or ss robber d).rights (all robber d robber_in)) new))
      (λ (ne : k ≢ robber). subst (All (IsRightAt (lent d ss robber of))) (sym (lent-others k e ne)) (moved (get_or ss k e).rights (all k e (let l = length-lent in omega arith))))
    where
      moved : (rs : List Right) → All (IsRightAt ss) rs → All (IsRightAt (lent d ss robber of)) rs
      moved rs each = λ j r lt. right_stays ss (lent d ss robber of) (get_or rs j r) lent-deque (each j r lt)

      new : (k : ℕ) (r : Right) → k < length (right ∷ []) → IsRightAt (lent d ss robber of) (get_or (right ∷ []) k r)
      new zero r lt = record {
        place = let l = length-lent in omega arith;
        deque = λ e. ap (λ (s : Standing). s.deque) (any_default ss of d e of_in) ∙ sym (same_at (λ (s : Standing). s.deque) (lent d ss robber of) ss of e lent-deque (let l = length-lent in omega arith));
      }
      new (suc j) r lt = absurd (omega arith)

  lent_to-robber : (q : ℕ) → lent_to q (with_right (get_or given robber d) right) ≡ lent_to q (get_or ss robber d) + cond (of == q) 1 0
  lent_to-robber q = sum_by_push (λ (r : Right). cond (r.of == q) r.parts 0) (get_or given robber d).rights right ∙ ap (λ (rs : List Right). sum_by (λ (r : Right). cond (r.of == q) r.parts 0) rs + cond (of == q) 1 0) robber-rights

  lent-sum : (q : ℕ) → sum_by (lent_to q) (lent d ss robber of) ≡ sum_by (lent_to q) ss + cond (of == q) 1 0
  lent-sum q =
      let l = length-given in
      let a = sum_by-set (lent_to q) ss of (less_one giver) d of_in in
      let b = sum_by-set (lent_to q) given robber (with_right (get_or given robber d) right) d (omega arith) in
      let c = lent_to-robber q in
      let e : lent_to q (get_or given robber d) ≡ lent_to q (get_or ss robber d) = ap (sum_by (λ (r : Right). cond (r.of == q) r.parts 0)) robber-rights in
      let f : lent_to q (less_one giver) ≡ lent_to q giver = refl in
      omega arith

  lent-parts : map (λ (s : Standing). s.parts) (lent d ss robber of) ≡ set (map (λ (s : Standing). s.parts) ss) of (giver.parts - 1)
  lent-parts = map-set_same (λ (s : Standing). s.parts) given robber (with_right (get_or given robber d) right) d refl ∙ map-set (λ (s : Standing). s.parts) ss of (less_one giver)

  lent-whole_parts : 1 ≤ giver.parts → (q : ℕ) → parts_of q ss ≡ 1024 → parts_of q (lent d ss robber of) ≡ 1024
  lent-whole_parts some q was =
      let ps : List ℕ = map (λ (s : Standing). s.parts) ss in
      let s = lent-sum q in
      let m : get_or (map (λ (s : Standing). s.parts) (lent d ss robber of)) q 0 ≡ get_or (set ps of (giver.parts - 1)) q 0 = ap (λ (l : List ℕ). get_or l q 0) lent-parts in
      let long = length-map ss (λ (s : Standing). s.parts) in
      dite (ℕ_discrete q of)
      (λ (is : q ≡ of).
      let a : get_or (set ps of (giver.parts - 1)) q 0 ≡ giver.parts - 1 = get_or-set_at ps of q (giver.parts - 1) 0 is (omega arith) in
      let b : get_or ps q 0 ≡ giver.parts = ap (λ (i : ℕ). get_or ps i 0) is ∙ here in
      let c : cond {A = ℕ} (of == q) 1 0 ≡ 1 = ap (λ (t : Bool). cond t 1 0) (eq-eqb of q (sym is)) in omega arith)
      (λ (ne : q ≢ of).
      let a : get_or (set ps of (giver.parts - 1)) q 0 ≡ get_or ps q 0 = get_or-set_other ps of q (giver.parts - 1) 0 ne in
      let c : cond {A = ℕ} (of == q) 1 0 ≡ 0 = ap (λ (t : Bool). cond t 1 0) (ne_eqb of q (λ e. ne (sym e))) in omega arith)
    where
      here : get_or (map (λ (s : Standing). s.parts) ss) of 0 ≡ giver.parts
      here = get_or-map (λ (s : Standing). s.parts) ss of d 0 of_in

  lent-few : lent_to of (get_or ss robber d) ≡ 0 → (q : ℕ) → All (λ (s : Standing). lent_to q s ≤ 1) ss → All (λ (s : Standing). lent_to q s ≤ 1) (lent d ss robber of)
  lent-few none q all = All-set (λ (s : Standing). lent_to q s ≤ 1) given robber (with_right (get_or given robber d) right)
      (let c = lent_to-robber q in let r = all robber d robber_in in dite (ℕ_discrete of q)
      (λ (is : of ≡ q). let t : cond {A = ℕ} (of == q) 1 0 ≡ 1 = ap (λ (t : Bool). cond t 1 0) (eq-eqb of q is) in
      let z : lent_to q (get_or ss robber d) ≡ 0 = subst (λ (j : ℕ). lent_to j (get_or ss robber d) ≡ 0) is none in omega arith)
      (λ (ne : of ≢ q). let t : cond {A = ℕ} (of == q) 1 0 ≡ 0 = ap (λ (t : Bool). cond t 1 0) (ne_eqb of q ne) in omega arith))
      (All-set (λ (s : Standing). lent_to q s ≤ 1) ss of (less_one giver) (all of d of_in) all)

  pub lent-being_dealt : lent_to of (get_or ss robber d) ≡ 0 → 1 ≤ (get_or ss of d).parts → AreBeingDealt ss → AreBeingDealt (lent d ss robber of)
  lent-being_dealt none some b = record {
    whole = record {
      rights = lent-rights b.whole.rights;
      parts = λ q lt. lent-whole_parts some q (b.whole.parts q (let l = length-lent in omega arith));
    };
    few = λ q. lent-few none q (b.few q);
    dealt = λ k e lt. subst (λ (xs : List ℕ). AreSameNumbers xs (numbers_below (get_or (lent d ss robber of) k e).count)) (sym (dealt_same (lent d ss robber of) ss lent-dealt))
        (subst (λ (n : ℕ). AreSameNumbers (flat_map (λ (s : Standing). s.dealt) ss) (numbers_below n)) (sym (same_at (λ (s : Standing). s.count) (lent d ss robber of) ss k e lent-count lt)) (b.dealt k e (let l = length-lent in omega arith)));
  }

  pub lent-rights_list : map (λ (s : Standing). s.rights) (lent d ss robber of) ≡ set (map (λ (s : Standing). s.rights) ss) robber (get_or (map (λ (s : Standing). s.rights) ss) robber [] ++ right_at of (get_or ss of d) ∷ [])
  lent-rights_list =
      map-set (λ (s : Standing). s.rights) given robber (with_right (get_or given robber d) right)
      ∙ ap (λ (l : List (List Right)). set l robber ((get_or given robber d).rights ++ right ∷ [])) given-rights
      ∙ ap (λ (rs : List Right). set (map (λ (s : Standing). s.rights) ss) robber (rs ++ right ∷ [])) (robber-rights ∙ sym (get_or-map (λ (s : Standing). s.rights) ss robber d [] robber_in))

-- a deque that each hand has one part of at most has parts left
few_lent : (q : ℕ) (ss : List Standing) → All (λ (s : Standing). lent_to q s ≤ 1) ss → sum_by (lent_to q) ss ≤ length ss
few_lent q [] all = omega arith
few_lent q (s ∷ ss) all = let a = all zero s (omega arith) in let b = sum_by-cons (lent_to q) s ss in let r = few_lent q ss (λ k d lt. all (suc k) d (omega arith)) in omega arith

pub has_parts : (ss : List Standing) (of : ℕ) (d : Standing) → AreBeingDealt ss → length ss ≤ 64 → of < length ss → 1 < (get_or ss of d).parts
has_parts ss of d b few lt = let a = b.whole.parts of lt in let f = few_lent of ss (b.few of) in let g = get_or-map (λ (s : Standing). s.parts) ss of d 0 lt in omega arith

-- all but one of a list, from the next one on
pub others-weight : {X : Type 0} (g : X → ℕ) (xs : List X) (r : ℕ) (d : X) → r < length xs → g (get_or xs r d) + sum_by g (others_from r xs) ≡ sum_by g xs
others-weight g xs r d lt = let a = sum_by-append g (drop (r + 1) xs) (take r xs) in let b = sum_by-take-drop g xs r in let c = sum_by-drop_more g xs r d lt in omega arith

pub others-length : {X : Type 0} (xs : List X) (r : ℕ) → r < length xs → length (others_from r xs) + 1 ≡ length xs
others-length xs r lt = let a = length-append (drop (r + 1) xs) (take r xs) in let b = length-drop (r + 1) xs in let c = length_taken xs r (omega arith) in omega arith
  where
    length_taken : {X : Type 0} (xs : List X) (r : ℕ) → r ≤ length xs → length (take r xs) ≡ r
    length_taken xs zero h = refl
    length_taken [] (suc r) h = absurd (omega arith)
    length_taken (x ∷ xs) (suc r) h = let e = length_taken xs r (omega arith) in omega arith

pub others-at : {X : Type 0} (xs : List X) (r i o : ℕ) (d : X) → r < length xs → i + 1 < length xs → (r + (i + 1) < length xs → o ≡ r + (i + 1)) → (length xs ≤ r + (i + 1) → o + length xs ≡ r + (i + 1)) → get_or (others_from r xs) i d ≡ get_or xs o d
others-at xs r i o d lt few ahead around =
    let b = length-drop (r + 1) xs in
    dite (dec_le (length xs) (r + (i + 1)))
    (λ (le : length xs ≤ r + (i + 1)). let e = around le in
    get_or-append_right (drop (r + 1) xs) (take r xs) (length xs - (r + 1)) i d b (omega arith)
    ∙ get_or-take r xs (i - (length xs - (r + 1))) d (omega arith)
    ∙ ap (λ (j : ℕ). get_or xs j d) (omega arith))
    (λ (no : ¬ (length xs ≤ r + (i + 1))). let e = ahead (omega arith) in
    get_or_append_left (drop (r + 1) xs) (take r xs) d i (omega arith)
    ∙ get_or-drop (r + 1) xs i d
    ∙ ap (λ (j : ℕ). get_or xs j d) (omega arith))

pub at-below : (n i d : ℕ) → i < n → get_or (numbers_below n) i d ≡ i
at-below zero i d h = absurd (omega arith)
at-below (suc n) i d h = let l = length-below n in dite (ℕ_discrete i n)
    (λ (e : i ≡ n). let z : i - n ≡ 0 = omega arith in get_or-append_right (numbers_below n) (n ∷ []) n i d l (omega arith) ∙ ap (λ (j : ℕ). get_or (n ∷ []) j d) z ∙ sym e)
    (λ (ne : i ≢ n). get_or_append_left (numbers_below n) (n ∷ []) d i (omega arith) ∙ at-below n i d (omega arith))

none_lent : (q : ℕ) (rs : List Right) → times q (map (λ (r : Right). r.of) rs) ≡ 0 → sum_by (λ (r : Right). cond (r.of == q) r.parts 0) rs ≡ 0
none_lent q [] e = refl
none_lent q (r ∷ rs) e =
    let a = sum_by-cons (λ (x : ℕ). cond (x == q) 1 0) r.of (map (λ (r : Right). r.of) rs) in
    let b = sum_by-cons (λ (x : Right). cond (x.of == q) x.parts 0) r rs in
    let c = none_lent q rs (omega arith) in
    let z = by_test (r.of == q) r.parts (omega arith) in omega arith
  where
    by_test : (t : Bool) (p : ℕ) → cond {A = ℕ} t 1 0 ≡ 0 → cond t p 0 ≡ 0
    by_test true p h = absurd (omega arith)
    by_test false p h = refl

-- the hand that comes next has not been robbed yet
pub not_yet : (n robber i o : ℕ) (rs : List Right) → robber < n → i + 1 < n → (r : get_or (others_from robber (numbers_below n)) i 0 ≡ o) → map (λ (r : Right). r.of) rs ≡ take i (others_from robber (numbers_below n)) → sum_by (λ (r : Right). cond (r.of == o) r.parts 0) rs ≡ 0
not_yet n robber i o rs lt few at ofs = none_lent o rs (ap (times o) ofs ∙ z)
  where
    long : length (numbers_below n) ≡ n
    long = length-below n

    z : times o (take i (others_from robber (numbers_below n))) ≡ 0
    z = let os : List ℕ = others_from robber (numbers_below n) in
        let l = others-length (numbers_below n) robber (let e = long in omega arith) in
        let m : take (i + 1) os ≡ take i os ++ get_or os i 0 ∷ [] = take_more os i 0 (let e = long in omega arith) in
        let p : times o (take (i + 1) os) ≡ times o (take i os) + cond (get_or os i 0 == o) 1 0 = ap (times o) m ∙ sum_by_push (λ (x : ℕ). cond (x == o) 1 0) (take i os) (get_or os i 0) in
        let c : cond {A = ℕ} (get_or os i 0 == o) 1 0 ≡ 1 = ap (λ (t : Bool). cond t 1 0) (eq-eqb (get_or os i 0) o at) in
        let t = sum_by-take-le (λ (x : ℕ). cond (x == o) 1 0) os (i + 1) in
        let w = others-weight (λ (x : ℕ). cond (x == o) 1 0) (numbers_below n) robber 0 (let e = long in omega arith) in
        let b = times-below o n in
        dite (dec_le n o) (λ (le : n ≤ o). let y = b.1 le in omega arith) (λ (no : ¬ (n ≤ o)). let y = b.0 (omega arith) in omega arith)
