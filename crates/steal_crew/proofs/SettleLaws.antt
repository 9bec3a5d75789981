-- What is known once all passes are given back.
use Rattle.std.proofs.Common.{ℕ, zero, suc, ◌≡◌, ◌≢◌, ◌+◌, ◌<◌, ◌≤◌, List, [], ◌∷◌, length, map, get_or, set, cond, Bool, true, false, refl, sym, ap, ◌∙◌, subst, arith}
use Rattle.std.specs.Prelude.{◌==◌, flat_map, sum_by}
use Rattle.std.specs.Bool.{OnTrue}
use Rattle.std.specs.List.{All, list_all}
use Rattle.std.proofs.lemmas.List.{length-map, get_or-map, get_or-set_other}
use Rattle.std.proofs.lemmas.Grind.{get_or-set_at}
use mathlib.Core.Logic.{dite}
use native.Mathlib.Decide.{ℕ_discrete}
use Rattle.std.proofs.lemmas.Simd.{map-map}
use Rattle.std.proofs.lemmas.List.Sums.{sum_by-append, sum_by-cons, AllPass-from_list_all, list_all-from_AllPass}
use Rattle.std.proofs.lemmas.List.Folds.{flat_map-map, list_all-map}
use Rattle.tickets.specs.Counting.{IsEachOnce}
use Rattle.steal_crew.specs.Numbers.{AreSameNumbers, IsOnceAtMost, numbers_below}
use Rattle.steal_crew.specs.Rule.{IsAllTaken, IsSomeLeft}
use Rattle.steal_crew.specs.Rights.{Right, right_of, taken_by}
use Rattle.steal_crew.specs.Hands.{Standing, standing_of, lent_to, AreWhole, AreHandsOfOneDeal, count_of, dealt_of, taken_of, drawn_of, all_drawn, own_view, is_done, rights_of, rights_at}
use Rattle.steal_crew.specs.Settling.{AreKept, AreLookedAt}
use Rattle.steal_crew.specs.declared.hand.Hand.{Hand}
use Rattle.steal_crew.specs.declared.victim.Victim.{Victim}
use Rattle.steal_crew.proofs.NumberLaws.{each_of_same, once_of_part, weight-ones, length-below}
use Rattle.steal_crew.proofs.HandLemmas.{counts_same, map_standing}
use Rattle.steal_crew.proofs.LendLaws.{any_default}

-- lists that a function of each hand gives, one after the other
flat_of : (f : Hand → List ℕ) (before after : List Hand) → map f after ≡ map f before → flat_map f after ≡ flat_map f before
flat_of f before after e = sym (flat_map-map (λ (x : List ℕ). x) f after) ∙ ap (flat_map (λ (x : List ℕ). x)) e ∙ flat_map-map (λ (x : List ℕ). x) f before

pub kept_deal : (n : ℕ) (before after : List Hand) → length after ≡ length before → AreKept before after → AreWhole (map standing_of after) → AreHandsOfOneDeal n before → AreHandsOfOneDeal n after
kept_deal n before after long kept whole deal = record {
  some = let a = deal.some in omega arith;
  count = counts_same n before after kept.count deal.count;
  whole = whole;
  dealt = record { weight = λ w. ap (sum_by w) (flat_of dealt_of before after kept.dealt) ∙ deal.dealt.weight w };
  held = record { weight = λ w. ap (sum_by w) (flat_of drawn_of before after kept.drawn) ∙ deal.held.weight w ∙ sym (kept.taken.weight w) };
}

pub kept_length : (before after : List Hand) → AreKept before after → length after ≡ length before
kept_length before after kept = let a = length-map after count_of in let b = length-map before count_of in let c : length (map count_of after) ≡ length (map count_of before) = ap length kept.count in omega arith

abbrev HaveNoRights : List Hand → Type 0
HaveNoRights hands = (i : ℕ) → i < length hands → rights_at i hands ≡ []

no_victims : (h : Hand) → rights_of h ≡ [] → flat_map taken_by h.others.items ≡ []
no_victims h e = none h.others.items e
  where
    none : (os : List Victim) → map right_of os ≡ [] → flat_map taken_by os ≡ []
    none [] e = refl
    none (v ∷ os) e = let l : length (map right_of (v ∷ os)) ≡ 0 = ap length e in absurd (omega arith)

-- where no hand has rights, all parts of a deque are its hand's
sum_of_none : (q : ℕ) (hands : List Hand) → HaveNoRights hands → sum_by (lent_to q) (map standing_of hands) ≡ 0
sum_of_none q [] none = refl
sum_of_none q (h ∷ hands) none =
    let a = sum_by-cons (lent_to q) (standing_of h) (map standing_of hands) in
    let b : lent_to q (standing_of h) ≡ 0 = ap (sum_by (λ (r : Right). cond (r.of == q) r.parts 0)) (none zero (omega arith)) in
    let r = sum_of_none q hands (λ i lt. none (suc i) (omega arith)) in omega arith

pub all_parts : (hands : List Hand) → HaveNoRights hands → AreWhole (map standing_of hands) → All (λ (h : Hand). (own_view h).parts ≡ 1024) hands
all_parts hands none whole = λ k d lt.
    let l = length-map hands standing_of in
    let w = whole.parts k (omega arith) in
    let s = sum_of_none k hands none in
    let p : get_or (map (λ (t : Standing). t.parts) (map standing_of hands)) k 0 ≡ (own_view (get_or hands k d)).parts =
    ap (λ (ps : List ℕ). get_or ps k 0) (map-map (λ (t : Standing). t.parts) standing_of hands) ∙ get_or-map (λ (h : Hand). (standing_of h).parts) hands k d 0 lt in
    omega arith

-- what the hands without rights have taken is among what was dealt to them
taken_part : (w : ℕ → ℕ) (hands : List Hand) → HaveNoRights hands → sum_by w (flat_map taken_of hands) ≤ sum_by w (flat_map dealt_of hands)
taken_part w [] none = omega arith
taken_part w (h ∷ hands) none =
    let a = sum_by-append w (taken_of h) (flat_map taken_of hands) in
    let b = sum_by-append w (dealt_of h) (flat_map dealt_of hands) in
    let c : sum_by w (taken_of h) ≡ sum_by w (own_view h).taken + 0 = sum_by-append w (own_view h).taken (flat_map taken_by h.others.items) ∙ ap (λ (xs : List ℕ). sum_by w (own_view h).taken + sum_by w xs) (no_victims h (none zero (omega arith))) in
    let e = h.within.weight w in
    let r = taken_part w hands (λ i lt. none (suc i) (omega arith)) in omega arith

taken_all : (w : ℕ → ℕ) (hands : List Hand) → HaveNoRights hands → All (λ (h : Hand). AreSameNumbers (own_view h).taken (own_view h).dealt) hands → sum_by w (flat_map taken_of hands) ≡ sum_by w (flat_map dealt_of hands)
taken_all w [] none all = refl
taken_all w (h ∷ hands) none all =
    let a = sum_by-append w (taken_of h) (flat_map taken_of hands) in
    let b = sum_by-append w (dealt_of h) (flat_map dealt_of hands) in
    let c : sum_by w (taken_of h) ≡ sum_by w (own_view h).taken + 0 = sum_by-append w (own_view h).taken (flat_map taken_by h.others.items) ∙ ap (λ (xs : List ℕ). sum_by w (own_view h).taken + sum_by w xs) (no_victims h (none zero (omega arith))) in
    let e = (all zero h (omega arith)).weight w in
    let r = taken_all w hands (λ i lt. none (suc i) (omega arith)) (λ k d lt. all (suc k) d (omega arith)) in omega arith

-- where they have taken as many numbers as were dealt to them, each has taken as many as were dealt to it
none_left : (hands : List Hand) → HaveNoRights hands → sum_by (λ (x : ℕ). 1) (flat_map dealt_of hands) ≤ sum_by (λ (x : ℕ). 1) (flat_map taken_of hands) → (k : ℕ) (d : Hand) → k < length hands → ¬ (IsSomeLeft (own_view (get_or hands k d)))
none_left [] none all k d lt left = absurd (omega arith)
none_left (h ∷ hands) none all zero d lt left =
    let a = sum_by-append (λ (x : ℕ). 1) (taken_of h) (flat_map taken_of hands) in
    let b = sum_by-append (λ (x : ℕ). 1) (dealt_of h) (flat_map dealt_of hands) in
    let c : sum_by (λ (x : ℕ). 1) (taken_of h) ≡ sum_by (λ (x : ℕ). 1) (own_view h).taken + 0 = sum_by-append (λ (x : ℕ). 1) (own_view h).taken (flat_map taken_by h.others.items) ∙ ap (λ (xs : List ℕ). sum_by (λ (x : ℕ). 1) (own_view h).taken + sum_by (λ (x : ℕ). 1) xs) (no_victims h (none zero (omega arith))) in
    let e = h.within.weight (λ (x : ℕ). 1) in
    let r = taken_part (λ (x : ℕ). 1) hands (λ i lt. none (suc i) (omega arith)) in
    let p = weight-ones (own_view h).dealt in let q = weight-ones (own_view h).taken in absurd (omega arith)
none_left (h ∷ hands) none all (suc k) d lt left =
    let a = sum_by-append (λ (x : ℕ). 1) (taken_of h) (flat_map taken_of hands) in
    let b = sum_by-append (λ (x : ℕ). 1) (dealt_of h) (flat_map dealt_of hands) in
    let c : sum_by (λ (x : ℕ). 1) (taken_of h) ≡ sum_by (λ (x : ℕ). 1) (own_view h).taken + 0 = sum_by-append (λ (x : ℕ). 1) (own_view h).taken (flat_map taken_by h.others.items) ∙ ap (λ (xs : List ℕ). sum_by (λ (x : ℕ). 1) (own_view h).taken + sum_by (λ (x : ℕ). 1) xs) (no_victims h (none zero (omega arith))) in
    let e = h.within.weight (λ (x : ℕ). 1) in
    let r = taken_part (λ (x : ℕ). 1) hands (λ i lt. none (suc i) (omega arith)) in
    none_left hands (λ i lt. none (suc i) (omega arith)) (omega arith) k d (omega arith) left

pub once_drawn : (n : ℕ) (hands : List Hand) → HaveNoRights hands → AreHandsOfOneDeal n hands → IsOnceAtMost n (all_drawn hands)
once_drawn n hands none deal = once_of_part n (all_drawn hands) (record { weight = λ w. let a = deal.held.weight w in let b = taken_part w hands none in let c = deal.dealt.weight w in omega arith })

pub each_drawn : (n : ℕ) (hands : List Hand) → HaveNoRights hands → AreHandsOfOneDeal n hands → All (λ (h : Hand). AreSameNumbers (own_view h).taken (own_view h).dealt) hands → IsEachOnce n (all_drawn hands)
each_drawn n hands none deal all = each_of_same n (all_drawn hands) (record { weight = λ w. deal.held.weight w ∙ taken_all w hands none all ∙ deal.dealt.weight w })

pub drawn_kept : (before after : List Hand) → map drawn_of after ≡ map drawn_of before → all_drawn after ≡ all_drawn before
drawn_kept before after e = flat_of drawn_of before after e

either : {P : Type 0} (b : Bool) → (b ≡ true → P) → (b ≡ false → P) → P
either true on off = on refl
either false on off = off refl

is_true : (b : Bool) → ¬ (b ≡ false) → b ≡ true
is_true true off = refl
is_true false off = absurd (off refl)

-- one hand's deque is looked at
module _ (hands : List Hand) (place : ℕ) (old new : Hand) (place_in : place < length hands) (value : old ≡ get_or hands place old) where
  pub looked_done : (is_done new ≡ true → is_done old ≡ true) → (i : ℕ) (d : Hand) → is_done (get_or (set hands place new) i d) ≡ true → is_done (get_or hands i d) ≡ true
  looked_done fewer i d e = dite (ℕ_discrete i place)
      (λ (at : i ≡ place).
      let a : get_or (set hands place new) i d ≡ new = get_or-set_at hands place i new d at place_in in
      let b = fewer (ap is_done (sym a) ∙ e) in
      ap (λ (j : ℕ). is_done (get_or hands j d)) at ∙ ap is_done (any_default hands place d old place_in ∙ sym value) ∙ b)
      (λ (ne : i ≢ place). ap is_done (sym (get_or-set_other hands place i new d ne)) ∙ e)

  pub looked_empty : (is_done new ≡ true → IsAllTaken (own_view old)) → own_view new ≡ own_view old
      → ((i : ℕ) (d : Hand) → i < place → is_done (get_or hands i d) ≡ true → IsAllTaken (own_view (get_or hands i d)))
      → (i : ℕ) (d : Hand) → i < place + 1 → is_done (get_or (set hands place new) i d) ≡ true → IsAllTaken (own_view (get_or (set hands place new) i d))
  looked_empty here same before i d lt e = dite (ℕ_discrete i place)
      (λ (at : i ≡ place).
      let a : get_or (set hands place new) i d ≡ new = get_or-set_at hands place i new d at place_in in
      subst (λ (h : Hand). IsAllTaken (own_view h)) (sym a) (subst IsAllTaken (sym same) (here (ap is_done (sym a) ∙ e))))
      (λ (ne : i ≢ place).
      let a : get_or (set hands place new) i d ≡ get_or hands i d = get_or-set_other hands place i new d ne in
      subst (λ (h : Hand). IsAllTaken (own_view h)) (sym a) (before i d (omega arith) (ap is_done (sym a) ∙ e)))

  pub looked_some : (first : List Hand) → (is_done old ≡ true → is_done new ≡ false → IsSomeLeft (own_view old)) → own_view new ≡ own_view old
      → ((i : ℕ) (d : Hand) → is_done (get_or first i d) ≡ true → is_done (get_or hands i d) ≡ false → IsSomeLeft (own_view (get_or hands i d)))
      → (i : ℕ) (d : Hand) → is_done (get_or first i d) ≡ true → is_done (get_or (set hands place new) i d) ≡ false → IsSomeLeft (own_view (get_or (set hands place new) i d))
  looked_some first here same before i d was e = dite (ℕ_discrete i place)
      (λ (at : i ≡ place).
      let a : get_or (set hands place new) i d ≡ new = get_or-set_at hands place i new d at place_in in
      let b : get_or hands i d ≡ old = ap (λ (j : ℕ). get_or hands j d) at ∙ any_default hands place d old place_in ∙ sym value in
      subst (λ (h : Hand). IsSomeLeft (own_view h)) (sym a) (subst IsSomeLeft (sym same) (either (is_done old)
      (λ (on : is_done old ≡ true). here on (ap is_done (sym a) ∙ e))
      (λ (off : is_done old ≡ false). subst (λ (h : Hand). IsSomeLeft (own_view h)) b (before i d was (ap is_done b ∙ off))))))
      (λ (ne : i ≢ place).
      let a : get_or (set hands place new) i d ≡ get_or hands i d = get_or-set_other hands place i new d ne in
      subst (λ (h : Hand). IsSomeLeft (own_view h)) (sym a) (before i d was (ap is_done (sym a) ∙ e)))

-- all looks
module _ (n : ℕ) (old given looked : List Hand) (kept : AreKept old given) (whole : AreWhole (map standing_of given)) (none : HaveNoRights given)
    (standings : map standing_of looked ≡ map standing_of given) (taken : map taken_of looked ≡ map taken_of given) (drawn : map drawn_of looked ≡ map drawn_of given) (deal : AreHandsOfOneDeal n old) where
  given_deal : AreHandsOfOneDeal n given
  given_deal = kept_deal n old given (kept_length old given kept) kept whole deal

  same_long : length looked ≡ length given
  same_long = let a = length-map looked standing_of in let b = length-map given standing_of in let e : length (map standing_of looked) ≡ length (map standing_of given) = ap length standings in omega arith

  pub settled_deal : AreHandsOfOneDeal n looked
  settled_deal = record {
    some = let a = given_deal.some in let l = same_long in omega arith;
    count = counts_same n given looked (map_standing (λ (s : Standing). s.count) given looked standings) given_deal.count;
    whole = subst AreWhole (sym standings) whole;
    dealt = record { weight = λ w. ap (sum_by w) (flat_of dealt_of given looked (map_standing (λ (s : Standing). s.dealt) given looked standings)) ∙ given_deal.dealt.weight w };
    held = record { weight = λ w. ap (sum_by w) (flat_of drawn_of given looked drawn) ∙ given_deal.held.weight w ∙ sym (ap (sum_by w) (flat_of taken_of given looked taken)) };
  }

  pub settled_once : IsOnceAtMost n (all_drawn old)
  settled_once = subst (IsOnceAtMost n) (drawn_kept old given kept.drawn) (once_drawn n given none given_deal)

  none_looked : HaveNoRights looked
  none_looked = λ i lt. ap (λ (l : List (List Right)). get_or l i []) (map_standing (λ (s : Standing). s.rights) given looked standings) ∙ none i (let l = same_long in omega arith)

  pub settled_all : All (λ (h : Hand). is_done h ≡ true → IsAllTaken (own_view h)) looked → list_all is_done looked ≡ true → IsEachOnce n (all_drawn old)
  settled_all empty done = subst (IsEachOnce n) (drawn_kept given looked drawn ∙ drawn_kept old given kept.drawn)
      (each_drawn n looked none_looked settled_deal (λ k d lt. empty k d lt (AllPass-from_list_all is_done looked done k d lt) (all_parts looked none_looked settled_deal.whole k d lt)))

  pub settled_complete : ((i : ℕ) (d : Hand) → i < length given → is_done (get_or given i d) ≡ true → is_done (get_or looked i d) ≡ false → IsSomeLeft (own_view (get_or looked i d)))
      → list_all is_done old ≡ true → length (all_drawn old) ≡ n → list_all is_done looked ≡ true
  settled_complete some done all =
      let given_done : list_all is_done given ≡ true = sym (list_all-map (λ (b : Bool). b) is_done given) ∙ ap (list_all (λ (b : Bool). b)) kept.done ∙ list_all-map (λ (b : Bool). b) is_done old ∙ done in
      let a = settled_deal.held.weight (λ (x : ℕ). 1) in
      let b = settled_deal.dealt.weight (λ (x : ℕ). 1) in
      let c : length (all_drawn looked) ≡ length (all_drawn old) = ap length (drawn_kept given looked drawn ∙ drawn_kept old given kept.drawn) in
      let e = weight-ones (all_drawn looked) in let f = weight-ones (numbers_below n) in let g = length-below n in
      list_all-from_AllPass is_done looked (λ k d lt. is_true (is_done (get_or looked k d))
      (λ (off : is_done (get_or looked k d) ≡ false). none_left looked none_looked (omega arith) k d lt
      (some k d (let l = same_long in omega arith) (AllPass-from_list_all is_done given given_done k d (let l = same_long in omega arith)) off)))

  pub settled_done : ((i : ℕ) (d : Hand) → i < length given → is_done (get_or looked i d) ≡ true → is_done (get_or given i d) ≡ true) → list_all is_done looked ≡ true → list_all is_done old ≡ true
  settled_done fewer done =
      let all : list_all is_done given ≡ true = list_all-from_AllPass is_done given (λ k d lt. fewer k d lt (AllPass-from_list_all is_done looked done k d (let l = same_long in omega arith))) in
      sym (list_all-map (λ (b : Bool). b) is_done old) ∙ ap (list_all (λ (b : Bool). b)) (sym kept.done) ∙ list_all-map (λ (b : Bool). b) is_done given ∙ all

pub on_true : {P : Type 0} (b : Bool) → (b ≡ true → P) → OnTrue b P
on_true true f = f refl
on_true false f = tt

-- passes that are given back leave it to the looks which hands are done
same_done : (old given : List Hand) → AreKept old given → (i : ℕ) (d : Hand) → i < length old → is_done (get_or given i d) ≡ is_done (get_or old i d)
same_done old given kept i d lt =
    let l = kept_length old given kept in
    sym (get_or-map is_done given i d false (omega arith)) ∙ ap (λ (bs : List Bool). get_or bs i false) kept.done ∙ get_or-map is_done old i d false lt

pub settled_looked : (old given looked : List Hand) → AreKept old given
    → ((i : ℕ) (d : Hand) → i < length given → is_done (get_or looked i d) ≡ true → is_done (get_or given i d) ≡ true)
    → ((i : ℕ) (d : Hand) → i < length given → is_done (get_or given i d) ≡ true → is_done (get_or looked i d) ≡ false → IsSomeLeft (own_view (get_or looked i d)))
    → AreLookedAt old looked
settled_looked old given looked kept fewer some =
    let l = kept_length old given kept in
    record {
      still = λ i d lt on. sym (same_done old given kept i d lt) ∙ fewer i d (omega arith) on;
      left = λ i d lt was off. some i d (omega arith) (same_done old given kept i d lt ∙ was) off;
    }
