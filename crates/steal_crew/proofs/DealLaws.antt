-- Hands that were dealt their shares and have no rights yet.
use Rattle.std.proofs.Common.{ℕ, zero, suc, ◌≡◌, ◌+◌, ◌%◌, ◌<◌, ◌≤◌, List, [], ◌∷◌, ◌++◌, length, map, get_or, cond, not, refl, sym, ap, ◌∙◌, subst, arith}
use Rattle.std.specs.Prelude.{◌==◌, flat_map, sum_by}
use Rattle.std.specs.List.{All}
use Rattle.std.proofs.lemmas.List.{length-map, map-append, get_or-map}
use Rattle.std.proofs.lemmas.Simd.{map-map}
use Rattle.std.proofs.lemmas.List.Sums.{sum_by-append, sum_by-cons}
use Rattle.std.proofs.lemmas.List.Filters.{sum_by-filter_both}
use Rattle.std.proofs.lemmas.List.Folds.{flat_map-map}
use Rattle.std.proofs.lemmas.List.Elements.{All-append}
use Rattle.steal_crew.specs.Numbers.{AreSameNumbers, IsPart, numbers_below, share}
use Rattle.steal_crew.specs.Rule.{view_of}
use Rattle.steal_crew.specs.Rights.{Right, right_of, taken_by, dealt_to}
use Rattle.steal_crew.specs.Hands.{Standing, standing_of, lent_to, IsRightAt, AreHandsOfOneDeal, count_of, dealt_of, taken_of, drawn_of, own_view, rights_of, rights_at}
use Rattle.steal_crew.specs.Dealing.{IsUndrawn, AreFresh, AreBeingDealt}
use Rattle.steal_crew.specs.declared.deque.View.{View}
use Rattle.steal_crew.specs.declared.victim.Victim.{Victim}
use Rattle.steal_crew.specs.declared.hand.Hand.{Hand}
use Rattle.steal_crew.proofs.NumberLaws.{all_shares, length-below}
use Rattle.steal_crew.proofs.HandLemmas.{dealt_of_standings, counts_same}

share_part : (w : ℕ → ℕ) (n workers rest : ℕ) → sum_by w (share n workers rest) ≤ sum_by w (numbers_below n)
share_part w n workers rest = let a = sum_by-filter_both (λ (k : ℕ). k % workers == rest) (λ (k : ℕ). not (k % workers == rest)) (λ k. refl) w (numbers_below n) in omega arith

pub fresh_within : (v : View) (n workers rest : ℕ) → v ≡ view_of 1024 (share n workers rest) [] → IsPart v.taken v.dealt
fresh_within v n workers rest e = record { weight = λ w. let a : sum_by w v.taken ≡ 0 = ap (λ (u : View). sum_by w u.taken) e in omega arith }

pub fresh_below : (v : View) (n workers rest : ℕ) (drawn : List ℕ) (os : List Victim) → v ≡ view_of 1024 (share n workers rest) [] → drawn ≡ [] → os ≡ [] → IsPart (drawn ++ (v.dealt ++ flat_map dealt_to os)) (numbers_below n ++ (v.taken ++ flat_map taken_by os))
fresh_below v n workers rest drawn os e none bare = record {
  weight = λ w.
      let a = sum_by-append w drawn (v.dealt ++ flat_map dealt_to os) in
      let b = sum_by-append w v.dealt (flat_map dealt_to os) in
      let c = sum_by-append w (numbers_below n) (v.taken ++ flat_map taken_by os) in
      let d : sum_by w v.dealt ≡ sum_by w (share n workers rest) = ap (λ (u : View). sum_by w u.dealt) e in
      let f : sum_by w drawn ≡ 0 = ap (sum_by w) none in
      let g : sum_by w (flat_map dealt_to os) ≡ 0 = ap (λ (us : List Victim). sum_by w (flat_map dealt_to us)) bare in
      let h = share_part w n workers rest in omega arith;
}

all_one : {X : Type 0} (P : X → Type 0) (x : X) → P x → All P (x ∷ [])
all_one P x p zero d lt = p
all_one P x p (suc k) d lt = absurd (omega arith)

pub deal_next : (n workers rest : ℕ) (hands : List Hand) (hand : Hand) → map dealt_of hands ≡ map (share n workers) (numbers_below rest) → dealt_of hand ≡ share n workers rest → map dealt_of (hands ++ hand ∷ []) ≡ map (share n workers) (numbers_below (rest + 1))
deal_next n workers rest hands hand e f =
    map-append dealt_of hands (hand ∷ [])
    ∙ ap (λ (l : List (List ℕ)). l ++ dealt_of hand ∷ []) e
    ∙ ap (λ (x : List ℕ). map (share n workers) (numbers_below rest) ++ x ∷ []) f
    ∙ sym (map-append (share n workers) (numbers_below rest) (rest ∷ []))
    ∙ ap (λ (k : ℕ). map (share n workers) (numbers_below k)) more
  where
    more : suc rest ≡ rest + 1
    more = omega arith

pub all_more : {X : Type 0} (P : X → Type 0) (xs : List X) (x : X) → All P xs → P x → All P (xs ++ x ∷ [])
all_more P xs x all p = All-append P xs (x ∷ []) all (all_one P x p)

module _ (n workers : ℕ) (some : 1 ≤ workers) (hands : List Hand) (fresh : AreFresh n workers workers hands) where
  pub fresh_long : length hands ≡ workers
  fresh_long = let a = length-map hands dealt_of in let b = length-map (numbers_below workers) (share n workers) in let c = length-below workers in let e : length (map dealt_of hands) ≡ length (map (share n workers) (numbers_below workers)) = ap length fresh.dealt in omega arith

  pub fresh_undrawn : All IsUndrawn hands
  fresh_undrawn = λ k d lt. (fresh.fresh k d lt).undrawn

  no_rights : (k : ℕ) (d : Hand) → k < length hands → rights_of (get_or hands k d) ≡ []
  no_rights k d lt = ap (map right_of) (fresh.fresh k d lt).others

  long_standings : length (map standing_of hands) ≡ length hands
  long_standings = length-map hands standing_of

  none_lent : (q : ℕ) (hs : List Hand) → ((k : ℕ) (d : Hand) → k < length hs → rights_of (get_or hs k d) ≡ []) → sum_by (lent_to q) (map standing_of hs) ≡ 0
  none_lent q [] none = refl
  none_lent q (h ∷ hs) none =
      let a = sum_by-cons (lent_to q) (standing_of h) (map standing_of hs) in
      let b : lent_to q (standing_of h) ≡ 0 = ap (sum_by (λ (r : Right). cond (r.of == q) r.parts 0)) (none zero h (omega arith)) in
      let r = none_lent q hs (λ k d lt. none (suc k) d (omega arith)) in omega arith

  at_standing : (k : ℕ) (e : Standing) (d : Hand) → k < length hands → get_or (map standing_of hands) k e ≡ standing_of (get_or hands k d)
  at_standing k e d lt = get_or-map standing_of hands k d e lt

  some_hand : (k : ℕ) → k < length hands → Hand
  some_hand k lt = first hands k lt
    where
      first : (hs : List Hand) (k : ℕ) → k < length hs → Hand
      first [] k lt = absurd (omega arith)
      first (h ∷ hs) k lt = h

  rights_none : (k : ℕ) (e : Standing) → k < length hands → (get_or (map standing_of hands) k e).rights ≡ []
  rights_none k e lt = let d = some_hand k lt in ap (λ (s : Standing). s.rights) (at_standing k e d lt) ∙ no_rights k d lt

  all_none : {X : Type 0} (P : X → Type 0) (xs : List X) → xs ≡ [] → All P xs
  all_none P xs e = subst (All P) (sym e) (λ k d lt. absurd (omega arith))

  pub fresh_dealt : AreSameNumbers (flat_map dealt_of hands) (numbers_below n)
  fresh_dealt = record {
    weight = λ w.
        ap (sum_by w) (sym (flat_map-map (λ (x : List ℕ). x) dealt_of hands) ∙ ap (flat_map (λ (x : List ℕ). x)) fresh.dealt ∙ flat_map-map (λ (x : List ℕ). x) (share n workers) (numbers_below workers))
        ∙ (all_shares n workers some).weight w;
  }

  pub fresh_count : All (λ (h : Hand). count_of h ≡ n) hands
  fresh_count = λ k d lt. (fresh.fresh k d lt).count

  pub fresh_dealing : AreBeingDealt (map standing_of hands)
  fresh_dealing = record {
    whole = record {
      rights = λ k e lt. all_none (IsRightAt (map standing_of hands)) (get_or (map standing_of hands) k e).rights (rights_none k e (let l = long_standings in omega arith));
      parts = λ q lt.
          let l = long_standings in
          let d = some_hand q (omega arith) in
          let a : get_or (map (λ (s : Standing). s.parts) (map standing_of hands)) q 0 ≡ (own_view (get_or hands q d)).parts = ap (λ (ps : List ℕ). get_or ps q 0) (map-map (λ (s : Standing). s.parts) standing_of hands) ∙ get_or-map (λ (h : Hand). (standing_of h).parts) hands q d 0 (omega arith) in
          let b = (fresh.fresh q d (omega arith)).parts in
          let c = none_lent q hands no_rights in omega arith;
    };
    few = λ q k e lt. let z : lent_to q (get_or (map standing_of hands) k e) ≡ 0 = ap (sum_by (λ (r : Right). cond (r.of == q) r.parts 0)) (rights_none k e (let l = long_standings in omega arith)) in omega arith;
    dealt = λ k e lt.
        let l = long_standings in
        let d = some_hand k (omega arith) in
        let c : (get_or (map standing_of hands) k e).count ≡ n = ap (λ (s : Standing). s.count) (at_standing k e d (omega arith)) ∙ fresh_count k d (omega arith) in
        record { weight = λ w. ap (sum_by w) (dealt_of_standings hands) ∙ fresh_dealt.weight w ∙ ap (λ (m : ℕ). sum_by w (numbers_below m)) (sym c) };
  }

  pub fresh_none : (i : ℕ) → rights_at i hands ≡ []
  fresh_none i = none hands i no_rights
    where
      none : (hs : List Hand) (i : ℕ) → ((k : ℕ) (d : Hand) → k < length hs → rights_of (get_or hs k d) ≡ []) → rights_at i hs ≡ []
      none [] i h = refl
      none (x ∷ hs) zero h = h zero x (omega arith)
      none (x ∷ hs) (suc i) h = none hs i (λ k d lt. h (suc k) d (omega arith))

  module _ (after : List Hand) (undrawn : All IsUndrawn after) (dealing : AreBeingDealt (map standing_of after)) (count : map count_of after ≡ map count_of hands) (dealt : map dealt_of after ≡ map dealt_of hands) where
    pub after_long : length after ≡ length hands
    after_long = let a = length-map after count_of in let b = length-map hands count_of in let e : length (map count_of after) ≡ length (map count_of hands) = ap length count in omega arith

    flat_none : (f : Hand → List ℕ) (hs : List Hand) → ((k : ℕ) (d : Hand) → k < length hs → f (get_or hs k d) ≡ []) → flat_map f hs ≡ []
    flat_none f [] none = refl
    flat_none f (h ∷ hs) none = ap (λ (l : List ℕ). l ++ flat_map f hs) (none zero h (omega arith)) ∙ flat_none f hs (λ k d lt. none (suc k) d (omega arith))

    pub dealt_deal : AreHandsOfOneDeal n after
    dealt_deal = record {
      some = let a = after_long in let b = fresh_long in omega arith;
      count = counts_same n hands after count fresh_count;
      whole = dealing.whole;
      dealt = record { weight = λ w. ap (sum_by w) (sym (flat_map-map (λ (x : List ℕ). x) dealt_of after) ∙ ap (flat_map (λ (x : List ℕ). x)) dealt ∙ flat_map-map (λ (x : List ℕ). x) dealt_of hands) ∙ fresh_dealt.weight w };
      held = record { weight = λ w. ap (sum_by w) (flat_none drawn_of after (λ k d lt. (undrawn k d lt).drawn) ∙ sym (flat_none taken_of after (λ k d lt. (undrawn k d lt).taken))) };
    }
