-- One pass is given back.
use Rattle.std.proofs.Common.{ℕ, ◌≡◌, ◌≢◌, ◌<◌, List, [], ◌∷◌, ◌++◌, length, map, get_or, set, refl, sym, ap, ◌∙◌, subst, arith}
use Rattle.std.specs.Prelude.{flat_map, sum_by}
use Rattle.std.proofs.lemmas.List.{get_or-map}
use Rattle.std.proofs.lemmas.List.Folds.{flat_map-map}
use Rattle.steal_crew.specs.Rights.{Right, right_of, taken_by}
use Rattle.steal_crew.specs.Hands.{Standing, standing_of, AreWhole, count_of, dealt_of, taken_of, drawn_of, is_done, own_view, rights_of, rights_at}
use Rattle.steal_crew.specs.Settling.{AreKept}
use Rattle.steal_crew.specs.declared.deque.View.{View}
use Rattle.steal_crew.specs.declared.hand.Hand.{Hand}
use Rattle.steal_crew.specs.declared.victim.Victim.{Victim}
use Rattle.steal_crew.proofs.LendLaws.{any_default}
use Rattle.steal_crew.proofs.GiveLaws.{with_rights, with_parts, map_in_place, right_in, rest_long, deque_at, given_whole, given_kept, given_others, given_fewer}

-- what a hand that gave up a right says
pub record IsReleased (hands : List Hand) (place : ℕ) (old new : Hand) : Type 0 where
  pub place_in : place < length hands
  pub value : old ≡ get_or hands place old
  pub standing : standing_of new ≡ with_rights (standing_of old) (map right_of new.others.items)
  pub own : own_view new ≡ own_view old
  pub drawn : drawn_of new ≡ drawn_of old
  pub done : is_done new ≡ is_done old

-- and one that took in a pass
pub record IsTakenIn (hands : List Hand) (of : ℕ) (old new : Hand) (v : Victim) : Type 0 where
  pub value : old ≡ get_or hands of old
  pub standing : standing_of new ≡ with_parts (standing_of old) (right_of v).parts
  pub taken : (own_view new).taken ≡ (own_view old).taken ++ taken_by v
  pub others : new.others ≡ old.others
  pub drawn : drawn_of new ≡ drawn_of old
  pub done : is_done new ≡ is_done old

module _ (hands : List Hand) (place of : ℕ) (old new : Hand) (v : Victim) (released : IsReleased hands place old new) (whole : AreWhole (map standing_of hands)) (is : v.of ≡ of) (last : old.others.items ≡ new.others.items ++ v ∷ []) where
  last_at : (get_or hands place old).others.items ≡ new.others.items ++ v ∷ []
  last_at = ap (λ (h : Hand). h.others.items) (sym released.value) ∙ last

  standing_at : standing_of new ≡ with_rights (standing_of (get_or hands place old)) (map right_of new.others.items)
  standing_at = released.standing ∙ ap (λ (h : Hand). with_rights (standing_of h) (map right_of new.others.items)) released.value

  own_at : own_view new ≡ own_view (get_or hands place old)
  own_at = released.own ∙ ap own_view released.value

  drawn_at : drawn_of new ≡ drawn_of (get_or hands place old)
  drawn_at = released.drawn ∙ ap drawn_of released.value

  done_at : is_done new ≡ is_done (get_or hands place old)
  done_at = released.done ∙ ap is_done released.value

  pub returned_in : of < length hands
  returned_in = right_in hands place of old new new v released.place_in whole is last_at standing_at own_at drawn_at done_at

  long : length (set hands place new) ≡ length hands
  long = rest_long hands place of old new new v released.place_in whole is last_at standing_at own_at drawn_at done_at

  module _ (keeper after : Hand) where
    value_at : keeper ≡ get_or (set hands place new) of keeper → keeper ≡ get_or (set hands place new) of old
    value_at e = e ∙ any_default (set hands place new) of keeper old (let l = long in let r = returned_in in omega arith)

    pub returned_deque : keeper ≡ get_or (set hands place new) of keeper → (right_of v).deque ≡ (standing_of keeper).deque
    returned_deque e = deque_at hands place of old new new v released.place_in whole is last_at standing_at own_at drawn_at done_at ∙ ap (λ (h : Hand). (standing_of h).deque) (sym (value_at e))

    module _ (taken : IsTakenIn (set hands place new) of keeper after v) where
      standing_there : standing_of after ≡ with_parts (standing_of (get_or (set hands place new) of old)) (right_of v).parts
      standing_there = taken.standing ∙ ap (λ (h : Hand). with_parts (standing_of h) (right_of v).parts) (value_at taken.value)

      taken_there : (own_view after).taken ≡ (own_view (get_or (set hands place new) of old)).taken ++ taken_by v
      taken_there = taken.taken ∙ ap (λ (h : Hand). (own_view h).taken ++ taken_by v) (value_at taken.value)

      others_there : after.others.items ≡ (get_or (set hands place new) of old).others.items
      others_there = ap (λ o. o.items) taken.others ∙ ap (λ (h : Hand). h.others.items) (value_at taken.value)

      drawn_there : drawn_of after ≡ drawn_of (get_or (set hands place new) of old)
      drawn_there = taken.drawn ∙ ap drawn_of (value_at taken.value)

      done_there : is_done after ≡ is_done (get_or (set hands place new) of old)
      done_there = taken.done ∙ ap is_done (value_at taken.value)

      pub returned_whole : AreWhole (map standing_of (set (set hands place new) of after))
      returned_whole = given_whole hands place of old new after v released.place_in whole is last_at standing_at own_at drawn_at done_at standing_there taken_there others_there drawn_there done_there

      pub returned_kept : AreKept hands (set (set hands place new) of after)
      returned_kept = given_kept hands place of old new after v released.place_in whole is last_at standing_at own_at drawn_at done_at standing_there taken_there others_there drawn_there done_there

      pub returned_others : (i : ℕ) → i ≢ place → rights_at i (set (set hands place new) of after) ≡ rights_at i hands
      returned_others = given_others hands place of old new after v released.place_in whole is last_at standing_at own_at drawn_at done_at standing_there taken_there others_there drawn_there done_there

      pub returned_fewer : length (rights_at place (set (set hands place new) of after)) < length (rights_at place hands)
      returned_fewer = given_fewer hands place of old new after v released.place_in whole is last_at standing_at own_at drawn_at done_at standing_there taken_there others_there drawn_there done_there

-- where there was no right
nil_of : {X : Type 0} (xs ys : List X) → xs ++ ys ≡ [] → xs ≡ []
nil_of [] ys e = refl
nil_of (x ∷ xs) ys e = let l : length ((x ∷ xs) ++ ys) ≡ 0 = ap length e in absurd (omega arith)

module _ (hands : List Hand) (place : ℕ) (old new : Hand) (released : IsReleased hands place old new) (none : old.others.items ≡ []) (same : old.others.items ≡ new.others.items ++ []) where
  none_left : new.others.items ≡ []
  none_left = nil_of new.others.items [] (sym same ∙ none)

  standing_same : standing_of new ≡ standing_of (get_or hands place old)
  standing_same = released.standing ∙ ap (λ (os : List Victim). with_rights (standing_of old) (map right_of os)) (none_left ∙ sym none) ∙ ap standing_of released.value

  taken_same : taken_of new ≡ taken_of (get_or hands place old)
  taken_same = ap (λ (u : View). u.taken ++ flat_map taken_by new.others.items) released.own ∙ ap (λ (os : List Victim). (own_view old).taken ++ flat_map taken_by os) (none_left ∙ sym none) ∙ ap taken_of released.value

  rights_same : rights_of new ≡ rights_of (get_or hands place old)
  rights_same = ap (map right_of) (none_left ∙ sym none) ∙ ap rights_of released.value

  pub no_more_whole : AreWhole (map standing_of hands) → AreWhole (map standing_of (set hands place new))
  no_more_whole = subst AreWhole (sym (map_in_place standing_of hands place new old standing_same))

  pub no_more_kept : AreKept hands (set hands place new)
  no_more_kept = record {
    count = map_in_place count_of hands place new old (ap (λ (s : Standing). s.count) standing_same);
    dealt = map_in_place dealt_of hands place new old (ap (λ (s : Standing). s.dealt) standing_same);
    drawn = map_in_place drawn_of hands place new old (released.drawn ∙ ap drawn_of released.value);
    done = map_in_place is_done hands place new old (released.done ∙ ap is_done released.value);
    taken = record { weight = λ w. ap (sum_by w) (flat_same (map_in_place taken_of hands place new old taken_same)) };
  }
    where
      flat_same : map taken_of (set hands place new) ≡ map taken_of hands → flat_map taken_of (set hands place new) ≡ flat_map taken_of hands
      flat_same e = sym (flat_map-map (λ (x : List ℕ). x) taken_of (set hands place new)) ∙ ap (flat_map (λ (x : List ℕ). x)) e ∙ flat_map-map (λ (x : List ℕ). x) taken_of hands

  rights_all : map rights_of (set hands place new) ≡ map rights_of hands
  rights_all = map_in_place rights_of hands place new old rights_same

  pub no_more_others : (i : ℕ) → rights_at i (set hands place new) ≡ rights_at i hands
  no_more_others i = ap (λ (l : List (List Right)). get_or l i []) rights_all

  pub no_more_given : rights_at place (set hands place new) ≡ []
  no_more_given = no_more_others place ∙ get_or-map rights_of hands place old [] released.place_in ∙ ap rights_of (sym released.value) ∙ ap (map right_of) none
