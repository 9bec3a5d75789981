-- The tells of a membership by two places of the list of ranges.
use Rattle.std.proofs.Common.{◌≡◌, ◌≢◌, ℕ, zero, suc, ◌+◌, ◌-◌, ◌<◌, ◌≤◌, List, [], ◌∷◌, ◌++◌, length, get_or, true, false, not, ℤ, pos, ◌+ℤ◌, ◌-ℤ◌, ◌≤ℤ◌, ◌<ℤ◌, refl, sym, ap, subst, ◌∙◌, ⊎_elim, arith}
use Rattle.std.proofs.lemmas.Int.{ints, clamps}
use Rattle.std.proofs.lemmas.Bool.{both_ways, and_parts, and_from, cases_lt}
use Rattle.std.proofs.lemmas.List.{get_or_default}
use Rattle.std.specs.Int.{int_min, int_max}
use Rattle.std.specs.Int.RustNames.{int_lt, int_le}
use Rattle.std.specs.List.{filter, flat_map, list_any}
use Rattle.std.specs.List.Sorted.{IsPartitionPoint, IsPartitionedBy}
use Rattle.interval.specs.Boxes.{Bounds, low_of, high_of}
use Rattle.tells.specs.declared.tell.Lit.{Lit}
use Rattle.tells.specs.Words.{low_tell, high_tell, when, is_sure, is_out, tell_true, tell_false}
use Rattle.extreme_tells.specs.Extremes.{least_with, greatest_with, least_over, greatest_over}
use Rattle.set_tells.specs.InSet.{has_number, has_all, has_some, ends_from, begins_by, from_tells, upto_tells, past_tells, before_tells, in_set_tells, in_set_tells_at, IsSet}
use Rattle.extreme_tells.specs.Extremes.{at_place, last_of}
use Rattle.set_tells.proofs.ExtremeLaws.{least_each, least_cap, greatest_each, greatest_cap, filter_none, filter_all, filter_empty, filter_back}
use Rattle.set_tells.proofs.ListPlaces.{at_yes, at_no, last_yes, last_no, list_any_at_place, flat_map_nothing, flat_map_at_place, no_true, when_no}

-- ---- the tells by the least and the greatest

told_from : (x : ℕ) (low : ℤ) (r : ℤ × ℤ) (rs : List (ℤ × ℤ)) → rs ≢ [] → least_over (λ s. int_max s.0 low) rs ≡ int_max r.0 low → from_tells x low rs ≡ from_tells x low (r ∷ [])
unfolding from_tells least_over least_with
told_from x low r [] some e = absurd (some refl)
told_from x low r (s ∷ rs) some e = (λ k. low_tell x (e k) ∷ [])

told_upto : (x : ℕ) (high : ℤ) (r : ℤ × ℤ) (rs : List (ℤ × ℤ)) → rs ≢ [] → greatest_over (λ s. int_min s.1 high) rs ≡ int_min r.1 high → upto_tells x high rs ≡ upto_tells x high (r ∷ [])
unfolding upto_tells greatest_over greatest_with
told_upto x high r [] some e = absurd (some refl)
told_upto x high r (s ∷ rs) some e = (λ k. high_tell x (e k) ∷ [])

-- ---- the tells of one place

pub from_at : (x : ℕ) (low : ℤ) (ranges : List (ℤ × ℤ)) (i : ℕ) (d : ℤ × ℤ) → i < length ranges → from_tells x low (at_place ranges i) ≡ low_tell x (int_max (get_or ranges i d).0 low) ∷ []
unfolding from_tells least_over least_with
from_at x low ranges i d h = ap (from_tells x low) (at_yes ranges i d h)

pub from_nothing : (x : ℕ) (low : ℤ) (ranges : List (ℤ × ℤ)) (i : ℕ) → length ranges ≤ i → from_tells x low (at_place ranges i) ≡ []
unfolding from_tells
from_nothing x low ranges i h = ap (from_tells x low) (at_no ranges i h)

pub upto_at : (x : ℕ) (high : ℤ) (ranges : List (ℤ × ℤ)) (count : ℕ) (d : ℤ × ℤ) → 0 < count → count ≤ length ranges → upto_tells x high (last_of ranges count) ≡ high_tell x (int_min (get_or ranges (count - 1) d).1 high) ∷ []
unfolding upto_tells greatest_over greatest_with
upto_at x high ranges count d h k = ap (upto_tells x high) (last_yes ranges count d h k)

pub upto_nothing : (x : ℕ) (high : ℤ) (ranges : List (ℤ × ℤ)) (count : ℕ) → count ≤ 0 → upto_tells x high (last_of ranges count) ≡ []
unfolding upto_tells
upto_nothing x high ranges count h = ap (upto_tells x high) (last_no ranges count h)

some_length : {X : Type 0} (xs : List X) → xs ≢ [] → 0 < length xs
some_length [] some = absurd (some refl)
some_length (x ∷ xs) some = omega arith

-- ---- what the tests say

pub all_parts : (low high : ℤ) (r : ℤ × ℤ) → has_all low high r ≡ true → (r.0 ≤ℤ low) × (high ≤ℤ r.1)
all_parts low high r t = let parts = and_parts (int_le r.0 low) (int_le high r.1) t in (omega (arith, ints), omega (arith, ints))

pub all_from : (low high : ℤ) (r : ℤ × ℤ) → r.0 ≤ℤ low → high ≤ℤ r.1 → has_all low high r ≡ true
all_from low high r p q =
    let one : true ≡ int_le r.0 low = omega (arith, ints) in
    let two : true ≡ int_le high r.1 = omega (arith, ints) in
    and_from (int_le r.0 low) (int_le high r.1) (sym one) (sym two)

pub some_parts : (low high : ℤ) (r : ℤ × ℤ) → has_some low high r ≡ true → (r.0 ≤ℤ high) × (low ≤ℤ r.1)
some_parts low high r t = let parts = and_parts (int_le r.0 high) (int_le low r.1) t in (omega (arith, ints), omega (arith, ints))

pub some_from : (low high : ℤ) (r : ℤ × ℤ) → r.0 ≤ℤ high → low ≤ℤ r.1 → has_some low high r ≡ true
some_from low high r p q =
    let one : true ≡ int_le r.0 high = omega (arith, ints) in
    let two : true ≡ int_le low r.1 = omega (arith, ints) in
    and_from (int_le r.0 high) (int_le low r.1) (sym one) (sym two)

pub number_parts : (z : ℤ) (r : ℤ × ℤ) → has_number z r ≡ true → (r.0 ≤ℤ z) × (z ≤ℤ r.1)
number_parts z r t = let parts = and_parts (int_le r.0 z) (int_le z r.1) t in (omega (arith, ints), omega (arith, ints))

pub number_from : (z : ℤ) (r : ℤ × ℤ) → r.0 ≤ℤ z → z ≤ℤ r.1 → has_number z r ≡ true
number_from z r p q =
    let one : true ≡ int_le r.0 z = omega (arith, ints) in
    let two : true ≡ int_le z r.1 = omega (arith, ints) in
    and_from (int_le r.0 z) (int_le z r.1) (sym one) (sym two)

-- ---- the places of a set's ranges

module _ (ranges : List (ℤ × ℤ)) (is : IsSet ranges) where
  -- a later range begins after an earlier ends
  later : (i j : ℕ) (d : ℤ × ℤ) → i < j → j < length ranges → (get_or ranges i d).1 <ℤ (get_or ranges j d).0
  later i j d h k = let a = is.apart i j d h k in omega (arith, ints)

  pub ends_parted : (low : ℤ) → IsPartitionedBy (λ r. int_lt r.1 low) ranges
  ends_parted low i j d h k t = ⊎_elim
      (λ less.
      let a = later i j d less k in
      let o = is.ordered j d k in
      let e : true ≡ int_lt (get_or ranges i d).1 low = omega (arith, ints) in
      sym e)
      (λ more. let same : j ≡ i = omega arith in subst (λ n. int_lt (get_or ranges n d).1 low ≡ true) same t)
      (cases_lt i j)

  pub begins_parted : (high : ℤ) → IsPartitionedBy (λ r. int_le r.0 high) ranges
  begins_parted high i j d h k t = ⊎_elim
      (λ less.
      let a = later i j d less k in
      let o = is.ordered i d (omega arith) in
      let e : true ≡ int_le (get_or ranges i d).0 high = omega (arith, ints) in
      sym e)
      (λ more. let same : j ≡ i = omega arith in subst (λ n. int_le (get_or ranges n d).0 high ≡ true) same t)
      (cases_lt i j)

  module _ (low : ℤ) (first : ℕ) (ends : IsPartitionPoint (λ r. int_lt r.1 low ≡ true) (λ r. int_lt r.1 low ≡ false) ranges first) where
    ended : (k : ℕ) (d : ℤ × ℤ) → k < first → (get_or ranges k d).1 <ℤ low
    ended k d h = let e = ends.0 k d (omega arith) h in omega (arith, ints)

    lasting : (k : ℕ) (d : ℤ × ℤ) → first ≤ k → k < length ranges → low ≤ℤ (get_or ranges k d).1
    lasting k d h l = let e = ends.1 k d h l in omega (arith, ints)

    all_same : (high : ℤ) → low ≤ℤ high → list_any (has_all low high) ranges ≡ list_any (has_all low high) (at_place ranges first)
    all_same high proper = list_any_at_place (has_all low high) ranges first
        (λ k d h l. no_true (has_all low high (get_or ranges k d)) (λ t. (let a = ended k d h in let p = all_parts low high (get_or ranges k d) t in omega (arith, ints))))
        (λ k d h l t. (let a = later first k d h l in let o = lasting first d (omega arith) (omega arith) in let p = all_parts low high (get_or ranges k d) t in absurd (omega (arith, ints))))

    some_same : (high : ℤ) → list_any (has_some low high) ranges ≡ list_any (has_some low high) (at_place ranges first)
    some_same high = list_any_at_place (has_some low high) ranges first
        (λ k d h l. no_true (has_some low high (get_or ranges k d)) (λ t. (let a = ended k d h in let p = some_parts low high (get_or ranges k d) t in omega (arith, ints))))
        (λ k d h l t.
        let a = later first k d h l in
        let o = is.ordered first d (omega arith) in
        let p = some_parts low high (get_or ranges k d) t in
        some_from low high (get_or ranges first d) (omega (arith, ints)) (lasting first d (omega arith) (omega arith)))

    past_none : (k : ℕ) (d : ℤ × ℤ) → k ≢ first → k < length ranges → has_number low (get_or ranges k d) ≡ true → ⊥
    past_none k d n l t =
        let p = number_parts low (get_or ranges k d) t in
        ⊎_elim
        (λ less. (let a = ended k d less in omega (arith, ints)))
        (λ more. (let a = later first k d (omega arith) l in let o = lasting first d (omega arith) (omega arith) in omega (arith, ints)))
        (cases_lt k first)

    past_same : (x : ℕ) → flat_map (past_tells x low) ranges ≡ flat_map (past_tells x low) (at_place ranges first)
    past_same x = flat_map_at_place (past_tells x low) ranges first (λ k d n l.
        let r = get_or ranges k d in
        when_no (has_number low r) (low_tell x (r.1 +ℤ pos 1) ∷ []) (past_none k d n l))

    passing : (k : ℕ) (d : ℤ × ℤ) → ends_from low (get_or ranges k d) ≡ true → first ≤ k
    passing k d t = ⊎_elim (λ less. (let a = ended k d less in absurd (omega (arith, ints)))) (λ more. more) (cases_lt k first)

    from_none : (x : ℕ) → length ranges ≤ first → from_tells x low (filter (ends_from low) ranges) ≡ from_tells x low (at_place ranges first)
    from_none x none =
        let empty = filter_empty (ends_from low) ranges (λ k d l. no_true (ends_from low (get_or ranges k d)) (λ t. (let p = passing k d t in omega arith))) in
        ap (from_tells x low) (empty ∙ sym (at_no ranges first none))

    first_least : first < length ranges → (k : ℕ) (d e : ℤ × ℤ) → k < length ranges → first ≤ k → int_max (get_or ranges first d).0 low ≤ℤ int_max (get_or ranges k e).0 low
    first_least h k d e l m = ⊎_elim
        (λ less.
        let a = later first k e less l in
        let o = is.ordered first e (omega arith) in
        let same = get_or_default ranges first d e h in
        let begins : (get_or ranges first d).0 ≤ℤ (get_or ranges k e).0 = (let s = ap (λ (r : ℤ × ℤ). r.0) same in omega (arith, ints)) in
        omega (arith, ints, clamps))
        (λ more.
        let same : k ≡ first = omega arith in
        let equal = ap (λ n. get_or ranges n e) same ∙ get_or_default ranges first e d h in
        let begins = ap (λ (r : ℤ × ℤ). r.0) equal in
        omega (arith, ints, clamps))
        (cases_lt first k)

    from_some : (x : ℕ) → first < length ranges → from_tells x low (filter (ends_from low) ranges) ≡ from_tells x low (at_place ranges first)
    from_some x h =
        let d : ℤ × ℤ = (pos 0, pos 0) in
        let r = get_or ranges first d in
        let f = λ (s : ℤ × ℤ). int_max s.0 low in
        let found = filter (ends_from low) ranges in
        let o = lasting first d (omega arith) h in
        let own : true ≡ ends_from low r = omega (arith, ints) in
        let some : found ≢ [] = λ none. both_ways (ends_from low r) (filter_none (ends_from low) ranges none first d h) (sym own) in
        let below : least_over f found ≤ℤ f r = filter_back (ends_from low) (λ s. least_over f found ≤ℤ f s) ranges (least_each f found) first d h (sym own) in
        let above : f r ≤ℤ least_over f found = least_cap f (f r) found (some_length found some)
        (filter_all (ends_from low) (λ s. f r ≤ℤ f s) ranges (λ k e l t. first_least h k d e l (passing k e t))) in
        told_from x low r found some (omega (arith, ints)) ∙ ap (from_tells x low) (sym (at_yes ranges first d h))

    pub from_same : (x : ℕ) → from_tells x low (filter (ends_from low) ranges) ≡ from_tells x low (at_place ranges first)
    from_same x = ⊎_elim (from_some x) (from_none x) (cases_lt first (length ranges))

  module _ (high : ℤ) (count : ℕ) (few : count ≤ length ranges) (begins : IsPartitionPoint (λ r. int_le r.0 high ≡ true) (λ r. int_le r.0 high ≡ false) ranges count) where
    begun : (k : ℕ) (d : ℤ × ℤ) → k < count → (get_or ranges k d).0 ≤ℤ high
    begun k d h = let e = begins.0 k d (omega arith) h in omega (arith, ints)

    not_begun : (k : ℕ) (d : ℤ × ℤ) → count ≤ k → k < length ranges → high <ℤ (get_or ranges k d).0
    not_begun k d h l = let e = begins.1 k d h l in omega (arith, ints)

    beginning : (k : ℕ) (d : ℤ × ℤ) → k < length ranges → begins_by high (get_or ranges k d) ≡ true → k < count
    beginning k d l t = ⊎_elim (λ less. less) (λ more. (let a = not_begun k d more l in absurd (omega (arith, ints)))) (cases_lt k count)

    before_none : (i k : ℕ) (d : ℤ × ℤ) → count ≤ i + 1 → i < count → k ≢ i → k < length ranges → has_number high (get_or ranges k d) ≡ true → ⊥
    before_none i k d more less n l t =
        let p = number_parts high (get_or ranges k d) t in
        ⊎_elim
        (λ lower. (let a = later k i d lower (omega arith) in let o = begun i d less in omega (arith, ints)))
        (λ upper. (let a = not_begun k d (omega arith) l in omega (arith, ints)))
        (cases_lt k i)

    before_some : (x i : ℕ) → count ≡ suc i → flat_map (before_tells x high) ranges ≡ flat_map (before_tells x high) (last_of ranges count)
    before_some x i e =
        flat_map_at_place (before_tells x high) ranges i (λ k d n l.
        let r = get_or ranges k d in
        when_no (has_number high r) (high_tell x (r.0 -ℤ pos 1) ∷ []) (before_none i k d (omega arith) (omega arith) n l))
        ∙ ap (λ n. flat_map (before_tells x high) (last_of ranges n)) (sym e)

    none_by : (k : ℕ) (d : ℤ × ℤ) → count ≡ 0 → k < length ranges → begins_by high (get_or ranges k d) ≡ false
    none_by k d e l = no_true (begins_by high (get_or ranges k d)) (λ t. (let p = beginning k d l t in omega arith))

    before_nothing : (x : ℕ) → count ≡ 0 → flat_map (before_tells x high) ranges ≡ flat_map (before_tells x high) (last_of ranges count)
    before_nothing x e =
        flat_map_nothing (before_tells x high) ranges (λ k d l.
        let r = get_or ranges k d in
        when_no (has_number high r) (high_tell x (r.0 -ℤ pos 1) ∷ []) (λ t. both_ways (begins_by high r) (none_by k d e l) (and_parts (int_le r.0 high) (int_le high r.1) t).0))
        ∙ ap (λ n. flat_map (before_tells x high) (last_of ranges n)) (sym e)

    upto_none : (x : ℕ) → count ≡ 0 → upto_tells x high (filter (begins_by high) ranges) ≡ upto_tells x high (last_of ranges count)
    upto_none x e =
        ap (upto_tells x high) (filter_empty (begins_by high) ranges (λ k d l. none_by k d e l))
        ∙ ap (λ n. upto_tells x high (last_of ranges n)) (sym e)

    last_greatest : (i : ℕ) → i < length ranges → (k : ℕ) (d e : ℤ × ℤ) → k ≤ i → int_min (get_or ranges k e).1 high ≤ℤ int_min (get_or ranges i d).1 high
    last_greatest i h k d e m = ⊎_elim
        (λ less.
        let a = later k i e less h in
        let o = is.ordered i e h in
        let same = get_or_default ranges i d e h in
        let ends : (get_or ranges k e).1 ≤ℤ (get_or ranges i d).1 = (let s = ap (λ (r : ℤ × ℤ). r.1) same in omega (arith, ints)) in
        omega (arith, ints, clamps))
        (λ more.
        let same : k ≡ i = omega arith in
        let equal = ap (λ n. get_or ranges n e) same ∙ get_or_default ranges i e d h in
        let ends = ap (λ (r : ℤ × ℤ). r.1) equal in
        omega (arith, ints, clamps))
        (cases_lt k i)

    upto_some : (x i : ℕ) → count ≡ suc i → upto_tells x high (filter (begins_by high) ranges) ≡ upto_tells x high (last_of ranges count)
    upto_some x i e =
        let d : ℤ × ℤ = (pos 0, pos 0) in
        let h : i < length ranges = omega arith in
        let r = get_or ranges i d in
        let f = λ (s : ℤ × ℤ). int_min s.1 high in
        let found = filter (begins_by high) ranges in
        let o = begun i d (omega arith) in
        let own : true ≡ begins_by high r = omega (arith, ints) in
        let some : found ≢ [] = λ none. both_ways (begins_by high r) (filter_none (begins_by high) ranges none i d h) (sym own) in
        let above : f r ≤ℤ greatest_over f found = filter_back (begins_by high) (λ s. f s ≤ℤ greatest_over f found) ranges (greatest_each f found) i d h (sym own) in
        let below : greatest_over f found ≤ℤ f r = greatest_cap f (f r) found (some_length found some)
        (filter_all (begins_by high) (λ s. f s ≤ℤ f r) ranges (λ k q l t. (let b = beginning k q l t in last_greatest i h k d q (omega arith)))) in
        told_upto x high r found some (omega (arith, ints))
        ∙ ap (upto_tells x high) (sym (at_yes ranges i d h))
        ∙ ap (λ n. upto_tells x high (last_of ranges n)) (sym e)

by_count : {P : Type 0} (count : ℕ) → (count ≡ 0 → P) → ((i : ℕ) → count ≡ suc i → P) → P
by_count zero none some = none refl
by_count (suc i) none some = some i refl

-- the tells are those by the two places
pub in_set_by_places : (l : Lit) (x : ℕ) (ranges : List (ℤ × ℤ)) (b : Bounds) (first count : ℕ) → IsSet ranges → low_of b x ≤ℤ high_of b x → count ≤ length ranges
    → IsPartitionPoint (λ r. int_lt r.1 (low_of b x) ≡ true) (λ r. int_lt r.1 (low_of b x) ≡ false) ranges first
    → IsPartitionPoint (λ r. int_le r.0 (high_of b x) ≡ true) (λ r. int_le r.0 (high_of b x) ≡ false) ranges count
    → in_set_tells l x ranges b ≡ in_set_tells_at l x ranges first count b
in_set_by_places l x ranges b first count is proper few ends begins =
    let low = low_of b x in
    let high = high_of b x in
    let all = all_same ranges is low first ends high proper in
    let some = some_same ranges is low first ends high in
    let from = from_same ranges is low first ends x in
    let past = past_same ranges is low first ends x in
    let upto = by_count count (upto_none ranges is high count few begins x) (upto_some ranges is high count few begins x) in
    let before = by_count count (before_nothing ranges is high count few begins x) (before_some ranges is high count few begins x) in
    (λ k. (when (all k) (tell_true l ∷ []) ++ when (not (some k)) (tell_false l ∷ []))
    ++ (when (is_sure l b) (from k ++ upto k) ++ when (is_out l b) (past k ++ before k)))
