-- The laws of membership in a set.
use Rattle.std.proofs.Common.{◌≡◌, ◌↔◌, ℕ, ◌<◌, List, [], ◌∷◌, ◌++◌, length, get_or, Bool, true, false, not, ℤ, pos, ◌+ℤ◌, ◌-ℤ◌, ◌≤ℤ◌, sym, ap, subst, arith}
use Rattle.std.proofs.lemmas.Int.{ints, clamps, by_lt_z}
use Rattle.std.proofs.lemmas.Bool.{both_ways, and_parts, not-true, not_from_false}
use Rattle.std.proofs.lemmas.List.Folds.{Any-from_list_any, list_any-from_Any, list_any_at}
use Rattle.std.proofs.lemmas.List.Elements.{All-nil, All-append}
use Rattle.std.specs.Int.{int_min, int_max}
use Rattle.std.specs.List.{All, Any, filter, flat_map, list_any}
use Rattle.std.specs.Prelude.{IsTrue}
use Rattle.tells.specs.declared.tell.Lit.{Lit}
use Rattle.tells.specs.declared.tell.Tell.{Tell}
use Rattle.interval.specs.Limits.{IsNumber, IsBound, bound_limit, largest_number, clamp_of, ClampOrder}
use Rattle.interval.specs.Boxes.{Bounds, low_of, high_of, IsPoint}
use Rattle.tells.specs.Words.{when, low_tell, high_tell, Keeps, literal_true, sign_true, sign_tell, is_sure, is_out, tell_true, tell_false, IsProperIn, IsInsideIn, AgreeIn, SameValuesIn, AreVariables, value_of, point_of}
use Rattle.extreme_tells.specs.Extremes.{least_over, greatest_over}
use Rattle.set_tells.specs.InSet.{has_number, has_all, has_some, ends_from, begins_by, membership_tells, from_tells, upto_tells, member_tells, past_tells, before_tells, gap_tells, in_set_tells, IsInSet, IsSet}
use Rattle.set_tells.proofs.Lists.{All-left, All-right, All-one, one-All, All-flat_map, flat_map-All, All-when, when-All}
use Rattle.set_tells.proofs.LiteralLaws.{sure_inside, out_inside}
use Rattle.set_tells.proofs.LiteralLaws.{sign_kept, kept_sign, by_bool, opposite_true, not_both}
use Rattle.set_tells.proofs.PlaceLaws.{IsPlaced, low_placed, high_placed, sign_placed, same_sure, same_out}
use Rattle.set_tells.proofs.CommonLaws.{looser_low, looser_high, value_low, number_high, true_there, true_here}
use Rattle.set_tells.proofs.ExtremeLaws.{least_each, least_cap, greatest_each, greatest_cap, filter_none, filter_all, filter_back, length_cases}
use Rattle.set_tells.proofs.InSetTells.{all_parts, all_from, some_parts, some_from, number_parts, number_from}

-- ---- lists of ranges

any_weaker : (p q : ℤ × ℤ → Bool) (ranges : List (ℤ × ℤ)) → ((r : ℤ × ℤ) → p r ≡ true → q r ≡ true) → list_any p ranges ≡ true → list_any q ranges ≡ true
any_weaker p q ranges follow e =
    let (i, r, h, at, t) = Any-from_list_any p ranges e in
    list_any-from_Any q ranges (i, r, h, at, follow r t)

-- the tell of the least number, where the list has some range
from_kept : (K : Tell → Type 0) (x : ℕ) (low : ℤ) (rs : List (ℤ × ℤ)) → (0 < length rs → K (low_tell x (least_over (λ s. int_max s.0 low) rs))) → All K (from_tells x low rs)
unfolding from_tells
from_kept K x low [] some = All-nil K
from_kept K x low (r ∷ rs) some = All-one K (low_tell x (least_over (λ s. int_max s.0 low) (r ∷ rs))) (some (omega arith))

kept_from : (K : Tell → Type 0) (x : ℕ) (low : ℤ) (rs : List (ℤ × ℤ)) → 0 < length rs → All K (from_tells x low rs) → K (low_tell x (least_over (λ s. int_max s.0 low) rs))
unfolding from_tells
kept_from K x low [] some all = absurd (omega arith)
kept_from K x low (r ∷ rs) some all = one-All K (low_tell x (least_over (λ s. int_max s.0 low) (r ∷ rs))) all

upto_kept : (K : Tell → Type 0) (x : ℕ) (high : ℤ) (rs : List (ℤ × ℤ)) → (0 < length rs → K (high_tell x (greatest_over (λ s. int_min s.1 high) rs))) → All K (upto_tells x high rs)
unfolding upto_tells
upto_kept K x high [] some = All-nil K
upto_kept K x high (r ∷ rs) some = All-one K (high_tell x (greatest_over (λ s. int_min s.1 high) (r ∷ rs))) (some (omega arith))

kept_upto : (K : Tell → Type 0) (x : ℕ) (high : ℤ) (rs : List (ℤ × ℤ)) → 0 < length rs → All K (upto_tells x high rs) → K (high_tell x (greatest_over (λ s. int_min s.1 high) rs))
unfolding upto_tells
kept_upto K x high [] some all = absurd (omega arith)
kept_upto K x high (r ∷ rs) some all = one-All K (high_tell x (greatest_over (λ s. int_min s.1 high) (r ∷ rs))) all

-- ---- monotone

-- a literal that is sure isn't told false
sign_told : ClampOrder → (b : Bounds) (s : Bool) (v : ℕ) → sign_true s (low_of b v) ≡ true → sign_true s (high_of b v) ≡ true → Keeps b (sign_tell (not s) v) → ⊥
unfolding bound_limit largest_number
sign_told clamped b true v e f k = let same : clamp_of (pos 0) ≡ pos 0 = clamped.same (pos 0) (omega arith) in omega (arith, ints)
sign_told clamped b false v e f k = let same : clamp_of (pos 1) ≡ pos 1 = clamped.same (pos 1) (omega arith) in omega (arith, ints)

sure_told : ClampOrder → (b : Bounds) (l : Lit) → is_sure l b ≡ true → Keeps b (tell_false l) → ⊥
unfolding is_sure
sure_told clamped b l e k =
    let parts = and_parts (literal_true l (low_of b l.var)) (literal_true l (high_of b l.var)) e in
    sign_told clamped b l.positive l.var parts.0 parts.1 k

-- the bounds one past a number, and one before
next_bound : (z : ℤ) → IsNumber z → IsBound (z +ℤ pos 1)
unfolding bound_limit
next_bound z n = omega (arith, ints)

last_bound : (z : ℤ) → IsNumber z → IsBound (z -ℤ pos 1)
unfolding bound_limit
last_bound z n = omega (arith, ints)

-- no range that ends from the low on, or none that begins by the high: the box has no number of the set
none_from : (low high : ℤ) (ranges : List (ℤ × ℤ)) → filter (ends_from low) ranges ≡ [] → list_any (has_some low high) ranges ≡ false
none_from low high ranges none = by_bool (list_any (has_some low high) ranges)
    (λ e.
    let (i, r, h, at, t) = Any-from_list_any (has_some low high) ranges e in
    let parts = some_parts low high r t in
    let own : true ≡ ends_from low r = omega (arith, ints) in
    let F : ℤ × ℤ → Type 0 = λ s. ends_from low s ≡ false in
    absurd (both_ways (ends_from low r) (subst F at (filter_none (ends_from low) ranges none i r h)) (sym own)))
    (λ f. f)

none_upto : (low high : ℤ) (ranges : List (ℤ × ℤ)) → filter (begins_by high) ranges ≡ [] → list_any (has_some low high) ranges ≡ false
none_upto low high ranges none = by_bool (list_any (has_some low high) ranges)
    (λ e.
    let (i, r, h, at, t) = Any-from_list_any (has_some low high) ranges e in
    let parts = some_parts low high r t in
    let own : true ≡ begins_by high r = omega (arith, ints) in
    let F : ℤ × ℤ → Type 0 = λ s. begins_by high s ≡ false in
    absurd (both_ways (begins_by high r) (subst F at (filter_none (begins_by high) ranges none i r h)) (sym own)))
    (λ f. f)

-- the least number from a greater bound on isn't less
least_from : (low low' : ℤ) (ranges : List (ℤ × ℤ)) → low' ≤ℤ low → 0 < length (filter (ends_from low) ranges)
    → least_over (λ s. int_max s.0 low') (filter (ends_from low') ranges) ≤ℤ least_over (λ s. int_max s.0 low) (filter (ends_from low) ranges)
least_from low low' ranges h some =
    let f = λ (s : ℤ × ℤ). int_max s.0 low in
    let f' = λ (s : ℤ × ℤ). int_max s.0 low' in
    let n' = least_over f' (filter (ends_from low') ranges) in
    least_cap f n' (filter (ends_from low) ranges) some (filter_all (ends_from low) (λ r. n' ≤ℤ f r) ranges (λ i d l t.
    let r = get_or ranges i d in
    let own : true ≡ ends_from low' r = omega (arith, ints) in
    let below = filter_back (ends_from low') (λ s. n' ≤ℤ f' s) ranges (least_each f' (filter (ends_from low') ranges)) i d l (sym own) in
    omega (arith, ints, clamps)))

greatest_upto : (high high' : ℤ) (ranges : List (ℤ × ℤ)) → high ≤ℤ high' → 0 < length (filter (begins_by high) ranges)
    → greatest_over (λ s. int_min s.1 high) (filter (begins_by high) ranges) ≤ℤ greatest_over (λ s. int_min s.1 high') (filter (begins_by high') ranges)
greatest_upto high high' ranges h some =
    let f = λ (s : ℤ × ℤ). int_min s.1 high in
    let f' = λ (s : ℤ × ℤ). int_min s.1 high' in
    let n' = greatest_over f' (filter (begins_by high') ranges) in
    greatest_cap f n' (filter (begins_by high) ranges) some (filter_all (begins_by high) (λ r. f r ≤ℤ n') ranges (λ i d l t.
    let r = get_or ranges i d in
    let own : true ≡ begins_by high' r = omega (arith, ints) in
    let above = filter_back (begins_by high') (λ s. f' s ≤ℤ n') ranges (greatest_each f' (filter (begins_by high') ranges)) i d l (sym own) in
    omega (arith, ints, clamps)))

module _ (clamped : ClampOrder) (inner : Bounds) (l : Lit) (x : ℕ) (ranges : List (ℤ × ℤ)) (is : IsSet ranges) (low' high' : ℤ)
    (own : low_of inner x ≤ℤ high_of inner x) (lower : low' ≤ℤ low_of inner x) (upper : high_of inner x ≤ℤ high') where
  membership_monotone : All (Keeps inner) (membership_tells l ranges (low_of inner x) (high_of inner x)) → All (Keeps inner) (membership_tells l ranges low' high')
  membership_monotone all =
      let K : Tell → Type 0 = Keeps inner in
      let low = low_of inner x in
      let high = high_of inner x in
      let trues = All-left K (when (list_any (has_all low high) ranges) (tell_true l ∷ [])) (when (not (list_any (has_some low high) ranges)) (tell_false l ∷ [])) all in
      let falses = All-right K (when (list_any (has_all low high) ranges) (tell_true l ∷ [])) (when (not (list_any (has_some low high) ranges)) (tell_false l ∷ [])) all in
      All-append K (when (list_any (has_all low' high') ranges) (tell_true l ∷ [])) (when (not (list_any (has_some low' high') ranges)) (tell_false l ∷ []))
      (All-when K (list_any (has_all low' high') ranges) (tell_true l ∷ []) (λ e. when-All K (list_any (has_all low high) ranges) (tell_true l ∷ [])
      (any_weaker (has_all low' high') (has_all low high) ranges (λ r t. (let p = all_parts low' high' r t in all_from low high r (omega (arith, ints)) (omega (arith, ints)))) e) trues))
      (All-when K (not (list_any (has_some low' high') ranges)) (tell_false l ∷ []) (λ e. when-All K (not (list_any (has_some low high) ranges)) (tell_false l ∷ [])
      (not_from_false _ (by_bool (list_any (has_some low high) ranges)
      (λ t. absurd (both_ways _ (not-true _ e) (any_weaker (has_some low high) (has_some low' high') ranges (λ r s. (let p = some_parts low high r s in some_from low' high' r (omega (arith, ints)) (omega (arith, ints)))) t)))
      (λ f. f))) falses))

  -- in a closed box some number of the set is left where the literal is sure
  some_left : is_sure l inner ≡ true → All (Keeps inner) (membership_tells l ranges (low_of inner x) (high_of inner x)) → list_any (has_some (low_of inner x) (high_of inner x)) ranges ≡ false → ⊥
  some_left e all none =
      let K : Tell → Type 0 = Keeps inner in
      let low = low_of inner x in
      let high = high_of inner x in
      let falses = All-right K (when (list_any (has_all low high) ranges) (tell_true l ∷ [])) (when (not (list_any (has_some low high) ranges)) (tell_false l ∷ [])) all in
      sure_told clamped inner l e (one-All K (tell_false l) (when-All K (not (list_any (has_some low high) ranges)) (tell_false l ∷ []) (not_from_false _ none) falses))

  member_monotone : is_sure l inner ≡ true → All (Keeps inner) (membership_tells l ranges (low_of inner x) (high_of inner x))
      → All (Keeps inner) (member_tells x ranges (low_of inner x) (high_of inner x)) → All (Keeps inner) (member_tells x ranges low' high')
  member_monotone e told all =
      let K : Tell → Type 0 = Keeps inner in
      let low = low_of inner x in
      let high = high_of inner x in
      let from = All-left K (from_tells x low (filter (ends_from low) ranges)) (upto_tells x high (filter (begins_by high) ranges)) all in
      let upto = All-right K (from_tells x low (filter (ends_from low) ranges)) (upto_tells x high (filter (begins_by high) ranges)) all in
      All-append K (from_tells x low' (filter (ends_from low') ranges)) (upto_tells x high' (filter (begins_by high') ranges))
      (from_kept K x low' (filter (ends_from low') ranges) (λ some'. length_cases (filter (ends_from low) ranges)
      (λ none. absurd (some_left e told (none_from low high ranges none)))
      (λ some. looser_low clamped inner x (least_over (λ s. int_max s.0 low) (filter (ends_from low) ranges)) (least_over (λ s. int_max s.0 low') (filter (ends_from low') ranges))
      (least_from low low' ranges lower some) (kept_from K x low (filter (ends_from low) ranges) some from))))
      (upto_kept K x high' (filter (begins_by high') ranges) (λ some'. length_cases (filter (begins_by high) ranges)
      (λ none. absurd (some_left e told (none_upto low high ranges none)))
      (λ some. looser_high clamped inner x (greatest_over (λ s. int_min s.1 high) (filter (begins_by high) ranges)) (greatest_over (λ s. int_min s.1 high') (filter (begins_by high') ranges))
      (greatest_upto high high' ranges upper some) (kept_upto K x high (filter (begins_by high) ranges) some upto))))

  gap_monotone : All (Keeps inner) (gap_tells x ranges (low_of inner x) (high_of inner x)) → All (Keeps inner) (gap_tells x ranges low' high')
  gap_monotone all =
      let K : Tell → Type 0 = Keeps inner in
      let low = low_of inner x in
      let high = high_of inner x in
      let d : ℤ × ℤ = (pos 0, pos 0) in
      let past = All-left K (flat_map (past_tells x low) ranges) (flat_map (before_tells x high) ranges) all in
      let before = All-right K (flat_map (past_tells x low) ranges) (flat_map (before_tells x high) ranges) all in
      All-append K (flat_map (past_tells x low') ranges) (flat_map (before_tells x high') ranges)
      (All-flat_map K (past_tells x low') ranges d (λ i h.
      let r = get_or ranges i d in
      All-when K (has_number low' r) (low_tell x (r.1 +ℤ pos 1) ∷ []) (λ t.
      let p = number_parts low' r t in
      All-one K (low_tell x (r.1 +ℤ pos 1)) (by_lt_z r.1 low
      (λ lt. (let same = clamped.same (r.1 +ℤ pos 1) (next_bound r.1 (is.lasts i d h)) in omega (arith, ints)))
      (λ le. one-All K (low_tell x (r.1 +ℤ pos 1)) (when-All K (has_number low r) (low_tell x (r.1 +ℤ pos 1) ∷ []) (number_from low r (omega (arith, ints)) le)
      (flat_map-All K (past_tells x low) ranges d past i h)))))))
      (All-flat_map K (before_tells x high') ranges d (λ i h.
      let r = get_or ranges i d in
      All-when K (has_number high' r) (high_tell x (r.0 -ℤ pos 1) ∷ []) (λ t.
      let p = number_parts high' r t in
      All-one K (high_tell x (r.0 -ℤ pos 1)) (by_lt_z high r.0
      (λ lt. (let same = clamped.same (r.0 -ℤ pos 1) (last_bound r.0 (is.firsts i d h)) in omega (arith, ints)))
      (λ le. one-All K (high_tell x (r.0 -ℤ pos 1)) (when-All K (has_number high r) (high_tell x (r.0 -ℤ pos 1) ∷ []) (number_from high r le (omega (arith, ints)))
      (flat_map-All K (before_tells x high) ranges d before i h)))))))

pub in_set_monotone : ClampOrder → (inner outer : Bounds) (l : Lit) (x : ℕ) (ranges : List (ℤ × ℤ)) → IsSet ranges → IsProperIn (l.var ∷ x ∷ []) inner → IsInsideIn (l.var ∷ x ∷ []) inner outer
    → All (Keeps inner) (in_set_tells l x ranges inner) → All (Keeps inner) (in_set_tells l x ranges outer)
in_set_monotone clamped inner outer l x ranges is proper inside all =
    let K : Tell → Type 0 = Keeps inner in
    let low = low_of inner x in
    let high = high_of inner x in
    let low' = low_of outer x in
    let high' = high_of outer x in
    let own = proper 1 (omega arith) in
    let lower = inside.lows 1 (omega arith) in
    let upper = inside.highs 1 (omega arith) in
    let told = All-left K (membership_tells l ranges low high) (when (is_sure l inner) (member_tells x ranges low high) ++ when (is_out l inner) (gap_tells x ranges low high)) all in
    let bounds = All-right K (membership_tells l ranges low high) (when (is_sure l inner) (member_tells x ranges low high) ++ when (is_out l inner) (gap_tells x ranges low high)) all in
    let sures = All-left K (when (is_sure l inner) (member_tells x ranges low high)) (when (is_out l inner) (gap_tells x ranges low high)) bounds in
    let outs = All-right K (when (is_sure l inner) (member_tells x ranges low high)) (when (is_out l inner) (gap_tells x ranges low high)) bounds in
    All-append K (membership_tells l ranges low' high') (when (is_sure l outer) (member_tells x ranges low' high') ++ when (is_out l outer) (gap_tells x ranges low' high'))
    (membership_monotone clamped inner l x ranges is low' high' own lower upper told)
    (All-append K (when (is_sure l outer) (member_tells x ranges low' high')) (when (is_out l outer) (gap_tells x ranges low' high'))
    (All-when K (is_sure l outer) (member_tells x ranges low' high') (λ e.
    let sure = sure_inside inner outer l (inside.lows 0 (omega arith)) (proper 0 (omega arith)) (inside.highs 0 (omega arith)) e in
    member_monotone clamped inner l x ranges is low' high' own lower upper sure told (when-All K (is_sure l inner) (member_tells x ranges low high) sure sures)))
    (All-when K (is_out l outer) (gap_tells x ranges low' high') (λ e.
    let out = out_inside inner outer l (inside.lows 0 (omega arith)) (proper 0 (omega arith)) (inside.highs 0 (omega arith)) e in
    gap_monotone clamped inner l x ranges is low' high' own lower upper (when-All K (is_out l inner) (gap_tells x ranges low high) out outs))))

-- ---- at a point

module _ (clamped : ClampOrder) (b : Bounds) (l : Lit) (x : ℕ) (ranges : List (ℤ × ℤ)) (fixed_l : low_of b l.var ≡ high_of b l.var) (fixed : low_of b x ≡ high_of b x) (number : IsNumber (low_of b x)) where
  -- the value is in the set exactly where a range has some number of the box, or all
  in_some : list_any (has_some (low_of b x) (high_of b x)) ranges ≡ true → Any (λ r. (r.0 ≤ℤ value_of (point_of b) x) × (value_of (point_of b) x ≤ℤ r.1)) ranges
  in_some e =
      let value = value_low b x fixed in
      let (i, r, h, at, t) = Any-from_list_any (has_some (low_of b x) (high_of b x)) ranges e in
      let p = some_parts (low_of b x) (high_of b x) r t in
      (i, r, h, at, (omega (arith, ints), omega (arith, ints)))

  some_in : Any (λ r. (r.0 ≤ℤ value_of (point_of b) x) × (value_of (point_of b) x ≤ℤ r.1)) ranges → list_any (has_some (low_of b x) (high_of b x)) ranges ≡ true
  some_in (i, r, h, at, p) =
      let value = value_low b x fixed in
      list_any-from_Any (has_some (low_of b x) (high_of b x)) ranges (i, r, h, at, some_from (low_of b x) (high_of b x) r (let a = p.0 in omega (arith, ints)) (let a = p.1 in omega (arith, ints)))

  in_all : Any (λ r. (r.0 ≤ℤ value_of (point_of b) x) × (value_of (point_of b) x ≤ℤ r.1)) ranges → list_any (has_all (low_of b x) (high_of b x)) ranges ≡ true
  in_all (i, r, h, at, p) =
      let value = value_low b x fixed in
      list_any-from_Any (has_all (low_of b x) (high_of b x)) ranges (i, r, h, at, all_from (low_of b x) (high_of b x) r (let a = p.0 in omega (arith, ints)) (let a = p.1 in omega (arith, ints)))

  all_in : list_any (has_all (low_of b x) (high_of b x)) ranges ≡ true → list_any (has_some (low_of b x) (high_of b x)) ranges ≡ true
  all_in e = any_weaker (has_all (low_of b x) (high_of b x)) (has_some (low_of b x) (high_of b x)) ranges (λ r t. (let p = all_parts (low_of b x) (high_of b x) r t in some_from (low_of b x) (high_of b x) r (omega (arith, ints)) (omega (arith, ints)))) e

  point_closed_holds : All (Keeps b) (in_set_tells l x ranges b) → IsInSet l x ranges (point_of b)
  point_closed_holds all =
      let K : Tell → Type 0 = Keeps b in
      let low = low_of b x in
      let high = high_of b x in
      let told = All-left K (membership_tells l ranges low high) (when (is_sure l b) (member_tells x ranges low high) ++ when (is_out l b) (gap_tells x ranges low high)) all in
      let trues = All-left K (when (list_any (has_all low high) ranges) (tell_true l ∷ [])) (when (not (list_any (has_some low high) ranges)) (tell_false l ∷ [])) told in
      let falses = All-right K (when (list_any (has_all low high) ranges) (tell_true l ∷ [])) (when (not (list_any (has_some low high) ranges)) (tell_false l ∷ [])) told in (
        λ t. by_bool (list_any (has_some low high) ranges) in_some (λ f.
            let kept = one-All K (tell_false l) (when-All K (not (list_any (has_some low high) ranges)) (tell_false l ∷ []) (not_from_false _ f) falses) in
            absurd (not_both l.positive (low_of b l.var) (true_here b l t) (kept_sign clamped b (not l.positive) l.var fixed_l kept))),
        λ any.
            let kept = one-All K (tell_true l) (when-All K (list_any (has_all low high) ranges) (tell_true l ∷ []) (in_all any) trues) in
            true_there b l (sym (kept_sign clamped b l.positive l.var fixed_l kept)),
      )

  least_low : (i : ℕ) (r : ℤ × ℤ) → i < length ranges → get_or ranges i r ≡ r → r.0 ≤ℤ high_of b x → low_of b x ≤ℤ r.1 → least_over (λ s. int_max s.0 (low_of b x)) (filter (ends_from (low_of b x)) ranges) ≤ℤ low_of b x
  least_low i r h at p q =
      let low = low_of b x in
      let n = least_over (λ (s : ℤ × ℤ). int_max s.0 low) (filter (ends_from low) ranges) in
      let s = get_or ranges i r in
      let first = ap (λ (z : ℤ × ℤ). z.0) at in
      let last = ap (λ (z : ℤ × ℤ). z.1) at in
      let own : true ≡ ends_from low s = omega (arith, ints) in
      let below = filter_back (ends_from low) (λ z. n ≤ℤ int_max z.0 low) ranges (least_each (λ (z : ℤ × ℤ). int_max z.0 low) (filter (ends_from low) ranges)) i r h (sym own) in
      omega (arith, ints, clamps)

  greatest_high : (i : ℕ) (r : ℤ × ℤ) → i < length ranges → get_or ranges i r ≡ r → r.0 ≤ℤ high_of b x → low_of b x ≤ℤ r.1 → high_of b x ≤ℤ greatest_over (λ s. int_min s.1 (high_of b x)) (filter (begins_by (high_of b x)) ranges)
  greatest_high i r h at p q =
      let high = high_of b x in
      let n = greatest_over (λ (s : ℤ × ℤ). int_min s.1 high) (filter (begins_by high) ranges) in
      let s = get_or ranges i r in
      let first = ap (λ (z : ℤ × ℤ). z.0) at in
      let last = ap (λ (z : ℤ × ℤ). z.1) at in
      let own : true ≡ begins_by high s = omega (arith, ints) in
      let above = filter_back (begins_by high) (λ z. int_min z.1 high ≤ℤ n) ranges (greatest_each (λ (z : ℤ × ℤ). int_min z.1 high) (filter (begins_by high) ranges)) i r h (sym own) in
      omega (arith, ints, clamps)

  has_low : (i : ℕ) → i < length ranges → has_number (low_of b x) (get_or ranges i (pos 0, pos 0)) ≡ true → list_any (has_some (low_of b x) (high_of b x)) ranges ≡ true
  has_low i h t =
      let r = get_or ranges i (pos 0, pos 0) in
      let p = number_parts (low_of b x) r t in
      list_any_at (has_some (low_of b x) (high_of b x)) ranges i (pos 0, pos 0) h (some_from (low_of b x) (high_of b x) r (omega (arith, ints)) (omega (arith, ints)))

  has_high : (i : ℕ) → i < length ranges → has_number (high_of b x) (get_or ranges i (pos 0, pos 0)) ≡ true → list_any (has_some (low_of b x) (high_of b x)) ranges ≡ true
  has_high i h t =
      let r = get_or ranges i (pos 0, pos 0) in
      let p = number_parts (high_of b x) r t in
      list_any_at (has_some (low_of b x) (high_of b x)) ranges i (pos 0, pos 0) h (some_from (low_of b x) (high_of b x) r (omega (arith, ints)) (omega (arith, ints)))

  point_holds_closed : IsInSet l x ranges (point_of b) → All (Keeps b) (in_set_tells l x ranges b)
  unfolding is_sure is_out
  point_holds_closed holds =
      let K : Tell → Type 0 = Keeps b in
      let low = low_of b x in
      let high = high_of b x in
      let d : ℤ × ℤ = (pos 0, pos 0) in
      let truth = literal_true l (low_of b l.var) in
      let inside : truth ≡ true → list_any (has_some low high) ranges ≡ true = λ t. some_in (holds.0 (true_there b l t)) in
      let found : list_any (has_some low high) ranges ≡ true → truth ≡ true = λ t. true_here b l (holds.1 (in_some t)) in
      All-append K (membership_tells l ranges low high) (when (is_sure l b) (member_tells x ranges low high) ++ when (is_out l b) (gap_tells x ranges low high))
      (All-append K (when (list_any (has_all low high) ranges) (tell_true l ∷ [])) (when (not (list_any (has_some low high) ranges)) (tell_false l ∷ []))
      (All-when K (list_any (has_all low high) ranges) (tell_true l ∷ []) (λ e. All-one K (tell_true l) (sign_kept clamped b l.positive l.var fixed_l (found (all_in e)))))
      (All-when K (not (list_any (has_some low high) ranges)) (tell_false l ∷ []) (λ e. All-one K (tell_false l)
      (by_bool truth
      (λ t. absurd (both_ways _ (not-true _ e) (inside t)))
      (λ f. sign_kept clamped b (not l.positive) l.var fixed_l (sym (opposite_true l.positive (low_of b l.var) f)))))))
      (All-append K (when (is_sure l b) (member_tells x ranges low high)) (when (is_out l b) (gap_tells x ranges low high))
      (All-when K (is_sure l b) (member_tells x ranges low high) (λ e.
      let (i, r, h, at, t) = Any-from_list_any (has_some low high) ranges (inside (and_parts truth (literal_true l (high_of b l.var)) e).0) in
      let p = some_parts low high r t in
      All-append K (from_tells x low (filter (ends_from low) ranges)) (upto_tells x high (filter (begins_by high) ranges))
      (from_kept K x low (filter (ends_from low) ranges) (λ some. (clamped.below_number low (least_over (λ s. int_max s.0 low) (filter (ends_from low) ranges)) number).1 (least_low i r h at p.0 p.1)))
      (upto_kept K x high (filter (begins_by high) ranges) (λ some. (clamped.above_number high (greatest_over (λ s. int_min s.1 high) (filter (begins_by high) ranges)) (number_high b x fixed number)).1 (greatest_high i r h at p.0 p.1)))))
      (All-when K (is_out l b) (gap_tells x ranges low high) (λ e.
      let f = not-true truth (and_parts (not truth) (not (literal_true l (high_of b l.var))) e).0 in
      All-append K (flat_map (past_tells x low) ranges) (flat_map (before_tells x high) ranges)
      (All-flat_map K (past_tells x low) ranges d (λ i h. All-when K (has_number low (get_or ranges i d)) (low_tell x ((get_or ranges i d).1 +ℤ pos 1) ∷ []) (λ t. absurd (both_ways truth f (found (has_low i h t))))))
      (All-flat_map K (before_tells x high) ranges d (λ i h. All-when K (has_number high (get_or ranges i d)) (high_tell x ((get_or ranges i d).0 -ℤ pos 1) ∷ []) (λ t. absurd (both_ways truth f (found (has_high i h t)))))))))

pub in_set_closed_holds : ClampOrder → (b : Bounds) (l : Lit) (x : ℕ) (ranges : List (ℤ × ℤ)) → AreVariables (length b) (l.var ∷ x ∷ []) → IsPoint b → ((v : ℕ) → v < length b → IsNumber (low_of b v))
    → All (Keeps b) (in_set_tells l x ranges b) → IsInSet l x ranges (point_of b)
in_set_closed_holds clamped b l x ranges variables point numbers =
    point_closed_holds clamped b l x ranges (point l.var (variables.each 0 (omega arith))) (point x (variables.each 1 (omega arith))) (numbers x (variables.each 1 (omega arith)))

pub in_set_holds_closed : ClampOrder → (b : Bounds) (l : Lit) (x : ℕ) (ranges : List (ℤ × ℤ)) → AreVariables (length b) (l.var ∷ x ∷ []) → IsPoint b → ((v : ℕ) → v < length b → IsNumber (low_of b v))
    → IsInSet l x ranges (point_of b) → All (Keeps b) (in_set_tells l x ranges b)
in_set_holds_closed clamped b l x ranges variables point numbers =
    point_holds_closed clamped b l x ranges (point l.var (variables.each 0 (omega arith))) (point x (variables.each 1 (omega arith))) (numbers x (variables.each 1 (omega arith)))

-- ---- where the tells are

pub in_set_placed : ClampOrder → (count : ℕ) (l : Lit) (x : ℕ) (ranges : List (ℤ × ℤ)) (b : Bounds) → AreVariables count (l.var ∷ x ∷ []) → All (IsPlaced count (l.var ∷ x ∷ [])) (in_set_tells l x ranges b)
in_set_placed clamped count l x ranges b variables =
    let vars = l.var ∷ x ∷ [] in
    let P : Tell → Type 0 = IsPlaced count vars in
    let low = low_of b x in
    let high = high_of b x in
    let d : ℤ × ℤ = (pos 0, pos 0) in
    let at_low : (z : ℤ) → P (low_tell x z) = λ z. low_placed clamped count vars variables 1 z (omega arith) in
    let at_high : (z : ℤ) → P (high_tell x z) = λ z. high_placed clamped count vars variables 1 z (omega arith) in
    All-append P (membership_tells l ranges low high) (when (is_sure l b) (member_tells x ranges low high) ++ when (is_out l b) (gap_tells x ranges low high))
    (All-append P (when (list_any (has_all low high) ranges) (tell_true l ∷ [])) (when (not (list_any (has_some low high) ranges)) (tell_false l ∷ []))
    (All-when P (list_any (has_all low high) ranges) (tell_true l ∷ []) (λ e. All-one P (tell_true l) (sign_placed clamped count vars variables l.positive 0 (omega arith))))
    (All-when P (not (list_any (has_some low high) ranges)) (tell_false l ∷ []) (λ e. All-one P (tell_false l) (sign_placed clamped count vars variables (not l.positive) 0 (omega arith)))))
    (All-append P (when (is_sure l b) (member_tells x ranges low high)) (when (is_out l b) (gap_tells x ranges low high))
    (All-when P (is_sure l b) (member_tells x ranges low high) (λ e. All-append P (from_tells x low (filter (ends_from low) ranges)) (upto_tells x high (filter (begins_by high) ranges))
    (from_kept P x low (filter (ends_from low) ranges) (λ some. at_low (least_over (λ s. int_max s.0 low) (filter (ends_from low) ranges))))
    (upto_kept P x high (filter (begins_by high) ranges) (λ some. at_high (greatest_over (λ s. int_min s.1 high) (filter (begins_by high) ranges))))))
    (All-when P (is_out l b) (gap_tells x ranges low high) (λ e. All-append P (flat_map (past_tells x low) ranges) (flat_map (before_tells x high) ranges)
    (All-flat_map P (past_tells x low) ranges d (λ i h. All-when P (has_number low (get_or ranges i d)) (low_tell x ((get_or ranges i d).1 +ℤ pos 1) ∷ []) (λ t. All-one P (low_tell x ((get_or ranges i d).1 +ℤ pos 1)) (at_low ((get_or ranges i d).1 +ℤ pos 1)))))
    (All-flat_map P (before_tells x high) ranges d (λ i h. All-when P (has_number high (get_or ranges i d)) (high_tell x ((get_or ranges i d).0 -ℤ pos 1) ∷ []) (λ t. All-one P (high_tell x ((get_or ranges i d).0 -ℤ pos 1)) (at_high ((get_or ranges i d).0 -ℤ pos 1))))))))

-- ---- the variables alone

pub in_set_local : (l : Lit) (x : ℕ) (ranges : List (ℤ × ℤ)) (b c : Bounds) → AgreeIn (l.var ∷ x ∷ []) b c → in_set_tells l x ranges b ≡ in_set_tells l x ranges c
in_set_local l x ranges b c agree =
    let low = agree.lows 1 (omega arith) in
    let high = agree.highs 1 (omega arith) in
    let sure = same_sure l b c (agree.lows 0 (omega arith)) (agree.highs 0 (omega arith)) in
    let out = same_out l b c (agree.lows 0 (omega arith)) (agree.highs 0 (omega arith)) in
    (λ k. membership_tells l ranges (low k) (high k) ++ (when (sure k) (member_tells x ranges (low k) (high k)) ++ when (out k) (gap_tells x ranges (low k) (high k))))

pub in_set_local_relation : (l : Lit) (x : ℕ) (ranges : List (ℤ × ℤ)) (f g : List ℤ) → SameValuesIn (l.var ∷ x ∷ []) f g → IsInSet l x ranges f → IsInSet l x ranges g
in_set_local_relation l x ranges f g same holds =
    let H : ℤ → ℤ → Type 0 = λ z v. IsTrue (literal_true l z) ↔ Any (λ r. (r.0 ≤ℤ v) × (v ≤ℤ r.1)) ranges in
    subst (λ v. H v (value_of g x)) (same 0 (omega arith)) (subst (H (value_of f l.var)) (same 1 (omega arith)) holds)
