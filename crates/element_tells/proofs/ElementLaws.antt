-- The laws of the element at a place of a list.
use Rattle.std.proofs.Common.{◌≡◌, ℕ, zero, suc, ◌+◌, ◌<◌, ◌≤◌, List, [], ◌∷◌, ◌++◌, length, get_or, true, ◌&&◌, ℤ, pos, negsuc, ◌≤ℤ◌, refl, sym, ap, subst, ◌∙◌, arith}
use Rattle.std.proofs.lemmas.Int.{ints}
use Rattle.std.proofs.lemmas.Bool.{both_ways}
use Rattle.std.proofs.lemmas.List.Elements.{All-cons, All-append}
use Rattle.std.specs.Int.RustNames.{int_le}
use Rattle.std.specs.Ordering.{int_eq}
use Rattle.std.specs.List.{All, filter, flat_map}
use Rattle.tells.specs.declared.tell.Tell.{Tell}
use Rattle.interval.specs.Limits.{IsNumber, bound_limit, largest_number, clamp_of, ClampOrder}
use Rattle.interval.specs.Boxes.{Bounds, low_of, high_of, IsPoint}
use Rattle.tells.specs.Words.{when, low_tell, high_tell, Keeps, IsProperIn, IsInsideIn, AgreeIn, SameValuesIn, AreVariables, value_of, point_of}
use Rattle.extreme_tells.specs.Extremes.{member_limit, least_over, greatest_over}
use Rattle.element_tells.specs.Element.{places_of, between_tells, can_be, hull_tells, equal_tells, is_fixed_to, fixed_tells, element_tells, IsElement}
use Rattle.element_tells.proofs.Lists.{All-left, All-right, All-one, one-All, All-flat_map, flat_map-All, flat_map_same, All-when, when-All}
use Rattle.element_tells.proofs.LiteralLaws.{by_bool}
use Rattle.element_tells.proofs.PlaceLaws.{IsPlaced, low_placed, high_placed}
use Rattle.element_tells.proofs.CommonLaws.{past_all, looser_low, looser_high, value_low, number_high}
use Rattle.element_tells.proofs.ExtremeLaws.{least_each, greatest_each, least_same, greatest_same, least_of_fewer, greatest_of_fewer, filter_none, filter_empty, filter_back, filter_all, filter_same, length_cases, passed}
use Rattle.element_tells.proofs.ElementTells.{can_parts, can_from, length-places, get_or-places, fixed_parts, fixed_from}

All-four : {X : Type 0} (K : X → Type 0) (s t u v : X) → K s → K t → K u → K v → All K (s ∷ t ∷ u ∷ v ∷ [])
All-four K s t u v p q r o = All-cons K s (t ∷ u ∷ v ∷ []) p (All-cons K t (u ∷ v ∷ []) q (All-cons K u (v ∷ []) r (All-one K v o)))

-- what holds of each place
each_place : (P : ℕ × ℕ → Type 0) (entries : List ℕ) → ((i : ℕ) → i < length entries → P (i + 1, get_or entries i 0)) → All P (places_of entries)
each_place P entries f i d h =
    let inside : i < length entries = omega (arith, length-places entries) in
    subst P (sym (get_or-places entries i d inside)) (f i inside)

-- ---- the hull of some places

abbrev first_of : List (ℕ × ℕ) → ℤ
first_of ps = least_over (λ q. pos q.0) ps

abbrev last_of : List (ℕ × ℕ) → ℤ
last_of ps = greatest_over (λ q. pos q.0) ps

abbrev lowest_of : Bounds → List (ℕ × ℕ) → ℤ
lowest_of b ps = least_over (λ q. low_of b q.1) ps

abbrev highest_of : Bounds → List (ℕ × ℕ) → ℤ
highest_of b ps = greatest_over (λ q. high_of b q.1) ps

hull_some : (x c : ℕ) (b : Bounds) (ps : List (ℕ × ℕ)) → 0 < length ps → hull_tells x c b ps ≡ between_tells x (first_of ps) (last_of ps) ++ between_tells c (lowest_of b ps) (highest_of b ps)
unfolding hull_tells
hull_some x c b [] some = absurd (omega arith)
hull_some x c b (p ∷ ps) some = refl

hull_none : (x c : ℕ) (b : Bounds) (ps : List (ℕ × ℕ)) → ps ≡ [] → hull_tells x c b ps ≡ low_tell x (pos bound_limit) ∷ []
unfolding hull_tells
hull_none x c b ps e = ap (hull_tells x c b) e

hull_all : (K : Tell → Type 0) (x c : ℕ) (b : Bounds) (ps : List (ℕ × ℕ)) → 0 < length ps
    → K (low_tell x (first_of ps)) → K (high_tell x (last_of ps)) → K (low_tell c (lowest_of b ps)) → K (high_tell c (highest_of b ps)) → All K (hull_tells x c b ps)
hull_all K x c b ps some p q r o =
    let A : List Tell → Type 0 = λ ts. All K ts in
    subst A (sym (hull_some x c b ps some)) (All-four K (low_tell x (first_of ps)) (high_tell x (last_of ps)) (low_tell c (lowest_of b ps)) (high_tell c (highest_of b ps)) p q r o)

-- ---- monotone

module _ (clamped : ClampOrder) (x c : ℕ) (entries : List ℕ) (inner outer : Bounds) (short : length entries ≤ member_limit) (proper : IsProperIn (x ∷ c ∷ entries) inner) (inside : IsInsideIn (x ∷ c ∷ entries) inner outer) where
  lows : All (λ p. low_of outer p.1 ≤ℤ low_of inner p.1) (places_of entries)
  lows = each_place (λ p. low_of outer p.1 ≤ℤ low_of inner p.1) entries (λ i h. inside.lows (suc (suc i)) (omega arith))

  highs : All (λ p. high_of inner p.1 ≤ℤ high_of outer p.1) (places_of entries)
  highs = each_place (λ p. high_of inner p.1 ≤ℤ high_of outer p.1) entries (λ i h. inside.highs (suc (suc i)) (omega arith))

  follow : All (λ p. can_be x c inner p ≡ true → can_be x c outer p ≡ true) (places_of entries)
  follow i d h t =
      let p = get_or (places_of entries) i d in
      let can = can_parts x c inner p t in
      let low = lows i d h in
      let high = highs i d h in
      let low_x = inside.lows 0 (omega arith) in
      let high_x = inside.highs 0 (omega arith) in
      let low_c = inside.lows 1 (omega arith) in
      let high_c = inside.highs 1 (omega arith) in
      let from = can.from in
      let upto = can.upto in
      let below = can.below in
      let above = can.above in
      can_from x c outer p (record { from = omega (arith, ints); upto = omega (arith, ints); below = omega (arith, ints); above = omega (arith, ints) })

  -- a closed box has a place left
  some_place : Keeps inner (high_tell x (pos (length entries))) → Keeps inner (low_tell x (pos bound_limit)) → ⊥
  unfolding member_limit bound_limit largest_number
  some_place up down =
      let own = proper 0 (omega arith) in
      let past = past_all clamped in
      let exact : clamp_of (pos (length entries)) ≡ pos (length entries) = clamped.same (pos (length entries)) (omega arith) in
      omega (arith, ints)

  hull_monotone : Keeps inner (high_tell x (pos (length entries))) → All (Keeps inner) (hull_tells x c inner (filter (can_be x c inner) (places_of entries)))
      → All (Keeps inner) (hull_tells x c outer (filter (can_be x c outer) (places_of entries)))
  hull_monotone up all =
      let K : Tell → Type 0 = Keeps inner in
      let A : List Tell → Type 0 = λ ts. All K ts in
      let places = places_of entries in
      let f = filter (can_be x c inner) places in
      let f' = filter (can_be x c outer) places in
      length_cases f'
      (λ none'.
      let outers = filter_none (can_be x c outer) places none' in
      let none = filter_empty (can_be x c inner) places (λ i d h. by_bool (can_be x c inner (get_or places i d)) (λ t. absurd (both_ways _ (outers i d h) (follow i d h t))) (λ e. e)) in
      subst A (hull_none x c inner f none ∙ sym (hull_none x c outer f' none')) all)
      (λ some'. length_cases f
      (λ none. absurd (some_place up (one-All K (low_tell x (pos bound_limit)) (subst A (hull_none x c inner f none) all))))
      (λ some.
      let four = subst A (hull_some x c inner f some) all in
      hull_all K x c outer f' some'
      (looser_low clamped inner x (first_of f) (first_of f') (least_of_fewer (can_be x c inner) (can_be x c outer) (λ q. pos q.0) (λ q. pos q.0) places follow some (λ i d h. omega (arith, ints))) (four 0 (low_tell x (first_of f)) (omega arith)))
      (looser_high clamped inner x (last_of f) (last_of f') (greatest_of_fewer (can_be x c inner) (can_be x c outer) (λ q. pos q.0) (λ q. pos q.0) places follow some (λ i d h. omega (arith, ints))) (four 1 (low_tell x (first_of f)) (omega arith)))
      (looser_low clamped inner c (lowest_of inner f) (lowest_of outer f') (least_of_fewer (can_be x c inner) (can_be x c outer) (λ q. low_of inner q.1) (λ q. low_of outer q.1) places follow some lows) (four 2 (low_tell x (first_of f)) (omega arith)))
      (looser_high clamped inner c (highest_of inner f) (highest_of outer f') (greatest_of_fewer (can_be x c inner) (can_be x c outer) (λ q. high_of inner q.1) (λ q. high_of outer q.1) places follow some highs) (four 3 (low_tell x (first_of f)) (omega arith)))))

  equal_monotone : (y : ℕ) → low_of outer y ≤ℤ low_of inner y → high_of inner y ≤ℤ high_of outer y → All (Keeps inner) (equal_tells y c inner) → All (Keeps inner) (equal_tells y c outer)
  equal_monotone y low high all =
      let K : Tell → Type 0 = Keeps inner in
      let low_c = inside.lows 1 (omega arith) in
      let high_c = inside.highs 1 (omega arith) in
      let d = low_tell y (pos 0) in
      All-four K (low_tell y (low_of outer c)) (high_tell y (high_of outer c)) (low_tell c (low_of outer y)) (high_tell c (high_of outer y))
      (looser_low clamped inner y (low_of inner c) (low_of outer c) low_c (all 0 d (omega arith)))
      (looser_high clamped inner y (high_of inner c) (high_of outer c) high_c (all 1 d (omega arith)))
      (looser_low clamped inner c (low_of inner y) (low_of outer y) low (all 2 d (omega arith)))
      (looser_high clamped inner c (high_of inner y) (high_of outer y) high (all 3 d (omega arith)))

  fixed_inside : (j : ℕ) → is_fixed_to x outer j ≡ true → is_fixed_to x inner j ≡ true
  fixed_inside j t =
      let parts = fixed_parts x outer j t in
      let p = parts.0 in
      let q = parts.1 in
      let low = inside.lows 0 (omega arith) in
      let high = inside.highs 0 (omega arith) in
      let own = proper 0 (omega arith) in
      fixed_from x inner j (omega (arith, ints)) (omega (arith, ints))

  pub element_monotone : All (Keeps inner) (element_tells x entries c inner) → All (Keeps inner) (element_tells x entries c outer)
  element_monotone all =
      let K : Tell → Type 0 = Keeps inner in
      let places = places_of entries in
      let d : ℕ × ℕ = (0, 0) in
      let range = between_tells x (pos 1) (pos (length entries)) in
      let hull = hull_tells x c inner (filter (can_be x c inner) places) in
      let hull' = hull_tells x c outer (filter (can_be x c outer) places) in
      let fixed = flat_map (fixed_tells x c inner) places in
      let fixed' = flat_map (fixed_tells x c outer) places in
      let ranges = All-left K range (hull ++ fixed) all in
      let rest = All-right K range (hull ++ fixed) all in
      let given = All-right K hull fixed rest in
      All-append K range (hull' ++ fixed') ranges (All-append K hull' fixed'
      (hull_monotone (ranges 1 (low_tell x (pos 1)) (omega arith)) (All-left K hull fixed rest))
      (All-flat_map K (fixed_tells x c outer) places d (λ i h.
      let p = get_or places i d in
      All-when K (is_fixed_to x outer p.0) (equal_tells p.1 c outer) (λ t.
      equal_monotone p.1 (lows i d h) (highs i d h) (when-All K (is_fixed_to x inner p.0) (equal_tells p.1 c inner) (fixed_inside p.0 t) (flat_map-All K (fixed_tells x c inner) places d given i h))))))

-- ---- at a point

natural : (v : ℤ) → pos 1 ≤ℤ v → (k : ℕ) × (v ≡ pos (k + 1))
natural (pos zero) h = absurd (omega (arith, ints))
natural (pos (suc k)) h = let e : suc k ≡ k + 1 = omega arith in (k, ap pos e)
natural (negsuc n) h = absurd (omega (arith, ints))

module _ (clamped : ClampOrder) (b : Bounds) (x c : ℕ) (entries : List ℕ) (variables : AreVariables (length b) (x ∷ c ∷ entries)) (point : IsPoint b) (numbers : (v : ℕ) → v < length b → IsNumber (low_of b v)) where
  fixed_x : low_of b x ≡ high_of b x
  fixed_x = point x (variables.each 0 (omega arith))

  fixed_c : low_of b c ≡ high_of b c
  fixed_c = point c (variables.each 1 (omega arith))

  fixed_y : (i : ℕ) → i < length entries → low_of b (get_or entries i 0) ≡ high_of b (get_or entries i 0)
  fixed_y i h = point (get_or entries i 0) (variables.each (suc (suc i)) (omega arith))

  number_x : IsNumber (low_of b x)
  number_x = numbers x (variables.each 0 (omega arith))

  number_c : IsNumber (low_of b c)
  number_c = numbers c (variables.each 1 (omega arith))

  number_y : (i : ℕ) → i < length entries → IsNumber (low_of b (get_or entries i 0))
  number_y i h = numbers (get_or entries i 0) (variables.each (suc (suc i)) (omega arith))

  element_of : (i : ℕ) → i < length entries → low_of b x ≡ pos (i + 1) → low_of b (get_or entries i 0) ≡ low_of b c → IsElement x entries c (point_of b)
  element_of i h at same =
      let y = get_or entries i 0 in
      let value_x = value_low b x fixed_x in
      let value_c = value_low b c fixed_c in
      let value_y = value_low b y (fixed_y i h) in
      (i, (i + 1, y), omega (arith, length-places entries), get_or-places entries i (i + 1, y) h, (value_x ∙ at, value_y ∙ (same ∙ sym value_c)))

  pub element_closed_holds : All (Keeps b) (element_tells x entries c b) → IsElement x entries c (point_of b)
  element_closed_holds all =
      let K : Tell → Type 0 = Keeps b in
      let places = places_of entries in
      let d : ℕ × ℕ = (0, 0) in
      let range = between_tells x (pos 1) (pos (length entries)) in
      let hull = hull_tells x c b (filter (can_be x c b) places) in
      let fixed = flat_map (fixed_tells x c b) places in
      let ranges = All-left K range (hull ++ fixed) all in
      let given = All-right K hull fixed (All-right K range (hull ++ fixed) all) in
      let low = (clamped.below_number (low_of b x) (pos 1) number_x).0 (ranges 0 (low_tell x (pos 1)) (omega arith)) in
      let high = (clamped.above_number (high_of b x) (pos (length entries)) (number_high b x fixed_x number_x)).0 (ranges 1 (low_tell x (pos 1)) (omega arith)) in
      let (k, at) = natural (low_of b x) low in
      let e = fixed_x in
      let h : k < length entries = omega (arith, ints) in
      let y = get_or entries k 0 in
      let A : ℕ × ℕ → Type 0 = λ p. All K (fixed_tells x c b p) in
      let own = subst A (get_or-places entries k d h) (flat_map-All K (fixed_tells x c b) places d given k (omega (arith, length-places entries))) in
      let equal = when-All K (is_fixed_to x b (k + 1)) (equal_tells y c b) (fixed_from x b (k + 1) at (sym e ∙ at)) own in
      let floor = (clamped.below_number (low_of b y) (low_of b c) (number_y k h)).0 (equal 0 (low_tell x (pos 1)) (omega arith)) in
      let ceiling = (clamped.above_number (high_of b y) (high_of b c) (number_high b y (fixed_y k h) (number_y k h))).0 (equal 1 (low_tell x (pos 1)) (omega arith)) in
      let f = fixed_y k h in
      let g = fixed_c in
      element_of k h at (omega (arith, ints))

  -- the place that x has, and all that follows
  module _ (i : ℕ) (h : i < length entries) (at : low_of b x ≡ pos (i + 1)) (same : low_of b (get_or entries i 0) ≡ low_of b c) where
    can : can_be x c b (get_or (places_of entries) i (0, 0)) ≡ true
    can =
        let C : ℕ × ℕ → Type 0 = λ p. can_be x c b p ≡ true in
        let e = fixed_x in
        let f = fixed_c in
        let g = fixed_y i h in
        let p : ℕ × ℕ = (i + 1, get_or entries i 0) in
        subst C (sym (get_or-places entries i (0, 0) h)) (can_from x c b p (record { from = omega (arith, ints); upto = omega (arith, ints); below = omega (arith, ints); above = omega (arith, ints) }))

    place_in : i < length (places_of entries)
    place_in = omega (arith, length-places entries)

    kept_equal : All (Keeps b) (equal_tells (get_or entries i 0) c b)
    kept_equal =
        let y = get_or entries i 0 in
        let f = fixed_c in
        let g = fixed_y i h in
        All-four (Keeps b) (low_tell y (low_of b c)) (high_tell y (high_of b c)) (low_tell c (low_of b y)) (high_tell c (high_of b y))
        ((clamped.below_number (low_of b y) (low_of b c) (number_y i h)).1 (omega (arith, ints)))
        ((clamped.above_number (high_of b y) (high_of b c) (number_high b y g (number_y i h))).1 (omega (arith, ints)))
        ((clamped.below_number (low_of b c) (low_of b y) number_c).1 (omega (arith, ints)))
        ((clamped.above_number (high_of b c) (high_of b y) (number_high b c f number_c)).1 (omega (arith, ints)))

    kept_hull : All (Keeps b) (hull_tells x c b (filter (can_be x c b) (places_of entries)))
    kept_hull =
        let places = places_of entries in
        let d : ℕ × ℕ = (0, 0) in
        let f = filter (can_be x c b) places in
        let number = ap (λ (p : ℕ × ℕ). pos p.0) (get_or-places entries i d h) in
        let low = ap (λ (p : ℕ × ℕ). low_of b p.1) (get_or-places entries i d h) in
        let high = ap (λ (p : ℕ × ℕ). high_of b p.1) (get_or-places entries i d h) in
        let first = filter_back (can_be x c b) (λ q. first_of f ≤ℤ pos q.0) places (least_each (λ (q : ℕ × ℕ). pos q.0) f) i d place_in can in
        let last = filter_back (can_be x c b) (λ q. pos q.0 ≤ℤ last_of f) places (greatest_each (λ (q : ℕ × ℕ). pos q.0) f) i d place_in can in
        let lowest = filter_back (can_be x c b) (λ q. lowest_of b f ≤ℤ low_of b q.1) places (least_each (λ (q : ℕ × ℕ). low_of b q.1) f) i d place_in can in
        let highest = filter_back (can_be x c b) (λ q. high_of b q.1 ≤ℤ highest_of b f) places (greatest_each (λ (q : ℕ × ℕ). high_of b q.1) f) i d place_in can in
        let e = fixed_x in
        let k = fixed_c in
        let g = fixed_y i h in
        hull_all (Keeps b) x c b f (passed (can_be x c b) places i d place_in can)
        ((clamped.below_number (low_of b x) (first_of f) number_x).1 (omega (arith, ints)))
        ((clamped.above_number (high_of b x) (last_of f) (number_high b x e number_x)).1 (omega (arith, ints)))
        ((clamped.below_number (low_of b c) (lowest_of b f) number_c).1 (omega (arith, ints)))
        ((clamped.above_number (high_of b c) (highest_of b f) (number_high b c k number_c)).1 (omega (arith, ints)))

    kept_fixed : All (Keeps b) (flat_map (fixed_tells x c b) (places_of entries))
    kept_fixed =
        let places = places_of entries in
        let d : ℕ × ℕ = (0, 0) in
        let A : ℕ → Type 0 = λ y. All (Keeps b) (equal_tells y c b) in
        All-flat_map (Keeps b) (fixed_tells x c b) places d (λ k l.
        let p = get_or places k d in
        let inside : k < length entries = omega (arith, length-places entries) in
        All-when (Keeps b) (is_fixed_to x b p.0) (equal_tells p.1 c b) (λ t.
        let low = (fixed_parts x b p.0 t).0 in
        let number = ap (λ (q : ℕ × ℕ). pos q.0) (get_or-places entries k d inside) in
        let one : i ≡ k = omega (arith, ints) in
        let var = ap (λ (q : ℕ × ℕ). q.1) (get_or-places entries k d inside) in
        subst A (ap (λ n. get_or entries n 0) one ∙ sym var) kept_equal))

    kept_all : All (Keeps b) (element_tells x entries c b)
    kept_all =
        let K : Tell → Type 0 = Keeps b in
        let e = fixed_x in
        let hull = hull_tells x c b (filter (can_be x c b) (places_of entries)) in
        let fixed = flat_map (fixed_tells x c b) (places_of entries) in
        All-append K (between_tells x (pos 1) (pos (length entries))) (hull ++ fixed)
        (All-cons K (low_tell x (pos 1)) (high_tell x (pos (length entries)) ∷ []) ((clamped.below_number (low_of b x) (pos 1) number_x).1 (omega (arith, ints)))
        (All-one K (high_tell x (pos (length entries))) ((clamped.above_number (high_of b x) (pos (length entries)) (number_high b x e number_x)).1 (omega (arith, ints)))))
        (All-append K hull fixed kept_hull kept_fixed)

  pub element_holds_closed : IsElement x entries c (point_of b) → All (Keeps b) (element_tells x entries c b)
  element_holds_closed (i, p, h, at, own) =
      let inside : i < length entries = omega (arith, length-places entries) in
      let same = sym at ∙ get_or-places entries i p inside in
      let y = get_or entries i 0 in
      let value_x = value_low b x fixed_x in
      let value_c = value_low b c fixed_c in
      let value_y = value_low b y (fixed_y i inside) in
      let place = sym value_x ∙ (own.0 ∙ ap (λ (q : ℕ × ℕ). pos q.0) same) in
      let equal = sym value_y ∙ (sym (ap (λ (q : ℕ × ℕ). value_of (point_of b) q.1) same) ∙ (own.1 ∙ value_c)) in
      kept_all i inside place equal

-- ---- where the tells are

pub element_placed : ClampOrder → (count x c : ℕ) (entries : List ℕ) (b : Bounds) → AreVariables count (x ∷ c ∷ entries) → All (IsPlaced count (x ∷ c ∷ entries)) (element_tells x entries c b)
element_placed clamped count x c entries b variables =
    let vars = x ∷ c ∷ entries in
    let P : Tell → Type 0 = IsPlaced count vars in
    let places = places_of entries in
    let d : ℕ × ℕ = (0, 0) in
    let f = filter (can_be x c b) places in
    let low_x : (z : ℤ) → P (low_tell x z) = λ z. low_placed clamped count vars variables 0 z (omega arith) in
    let high_x : (z : ℤ) → P (high_tell x z) = λ z. high_placed clamped count vars variables 0 z (omega arith) in
    let low_c : (z : ℤ) → P (low_tell c z) = λ z. low_placed clamped count vars variables 1 z (omega arith) in
    let high_c : (z : ℤ) → P (high_tell c z) = λ z. high_placed clamped count vars variables 1 z (omega arith) in
    let low_y = each_place (λ p. (z : ℤ) → P (low_tell p.1 z)) entries (λ i h. λ z. low_placed clamped count vars variables (suc (suc i)) z (omega arith)) in
    let high_y = each_place (λ p. (z : ℤ) → P (high_tell p.1 z)) entries (λ i h. λ z. high_placed clamped count vars variables (suc (suc i)) z (omega arith)) in
    let hull = hull_tells x c b f in
    let fixed = flat_map (fixed_tells x c b) places in
    All-append P (between_tells x (pos 1) (pos (length entries))) (hull ++ fixed)
    (All-cons P (low_tell x (pos 1)) (high_tell x (pos (length entries)) ∷ []) (low_x (pos 1)) (All-one P (high_tell x (pos (length entries))) (high_x (pos (length entries)))))
    (All-append P hull fixed
    (length_cases f
    (λ none. subst (λ ts. All P ts) (sym (hull_none x c b f none)) (All-one P (low_tell x (pos bound_limit)) (low_x (pos bound_limit))))
    (λ some. hull_all P x c b f some (low_x (first_of f)) (high_x (last_of f)) (low_c (lowest_of b f)) (high_c (highest_of b f))))
    (All-flat_map P (fixed_tells x c b) places d (λ i h.
    let y = (get_or places i d).1 in
    All-when P (is_fixed_to x b (get_or places i d).0) (equal_tells y c b) (λ t.
    All-four P (low_tell y (low_of b c)) (high_tell y (high_of b c)) (low_tell c (low_of b y)) (high_tell c (high_of b y))
    (low_y i d h (low_of b c)) (high_y i d h (high_of b c)) (low_c (low_of b y)) (high_c (high_of b y))))))

-- ---- the variables alone

same_can : (x c : ℕ) (a b : Bounds) (p : ℕ × ℕ) → low_of a x ≡ low_of b x → high_of a x ≡ high_of b x → low_of a c ≡ low_of b c → high_of a c ≡ high_of b c → low_of a p.1 ≡ low_of b p.1 → high_of a p.1 ≡ high_of b p.1
    → can_be x c a p ≡ can_be x c b p
unfolding can_be
same_can x c a b p lx hx lc hc ly hy = (λ k. (int_le (lx k) (pos p.0) && int_le (pos p.0) (hx k)) && (int_le (ly k) (hc k) && int_le (lc k) (hy k)))

same_hull : (x c : ℕ) (a b : Bounds) (ps : List (ℕ × ℕ)) → All (λ q. low_of a q.1 ≡ low_of b q.1) ps → All (λ q. high_of a q.1 ≡ high_of b q.1) ps → hull_tells x c a ps ≡ hull_tells x c b ps
unfolding hull_tells
same_hull x c a b [] p q = refl
same_hull x c a b (p ∷ ps) below above =
    let low = least_same (λ (q : ℕ × ℕ). low_of a q.1) (λ (q : ℕ × ℕ). low_of b q.1) (p ∷ ps) below in
    let high = greatest_same (λ (q : ℕ × ℕ). high_of a q.1) (λ (q : ℕ × ℕ). high_of b q.1) (p ∷ ps) above in
    (λ k. between_tells x (first_of (p ∷ ps)) (last_of (p ∷ ps)) ++ between_tells c (low k) (high k))

same_fixed : (x : ℕ) (a b : Bounds) (j : ℕ) → low_of a x ≡ low_of b x → high_of a x ≡ high_of b x → is_fixed_to x a j ≡ is_fixed_to x b j
unfolding is_fixed_to
same_fixed x a b j p q = (λ k. int_eq (p k) (pos j) && int_eq (q k) (pos j))

pub element_local : (x c : ℕ) (entries : List ℕ) (a b : Bounds) → AgreeIn (x ∷ c ∷ entries) a b → element_tells x entries c a ≡ element_tells x entries c b
element_local x c entries a b agree =
    let places = places_of entries in
    let d : ℕ × ℕ = (0, 0) in
    let lx = agree.lows 0 (omega arith) in
    let hx = agree.highs 0 (omega arith) in
    let lc = agree.lows 1 (omega arith) in
    let hc = agree.highs 1 (omega arith) in
    let lows = each_place (λ p. low_of a p.1 ≡ low_of b p.1) entries (λ i h. agree.lows (suc (suc i)) (omega arith)) in
    let highs = each_place (λ p. high_of a p.1 ≡ high_of b p.1) entries (λ i h. agree.highs (suc (suc i)) (omega arith)) in
    let same = filter_same (can_be x c a) (can_be x c b) places (λ i e h. same_can x c a b (get_or places i e) lx hx lc hc (lows i e h) (highs i e h)) in
    let hull = same_hull x c a b (filter (can_be x c a) places) (filter_all (can_be x c a) (λ q. low_of a q.1 ≡ low_of b q.1) places (λ i e h t. lows i e h)) (filter_all (can_be x c a) (λ q. high_of a q.1 ≡ high_of b q.1) places (λ i e h t. highs i e h)) in
    let whole = hull ∙ ap (hull_tells x c b) same in
    let fixed = flat_map_same (fixed_tells x c a) (fixed_tells x c b) places d (λ i h.
    let p = get_or places i d in
    let ly = lows i d h in
    let hy = highs i d h in
    (λ k. when (same_fixed x a b p.0 lx hx k) (between_tells p.1 (lc k) (hc k) ++ between_tells c (ly k) (hy k)))) in
    (λ k. between_tells x (pos 1) (pos (length entries)) ++ (whole k ++ fixed k))

pub element_local_relation : (x c : ℕ) (entries : List ℕ) (f g : List ℤ) → SameValuesIn (x ∷ c ∷ entries) f g → IsElement x entries c f → IsElement x entries c g
element_local_relation x c entries f g same (i, p, h, at, own) =
    let values = each_place (λ q. value_of f q.1 ≡ value_of g q.1) entries (λ k l. same (suc (suc k)) (omega arith)) in
    let V : ℕ × ℕ → Type 0 = λ q. value_of f q.1 ≡ value_of g q.1 in
    let y = subst V at (values i p h) in
    (i, p, h, at, (sym (same 0 (omega arith)) ∙ own.0, sym y ∙ (own.1 ∙ same 1 (omega arith))))
