-- The laws of the greatest of a list.
use Rattle.std.proofs.Common.{◌≡◌, ℕ, suc, ◌<◌, List, [], ◌∷◌, ◌++◌, length, get_or, true, ℤ, pos, ◌≤ℤ◌, refl, sym, ap, subst, ◌∙◌, ⊎_elim, arith}
use Rattle.std.proofs.lemmas.Int.{ints}
use Rattle.std.proofs.lemmas.Bool.{both_ways}
use Rattle.std.proofs.lemmas.List.Elements.{All-nil, All-cons, All-append}
use Rattle.std.specs.Int.RustNames.{int_le}
use Rattle.std.specs.List.{All, Any, filter}
use Rattle.tells.specs.declared.tell.Tell.{Tell}
use Rattle.interval.specs.Limits.{IsNumber, IsBound, bound_limit, clamp_of, ClampOrder}
use Rattle.interval.specs.Boxes.{Bounds, low_of, high_of, IsInRange, IsPoint}
use Rattle.tells.specs.Words.{low_tell, high_tell, Keeps, IsProperIn, IsInsideIn, AgreeIn, SameValuesIn, AreVariables, value_of, point_of}
use Rattle.extreme_tells.specs.Extremes.{greatest_over, sole, told_each, told_of}
use Rattle.extreme_tells.specs.Maximum.{max_reaches, max_member_tells, max_some_tells, max_tells, IsGreatestOf}
use Rattle.extreme_tells.proofs.Lists.{All-left, All-right, All-one, one-All, All-flat_map, flat_map-All}
use Rattle.extreme_tells.proofs.PlaceLaws.{IsPlaced, low_placed, high_placed}
use Rattle.extreme_tells.proofs.CommonLaws.{not_past_all, looser_low, looser_high, value_low, value_high, number_low, number_high, bound_between, each_after}
use Rattle.extreme_tells.proofs.ExtremeLaws.{greatest_each, greatest_cap, greatest_some, greatest_rises, greatest_same, filter_none, filter_all, filter_same, filter_one, sole_cases, told_all}

pub max_of_none : (m : ℕ) (xs : List ℕ) (b : Bounds) → length xs ≡ 0 → max_tells m xs b ≡ low_tell m (pos bound_limit) ∷ []
unfolding max_tells
max_of_none m [] b h = refl
max_of_none m (x ∷ xs) b h = absurd (omega arith)

pub max_of_some : (m : ℕ) (xs : List ℕ) (b : Bounds) → 0 < length xs → max_tells m xs b ≡ max_some_tells m xs b
unfolding max_tells
max_of_some m [] b h = absurd (omega arith)
max_of_some m (x ∷ xs) b h = refl

-- the test
reaches_then : (m : ℕ) (b : Bounds) (x : ℕ) → max_reaches m b x ≡ true → low_of b m ≤ℤ high_of b x
unfolding max_reaches
reaches_then m b x e = omega (arith, ints)

then_reaches : (m : ℕ) (b : Bounds) (x : ℕ) → low_of b m ≤ℤ high_of b x → max_reaches m b x ≡ true
unfolding max_reaches
then_reaches m b x h = let f : true ≡ int_le (low_of b m) (high_of b x) = omega (arith, ints) in sym f

-- ---- monotone

module _ (clamped : ClampOrder) (m : ℕ) (inner outer : Bounds) where
  none_reaches : (xs : List ℕ) → 0 < length xs → All (λ x. IsBound (high_of inner x)) xs → low_of inner m ≤ℤ high_of inner m
      → Keeps inner (high_tell m (greatest_over (high_of inner) xs)) → filter (max_reaches m inner) xs ≡ [] → ⊥
  none_reaches xs some bounds own kept none =
      let (i, x, h, e, same) = greatest_some (high_of inner) xs some in
      let reach = greatest_over (high_of inner) xs in
      let bound : IsBound reach = let B : ℤ → Type 0 = λ z. IsBound z in subst B (ap (high_of inner) e ∙ same) (bounds i x h) in
      let exact : clamp_of reach ≡ reach = clamped.same reach bound in
      let within : low_of inner m ≤ℤ high_of inner (get_or xs i x) = let at = ap (high_of inner) e in omega (arith, ints) in
      both_ways _ (filter_none (max_reaches m inner) xs none i x h) (then_reaches m inner (get_or xs i x) within)

  some_monotone : (xs : List ℕ) → 0 < length xs → AreVariables (length outer) (m ∷ xs) → IsInRange outer → IsProperIn (m ∷ xs) inner → IsInsideIn (m ∷ xs) inner outer
      → All (Keeps inner) (max_some_tells m xs inner) → All (Keeps inner) (max_some_tells m xs outer)
  unfolding sole
  some_monotone xs some variables range proper inside all =
      let K : Tell → Type 0 = Keeps inner in
      let gl = greatest_over (low_of inner) xs in
      let gh = greatest_over (high_of inner) xs in
      let gl' = greatest_over (low_of outer) xs in
      let gh' = greatest_over (high_of outer) xs in
      let lows = each_after (λ x. low_of outer x ≤ℤ low_of inner x) m xs inside.lows in
      let highs = each_after (λ x. high_of inner x ≤ℤ high_of outer x) m xs inside.highs in
      let low_m = inside.lows 0 (omega arith) in
      let high_m = inside.highs 0 (omega arith) in
      let own = proper 0 (omega arith) in
      let bounds = each_after (λ x. IsBound (high_of inner x)) m xs (λ i h.
      let v = get_or (m ∷ xs) i 0 in
      bound_between (low_of outer v) (high_of inner v) (high_of outer v) (range.lows v (variables.each i h)) (range.highs v (variables.each i h))
      (let a = inside.lows i h in let p = proper i h in omega (arith, ints)) (let a = inside.highs i h in let p = proper i h in omega (arith, ints))) in
      let tell_low = all 0 (low_tell m gl) (omega arith) in
      let tell_high = all 1 (high_tell m gh) (omega arith) in
      let members : All K (max_member_tells m xs inner) = λ i d h. all (suc (suc i)) d (omega arith) in
      let each = All-left K (told_each (λ x. high_tell x (high_of inner m)) xs) (told_of (λ x. low_tell x (low_of inner m)) (sole (filter (max_reaches m inner) xs))) members in
      let one = All-right K (told_each (λ x. high_tell x (high_of inner m)) xs) (told_of (λ x. low_tell x (low_of inner m)) (sole (filter (max_reaches m inner) xs))) members in
      let follow : All (λ x. max_reaches m inner x ≡ true → max_reaches m outer x ≡ true) xs = λ i d h t.
      (let r = reaches_then m inner (get_or xs i d) t in let a = highs i d h in then_reaches m outer (get_or xs i d) (omega (arith, ints))) in
      All-cons K (low_tell m gl') (high_tell m gh' ∷ max_member_tells m xs outer) (looser_low clamped inner m gl gl' (greatest_rises (low_of outer) (low_of inner) xs some lows) tell_low)
      (All-cons K (high_tell m gh') (max_member_tells m xs outer) (looser_high clamped inner m gh gh' (greatest_rises (high_of inner) (high_of outer) xs some highs) tell_high)
      (All-append K (told_each (λ x. high_tell x (high_of outer m)) xs) (told_of (λ x. low_tell x (low_of outer m)) (sole (filter (max_reaches m outer) xs)))
      (All-flat_map K (λ x. high_tell x (high_of outer m) ∷ []) xs 0 (λ i h.
      let x = get_or xs i 0 in
      All-one K (high_tell x (high_of outer m)) (looser_high clamped inner x (high_of inner m) (high_of outer m) high_m
      (one-All K (high_tell x (high_of inner m)) (flat_map-All K (λ x. high_tell x (high_of inner m) ∷ []) xs 0 each i h)))))
      (sole_cases (λ o. All K (told_of (λ x. low_tell x (low_of outer m)) o)) (filter (max_reaches m outer) xs) (All-nil K) (λ y e.
      All-one K (low_tell y (low_of outer m)) (looser_low clamped inner y (low_of inner m) (low_of outer m) low_m
      (⊎_elim
      (λ none. absurd (none_reaches xs some bounds own tell_high none))
      (λ same. one-All K (low_tell y (low_of inner m)) (subst (λ ys. All K (told_of (λ x. low_tell x (low_of inner m)) (sole ys))) same one))
      (filter_one (max_reaches m inner) (max_reaches m outer) y xs follow e)))))))

  pub max_monotone : (xs : List ℕ) → AreVariables (length outer) (m ∷ xs) → IsInRange outer → IsProperIn (m ∷ xs) inner → IsInsideIn (m ∷ xs) inner outer
      → All (Keeps inner) (max_tells m xs inner) → All (Keeps inner) (max_tells m xs outer)
  unfolding max_tells
  max_monotone [] variables range proper inside all = all
  max_monotone (x ∷ xs) variables range proper inside all = some_monotone (x ∷ xs) (omega arith) variables range proper inside all

-- ---- at a point

module _ (clamped : ClampOrder) (b : Bounds) (m : ℕ) (xs : List ℕ) (variables : AreVariables (length b) (m ∷ xs)) (point : IsPoint b) (numbers : (v : ℕ) → v < length b → IsNumber (low_of b v)) where
  fixed_m : low_of b m ≡ high_of b m
  fixed_m = point m (variables.each 0 (omega arith))

  fixed : All (λ x. low_of b x ≡ high_of b x) xs
  fixed = each_after (λ x. low_of b x ≡ high_of b x) m xs (λ i h. point _ (variables.each i h))

  number_m : IsNumber (low_of b m)
  number_m = numbers m (variables.each 0 (omega arith))

  number : All (λ x. IsNumber (low_of b x)) xs
  number = each_after (λ x. IsNumber (low_of b x)) m xs (λ i h. numbers _ (variables.each i h))

  same_reach : greatest_over (low_of b) xs ≡ greatest_over (high_of b) xs
  same_reach = greatest_same (low_of b) (high_of b) xs (λ i d h. let e = fixed i d h in omega (arith, ints))

  some_closed_holds : 0 < length xs → All (Keeps b) (max_some_tells m xs b) → IsGreatestOf m xs (point_of b)
  some_closed_holds some all =
      let gl = greatest_over (low_of b) xs in
      let gh = greatest_over (high_of b) xs in
      let reach = same_reach in
      let e = fixed_m in
      let floor = (clamped.below_number (low_of b m) gl (number_low b m fixed_m number_m)).0 (all 0 (low_tell m gl) (omega arith)) in
      let ceiling = (clamped.above_number (high_of b m) gh (number_high b m fixed_m number_m)).0 (all 1 (high_tell m gh) (omega arith)) in
      let value_m = value_low b m fixed_m in
      let (i, x, h, at, same) = greatest_some (low_of b) xs some in
      let F : ℕ → Type 0 = λ v. low_of b v ≡ high_of b v in
      let value_x = value_low b x (subst F at (fixed i x h)) in
      record {
        reached = (i, x, h, at, omega (arith, ints));
        none_greater = λ k d l. (let v = value_low b (get_or xs k d) (fixed k d l) in let each = greatest_each (low_of b) xs k d l in omega (arith, ints));
      }

  some_holds_closed : 0 < length xs → IsGreatestOf m xs (point_of b) → All (Keeps b) (max_some_tells m xs b)
  some_holds_closed some holds =
      let K : Tell → Type 0 = Keeps b in
      let gl = greatest_over (low_of b) xs in
      let gh = greatest_over (high_of b) xs in
      let e = fixed_m in
      let value_m = value_low b m fixed_m in
      let (i, x, h, at, same) = holds.reached in
      let F : ℕ → Type 0 = λ v. low_of b v ≡ high_of b v in
      let value_x = value_high b x (subst F at (fixed i x h)) in
      let less : All (λ x. low_of b x ≤ℤ low_of b m) xs = λ k d l. (let v = value_low b (get_or xs k d) (fixed k d l) in let n = holds.none_greater k d l in omega (arith, ints)) in
      let floor : gl ≤ℤ low_of b m = greatest_cap (low_of b) (low_of b m) xs some less in
      let own = ap (high_of b) at in
      let ceiling : high_of b m ≤ℤ gh = (let each = greatest_each (high_of b) xs i x h in omega (arith, ints)) in
      All-cons K (low_tell m gl) (high_tell m gh ∷ max_member_tells m xs b) ((clamped.below_number (low_of b m) gl (number_low b m fixed_m number_m)).1 floor)
      (All-cons K (high_tell m gh) (max_member_tells m xs b) ((clamped.above_number (high_of b m) gh (number_high b m fixed_m number_m)).1 ceiling)
      (All-append K (told_each (λ x. high_tell x (high_of b m)) xs) (told_of (λ x. low_tell x (low_of b m)) (sole (filter (max_reaches m b) xs)))
      (All-flat_map K (λ x. high_tell x (high_of b m) ∷ []) xs 0 (λ k l.
      let y = get_or xs k 0 in
      let f = fixed k 0 l in
      let n = less k 0 l in
      All-one K (high_tell y (high_of b m)) ((clamped.above_number (high_of b y) (high_of b m) (number_high b y f (number k 0 l))).1 (omega (arith, ints)))))
      (told_all (λ x. low_tell x (low_of b m)) K (filter (max_reaches m b) xs) (filter_all (max_reaches m b) (λ x. K (low_tell x (low_of b m))) xs (λ k d l t.
      let y = get_or xs k d in
      let f = fixed k d l in
      let r = reaches_then m b y t in
      (clamped.below_number (low_of b y) (low_of b m) (number_low b y f (number k d l))).1 (omega (arith, ints)))))))

pub max_closed_holds : ClampOrder → (b : Bounds) (m : ℕ) (xs : List ℕ) → AreVariables (length b) (m ∷ xs) → IsPoint b → ((v : ℕ) → v < length b → IsNumber (low_of b v))
    → All (Keeps b) (max_tells m xs b) → IsGreatestOf m xs (point_of b)
unfolding max_tells
max_closed_holds clamped b m [] variables point numbers all = absurd (not_past_all clamped b m (numbers m (variables.each 0 (omega arith))) (one-All (Keeps b) (low_tell m (pos bound_limit)) all))
max_closed_holds clamped b m (x ∷ xs) variables point numbers all = some_closed_holds clamped b m (x ∷ xs) variables point numbers (omega arith) all

no_member : {P : ℕ → Type 0} → Any P [] → ⊥
no_member (i, x, h, e, p) = omega arith

pub max_holds_closed : ClampOrder → (b : Bounds) (m : ℕ) (xs : List ℕ) → AreVariables (length b) (m ∷ xs) → IsPoint b → ((v : ℕ) → v < length b → IsNumber (low_of b v))
    → IsGreatestOf m xs (point_of b) → All (Keeps b) (max_tells m xs b)
unfolding max_tells
max_holds_closed clamped b m [] variables point numbers holds = absurd (no_member holds.reached)
max_holds_closed clamped b m (x ∷ xs) variables point numbers holds = some_holds_closed clamped b m (x ∷ xs) variables point numbers (omega arith) holds

-- ---- where the tells are

pub max_placed : ClampOrder → (count m : ℕ) (xs : List ℕ) (b : Bounds) → AreVariables count (m ∷ xs) → All (IsPlaced count (m ∷ xs)) (max_tells m xs b)
unfolding max_tells
max_placed clamped count m [] b variables = All-one (IsPlaced count (m ∷ [])) (low_tell m (pos bound_limit)) (low_placed clamped count (m ∷ []) variables 0 (pos bound_limit) (omega arith))
max_placed clamped count m (x ∷ xs) b variables =
    let list = x ∷ xs in
    let P : Tell → Type 0 = IsPlaced count (m ∷ list) in
    All-cons P (low_tell m (greatest_over (low_of b) list)) (high_tell m (greatest_over (high_of b) list) ∷ max_member_tells m list b) (low_placed clamped count (m ∷ list) variables 0 (greatest_over (low_of b) list) (omega arith))
    (All-cons P (high_tell m (greatest_over (high_of b) list)) (max_member_tells m list b) (high_placed clamped count (m ∷ list) variables 0 (greatest_over (high_of b) list) (omega arith))
    (All-append P (told_each (λ x. high_tell x (high_of b m)) list) (told_of (λ x. low_tell x (low_of b m)) (sole (filter (max_reaches m b) list)))
    (All-flat_map P (λ x. high_tell x (high_of b m) ∷ []) list 0 (λ i h. All-one P (high_tell (get_or list i 0) (high_of b m)) (high_placed clamped count (m ∷ list) variables (suc i) (high_of b m) (omega arith))))
    (told_all (λ x. low_tell x (low_of b m)) P (filter (max_reaches m b) list) (filter_all (max_reaches m b) (λ x. P (low_tell x (low_of b m))) list
    (λ i d h t. each_after (λ x. P (low_tell x (low_of b m))) m list (λ j l. low_placed clamped count (m ∷ list) variables j (low_of b m) l) i d h)))))

-- ---- the variables alone

same_reaches : (m : ℕ) (b c : Bounds) (x : ℕ) → low_of b m ≡ low_of c m → high_of b x ≡ high_of c x → max_reaches m b x ≡ max_reaches m c x
unfolding max_reaches
same_reaches m b c x p q = (λ k. int_le (p k) (q k))

pub max_local : (m : ℕ) (xs : List ℕ) (b c : Bounds) → AgreeIn (m ∷ xs) b c → max_tells m xs b ≡ max_tells m xs c
unfolding max_tells
max_local m [] b c agree = refl
max_local m (x ∷ xs) b c agree =
    let list = x ∷ xs in
    let low = agree.lows 0 (omega arith) in
    let high = agree.highs 0 (omega arith) in
    let lows = each_after (λ x. low_of b x ≡ low_of c x) m list agree.lows in
    let highs = each_after (λ x. high_of b x ≡ high_of c x) m list agree.highs in
    let gl = greatest_same (low_of b) (low_of c) list lows in
    let gh = greatest_same (high_of b) (high_of c) list highs in
    let one = filter_same (max_reaches m b) (max_reaches m c) list (λ i d h. same_reaches m b c (get_or list i d) low (highs i d h)) in
    (λ k. low_tell m (gl k) ∷ high_tell m (gh k) ∷ (told_each (λ x. high_tell x (high k)) list ++ told_of (λ x. low_tell x (low k)) (sole (one k))))

pub max_local_relation : (m : ℕ) (xs : List ℕ) (f g : List ℤ) → SameValuesIn (m ∷ xs) f g → IsGreatestOf m xs f → IsGreatestOf m xs g
max_local_relation m xs f g same holds =
    let own = same 0 (omega arith) in
    let values = each_after (λ x. value_of f x ≡ value_of g x) m xs same in
    let (i, x, h, at, equal) = holds.reached in
    let V : ℕ → Type 0 = λ v. value_of f v ≡ value_of g v in
    let value_x = subst V at (values i x h) in
    record {
      reached = (i, x, h, at, omega (arith, ints));
      none_greater = λ k d l. (let v = values k d l in let n = holds.none_greater k d l in omega (arith, ints));
    }
