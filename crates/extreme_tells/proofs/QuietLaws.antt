-- The greatest of a list that lies in the reach of the list, and can be as great, tells nothing; and the mirror for the least.
use Rattle.std.proofs.Common.{ℕ, ◌<◌, List, [], ◌∷◌, length, get_or, Bool, Option, None, Some, ℤ, ◌≤ℤ◌, sym, subst, arith}
use Rattle.std.proofs.lemmas.Int.{ints}
use Rattle.std.proofs.lemmas.List.Elements.{All-nil, All-cons, All-append}
use Rattle.std.specs.Prelude.{IfSome}
use Rattle.std.specs.List.{All, filter}
use Rattle.tells.specs.declared.tell.Tell.{Tell}
use Rattle.interval.specs.Limits.{IsBound, ClampOrder}
use Rattle.interval.specs.Boxes.{Bounds, low_of, high_of}
use Rattle.tells.specs.Words.{low_tell, high_tell, Keeps}
use Rattle.extreme_tells.specs.Extremes.{greatest_over, least_over, sole, told_each, told_of}
use Rattle.extreme_tells.specs.Maximum.{max_reaches, max_member_tells, max_tells}
use Rattle.extreme_tells.specs.Minimum.{min_reaches, min_member_tells, min_tells}
use Rattle.extreme_tells.proofs.Lists.{All-one, one-All, All-flat_map}
use Rattle.extreme_tells.proofs.ExtremeLaws.{greatest_each, least_each, filter_all, sole_cases}
use Rattle.extreme_tells.proofs.MaximumLaws.{max_of_some}
use Rattle.extreme_tells.proofs.MinimumLaws.{min_of_some}

-- what holds of each of a list holds of the one that passes a test alone
pub sole_held : (P : ℕ → Type 0) (test : ℕ → Bool) (xs : List ℕ) → All P xs → IfSome (sole (filter test xs)) P
sole_held P test xs all = sole_cases (λ o. IfSome o P) (filter test xs) tt
    (λ x e. one-All P x (subst (λ ys. All P ys) e (filter_all test P xs (λ i d h t. all i d h))))

-- what is not tighter than a bound keeps it
module _ (clamped : ClampOrder) (b : Bounds) (m : ℕ) where
  keeps_from : (v : ℕ) (z : ℤ) → IsBound (low_of b v) → z ≤ℤ low_of b v → Keeps b (low_tell v z)
  keeps_from v z own h = let same = clamped.same (low_of b v) own in let rise = clamped.rises z (low_of b v) h in omega (arith, ints)

  keeps_to : (v : ℕ) (z : ℤ) → IsBound (high_of b v) → high_of b v ≤ℤ z → Keeps b (high_tell v z)
  keeps_to v z own h = let same = clamped.same (high_of b v) own in let rise = clamped.rises (high_of b v) z h in omega (arith, ints)

  sole_kept : (o : Option ℕ) → IsBound (low_of b m) → IfSome o (λ x. low_of b m ≤ℤ low_of b x)
      → All (Keeps b) (told_of (λ x. low_tell x (low_of b m)) o)
  sole_kept None own h = All-nil (Keeps b)
  sole_kept (Some x) own h = All-one (Keeps b) (low_tell x (low_of b m)) (let same = clamped.same (low_of b m) own in omega (arith, ints))

  pub max_quiet : (xs : List ℕ) → 0 < length xs → IsBound (low_of b m) → IsBound (high_of b m)
      → greatest_over (low_of b) xs ≤ℤ low_of b m → high_of b m ≤ℤ greatest_over (high_of b) xs → greatest_over (high_of b) xs ≤ℤ high_of b m
      → IfSome (sole (filter (max_reaches m b) xs)) (λ x. low_of b m ≤ℤ low_of b x) → All (Keeps b) (max_tells m xs b)
  max_quiet xs some low high from to cap one =
      let K : Tell → Type 0 = Keeps b in
      let gl = greatest_over (low_of b) xs in
      let gh = greatest_over (high_of b) xs in
      subst (λ ts. All K ts) (sym (max_of_some m xs b some))
      (All-cons K (low_tell m gl) (high_tell m gh ∷ max_member_tells m xs b) (keeps_from m gl low from)
      (All-cons K (high_tell m gh) (max_member_tells m xs b) (keeps_to m gh high to)
      (All-append K (told_each (λ x. high_tell x (high_of b m)) xs) (told_of (λ x. low_tell x (low_of b m)) (sole (filter (max_reaches m b) xs)))
      (All-flat_map K (λ x. high_tell x (high_of b m) ∷ []) xs 0 (λ i h.
      let x = get_or xs i 0 in
      let each = greatest_each (high_of b) xs i 0 h in
      let same = clamped.same (high_of b m) high in
      All-one K (high_tell x (high_of b m)) (omega (arith, ints))))
      (sole_kept (sole (filter (max_reaches m b) xs)) low one))))

  sole_capped : (o : Option ℕ) → IsBound (high_of b m) → IfSome o (λ x. high_of b x ≤ℤ high_of b m)
      → All (Keeps b) (told_of (λ x. high_tell x (high_of b m)) o)
  sole_capped None own h = All-nil (Keeps b)
  sole_capped (Some x) own h = All-one (Keeps b) (high_tell x (high_of b m)) (let same = clamped.same (high_of b m) own in omega (arith, ints))

  pub min_quiet : (xs : List ℕ) → 0 < length xs → IsBound (low_of b m) → IsBound (high_of b m)
      → high_of b m ≤ℤ least_over (high_of b) xs → least_over (low_of b) xs ≤ℤ low_of b m → low_of b m ≤ℤ least_over (low_of b) xs
      → IfSome (sole (filter (min_reaches m b) xs)) (λ x. high_of b x ≤ℤ high_of b m) → All (Keeps b) (min_tells m xs b)
  min_quiet xs some low high to from cap one =
      let K : Tell → Type 0 = Keeps b in
      let gh = least_over (high_of b) xs in
      let gl = least_over (low_of b) xs in
      subst (λ ts. All K ts) (sym (min_of_some m xs b some))
      (All-cons K (high_tell m gh) (low_tell m gl ∷ min_member_tells m xs b) (keeps_to m gh high to)
      (All-cons K (low_tell m gl) (min_member_tells m xs b) (keeps_from m gl low from)
      (All-append K (told_each (λ x. low_tell x (low_of b m)) xs) (told_of (λ x. high_tell x (high_of b m)) (sole (filter (min_reaches m b) xs)))
      (All-flat_map K (λ x. low_tell x (low_of b m) ∷ []) xs 0 (λ i h.
      let x = get_or xs i 0 in
      let each = least_each (low_of b) xs i 0 h in
      let same = clamped.same (low_of b m) low in
      All-one K (low_tell x (low_of b m)) (omega (arith, ints))))
      (sole_capped (sole (filter (min_reaches m b) xs)) high one))))
