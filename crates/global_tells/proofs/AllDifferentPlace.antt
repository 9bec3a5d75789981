-- The tells of all-different are on its variables, and depend on the bounds of these alone.
use Rattle.std.proofs.Common.{◌≡◌, ℕ, suc, ◌<◌, List, [], ◌∷◌, ◌++◌, length, get_or, Bool, not, cond, count_by, ℤ, pos, ◌+ℤ◌, ◌-ℤ◌, refl, sym, ap, ◌∙◌, arith}
use Rattle.std.proofs.lemmas.List.Elements.{All-append}
use Rattle.std.proofs.lemmas.List.{get_or_default}
use Rattle.std.specs.Int.RustNames.{int_lt, int_le}
use Rattle.std.specs.Prelude.{◌&&◌}
use Rattle.std.specs.Ordering.{int_eq}
use Rattle.std.specs.List.{All, flat_map}
use Rattle.tells.specs.declared.tell.Tell.{Tell}
use Rattle.interval.specs.Limits.{ClampOrder}
use Rattle.interval.specs.Boxes.{Bounds, low_of, high_of}
use Rattle.tells.specs.Words.{low_tell, high_tell, when, value_of, AgreeIn, SameValuesIn, AreVariables}
use Rattle.global_tells.specs.Ranges.{is_from_to, none_tells}
use Rattle.global_tells.specs.AllDifferent.{is_inside, places_inside, outside_tells, numbers_between, range_tells, all_different_tells, AreAllDifferent}
use Rattle.global_tells.proofs.Lists.{All-one, All-flat_map, All-when, flat_map_same}
use Rattle.global_tells.proofs.PlaceLaws.{IsPlaced, low_placed, high_placed, none_placed}
use Rattle.global_tells.proofs.AllDifferentLaws.{count_step}

module _ (clamped : ClampOrder) (count : ℕ) (xs : List ℕ) (variables : AreVariables count xs) where
  abbrev P : Tell → Type 0
  P = IsPlaced count xs

  outside_placed : (b : Bounds) (low high : ℤ) (k : ℕ) → k < length xs → All P (outside_tells b low high (get_or xs k 0))
  outside_placed b low high k h =
      let x = get_or xs k 0 in
      All-when P (not (is_inside b low high x)) _ (λ _.
      All-append P (when (is_from_to low high (low_of b x)) (low_tell x (high +ℤ pos 1) ∷ [])) (when (is_from_to low high (high_of b x)) (high_tell x (low -ℤ pos 1) ∷ []))
      (All-when P (is_from_to low high (low_of b x)) _ (λ _. All-one P (low_tell x (high +ℤ pos 1)) (low_placed clamped count xs variables k (high +ℤ pos 1) h)))
      (All-when P (is_from_to low high (high_of b x)) _ (λ _. All-one P (high_tell x (low -ℤ pos 1)) (high_placed clamped count xs variables k (low -ℤ pos 1) h))))

  range_placed : (b : Bounds) (low high : ℤ) → All P (range_tells xs b low high)
  range_placed b low high =
      let n = places_inside b low high xs in
      All-when P (int_le low high) _ (λ _.
      All-append P (when (int_lt (numbers_between low high) (pos n)) (none_tells xs)) (when (int_eq (pos n) (numbers_between low high)) (flat_map (outside_tells b low high) xs))
      (All-when P (int_lt (numbers_between low high) (pos n)) (none_tells xs) (λ _. none_placed clamped count xs variables))
      (All-when P (int_eq (pos n) (numbers_between low high)) (flat_map (outside_tells b low high) xs) (λ _. All-flat_map P (outside_tells b low high) xs 0 (λ k h. outside_placed b low high k h))))

  pub all_different_placed : (b : Bounds) → All P (all_different_tells xs b)
  all_different_placed b = All-flat_map P (λ x. flat_map (λ y. range_tells xs b (low_of b x) (high_of b y)) xs) xs 0 (λ i h.
      All-flat_map P (λ y. range_tells xs b (low_of b (get_or xs i 0)) (high_of b y)) xs 0 (λ j l. range_placed b (low_of b (get_or xs i 0)) (high_of b (get_or xs j 0))))

-- ---- the variables alone

pub count_same : (p q : ℕ → Bool) (xs : List ℕ) → ((i : ℕ) → i < length xs → p (get_or xs i 0) ≡ q (get_or xs i 0)) → count_by p xs ≡ count_by q xs
count_same p q [] h = refl
count_same p q (x ∷ xs) h =
    let a = count_step p x xs in
    let b = count_step q x xs in
    let first = ap (λ (t : Bool). cond {A = ℕ} t 1 0) (h 0 (omega arith)) in
    let rest = count_same p q xs (λ i l. h (suc i) (omega arith)) in
    omega arith

module _ (xs : List ℕ) (b c : Bounds) (agree : AgreeIn xs b c) where
  inside_same : (low high : ℤ) (i : ℕ) → i < length xs → is_inside b low high (get_or xs i 0) ≡ is_inside c low high (get_or xs i 0)
  unfolding is_inside
  inside_same low high i h = let p = agree.lows i h in let q = agree.highs i h in (λ k. int_le low (p k) && int_le (q k) high)

  outside_same : (low high : ℤ) (i : ℕ) → i < length xs → outside_tells b low high (get_or xs i 0) ≡ outside_tells c low high (get_or xs i 0)
  outside_same low high i h =
      let x = get_or xs i 0 in
      let p = agree.lows i h in let q = agree.highs i h in let r = inside_same low high i h in
      (λ k. when (not (r k)) (when (is_from_to low high (p k)) (low_tell x (high +ℤ pos 1) ∷ []) ++ when (is_from_to low high (q k)) (high_tell x (low -ℤ pos 1) ∷ [])))

  range_same : (low high : ℤ) → range_tells xs b low high ≡ range_tells xs c low high
  unfolding places_inside
  range_same low high =
      let n = count_same (is_inside b low high) (is_inside c low high) xs (inside_same low high) in
      let o = flat_map_same (outside_tells b low high) (outside_tells c low high) xs 0 (outside_same low high) in
      (λ k. when (int_le low high) (when (int_lt (numbers_between low high) (pos (n k))) (none_tells xs) ++ when (int_eq (pos (n k)) (numbers_between low high)) (o k)))

  pub all_different_local : all_different_tells xs b ≡ all_different_tells xs c
  all_different_local = flat_map_same (λ x. flat_map (λ y. range_tells xs b (low_of b x) (high_of b y)) xs) (λ x. flat_map (λ y. range_tells xs c (low_of c x) (high_of c y)) xs) xs 0 (λ i h.
      flat_map_same (λ y. range_tells xs b (low_of b (get_or xs i 0)) (high_of b y)) (λ y. range_tells xs c (low_of c (get_or xs i 0)) (high_of c y)) xs 0 (λ j l.
      let p = agree.lows i h in let q = agree.highs j l in
      (λ k. range_tells xs b (p k) (q k)) ∙ range_same (low_of c (get_or xs i 0)) (high_of c (get_or xs j 0))))

pub all_different_local_relation : (xs : List ℕ) (f g : List ℤ) → SameValuesIn xs f g → AreAllDifferent xs f → AreAllDifferent xs g
all_different_local_relation xs f g same apart = λ i j d less l e.
    let at : (k : ℕ) → k < length xs → value_of f (get_or xs k d) ≡ value_of g (get_or xs k d) = (λ k h. ap (value_of f) (get_or_default xs k d 0 h) ∙ same k h ∙ ap (value_of g) (get_or_default xs k 0 d h)) in
    apart i j d less l (at i (omega arith) ∙ e ∙ sym (at j l))
