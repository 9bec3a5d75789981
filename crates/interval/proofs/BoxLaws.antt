-- Lists of pairs of bounds.
use Rattle.std.proofs.Common.{◌≡◌, ◌≢◌, ℕ, zero, suc, ◌+◌, ◌*◌, ◌^◌, ◌<◌, ◌≤◌, [], ◌∷◌, length, drop, ℤ, pos, ◌-ℤ◌, unsigned_abs, refl, ◌∙◌, ⊎_elim, arith}
use Rattle.std.proofs.lemmas.Int.{ints}
use Rattle.std.proofs.lemmas.List.{at_drop_more}
use Rattle.std.proofs.lemmas.Bool.{cases_lt}
use Rattle.interval.specs.Limits.{IsBound, bound_limit, box_limit, largest_number}
use Rattle.interval.specs.Boxes.{Bounds, low_of, high_of, IsInRange, IsProper, IsPoint, IsInside, InsideOrder, width_sum_of}

-- the sum of the widths from a place on
pub widths-drop : (b : Bounds) (i : ℕ) → i < length b → width_sum_of (drop i b) ≡ unsigned_abs (high_of b i -ℤ low_of b i) + width_sum_of (drop (i + 1) b)
unfolding width_sum_of
widths-drop b i h = at_drop_more width_sum_of b i (pos 0, pos 0) h

widths-small : (b : Bounds) → ((v : ℕ) → v < length b → IsBound (low_of b v)) → ((v : ℕ) → v < length b → IsBound (high_of b v)) → width_sum_of b ≤ length b * (bound_limit + bound_limit)
unfolding width_sum_of
widths-small [] lows highs = omega arith
widths-small (p ∷ b) lows highs =
    let low = lows 0 (omega arith) in
    let high = highs 0 (omega arith) in
    let rest = widths-small b (λ v h. lows (suc v) (omega arith)) (λ v h. highs (suc v) (omega arith)) in
    let one : unsigned_abs (p.1 -ℤ p.0) ≤ bound_limit + bound_limit = omega (arith, ints) in
    omega arith

-- a box's widths sum up to at most 2 ^ 66
pub widths-fit : (b : Bounds) → IsInRange b → width_sum_of b ≤ 2 ^ 66
unfolding bound_limit largest_number box_limit
widths-fit b r = let short = r.short in omega (arith, widths-small b r.lows r.highs)

-- ---- the order of boxes

inside_itself : (b : Bounds) → IsInside b b
inside_itself b = record {
  same_length = refl;
  lows = λ v h. omega (arith, ints);
  highs = λ v h. omega (arith, ints);
}

inside_through : (inner middle outer : Bounds) → IsInside inner middle → IsInside middle outer → IsInside inner outer
inside_through a b c p q =
    let one = p.same_length in
    let two = q.same_length in
    record {
      same_length = one ∙ two;
      lows = λ v h. let x = p.lows v (omega arith) in let y = q.lows v h in omega (arith, ints);
      highs = λ v h. let x = p.highs v (omega arith) in let y = q.highs v h in omega (arith, ints);
    }

-- the rest of two boxes, one inside the other
inside_rest : (x y : ℤ × ℤ) (a b : Bounds) → IsInside (x ∷ a) (y ∷ b) → IsInside a b
inside_rest x y a b p =
    let length_is = p.same_length in
    record {
      same_length = omega arith;
      lows = λ v h. p.lows (suc v) (omega arith);
      highs = λ v h. p.highs (suc v) (omega arith);
    }

inside_equal : (a b : Bounds) → IsInside a b → IsInside b a → a ≡ b
inside_equal [] [] p q = refl
inside_equal [] (y ∷ b) p q = let e = p.same_length in absurd (omega arith)
inside_equal (x ∷ a) [] p q = let e = p.same_length in absurd (omega arith)
inside_equal (x ∷ a) (y ∷ b) p q =
    let rest = inside_equal a b (inside_rest x y a b p) (inside_rest y x b a q) in
    let low_down = p.lows 0 (omega arith) in
    let low_up = q.lows 0 (omega arith) in
    let high_down = p.highs 0 (omega arith) in
    let high_up = q.highs 0 (omega arith) in
    let lows : x.0 ≡ y.0 = omega (arith, ints) in
    let highs : x.1 ≡ y.1 = omega (arith, ints) in
    (λ i. (lows i, highs i) ∷ rest i)

inside_in_range : (inner outer : Bounds) → IsProper inner → IsInRange outer → IsInside inner outer → IsInRange inner
inside_in_range a b h r p =
    let e = p.same_length in
    let short = r.short in
    record {
      short = omega arith;
      lows = λ v l. let k : v < length b = omega arith in let x = p.lows v k in let y = p.highs v k in let s = r.lows v k in let t = r.highs v k in let m = h v l in omega (arith, ints);
      highs = λ v l. let k : v < length b = omega arith in let x = p.lows v k in let y = p.highs v k in let s = r.lows v k in let t = r.highs v k in let m = h v l in omega (arith, ints);
    }

outer_proper : (inner outer : Bounds) → IsProper inner → IsInside inner outer → IsProper outer
outer_proper a b h p v k = let e = p.same_length in let x = p.lows v k in let y = p.highs v k in let m = h v (omega arith) in omega (arith, ints)

width_not_wider : (inner outer : Bounds) → IsProper inner → IsInside inner outer → width_sum_of inner ≤ width_sum_of outer
unfolding width_sum_of
width_not_wider [] b h p = omega arith
width_not_wider (x ∷ a) [] h p = let e = p.same_length in absurd (omega arith)
width_not_wider (x ∷ a) (y ∷ b) h p =
    let rest = width_not_wider a b (λ v k. h (suc v) (omega arith)) (inside_rest x y a b p) in
    let low = p.lows 0 (omega arith) in
    let high = p.highs 0 (omega arith) in
    let own = h 0 (omega arith) in
    omega (arith, ints)

-- boxes of one width sum, one inside the other, are equal
width_equal : (inner outer : Bounds) → IsProper inner → IsInside inner outer → width_sum_of outer ≤ width_sum_of inner → inner ≡ outer
unfolding width_sum_of
width_equal [] [] h p w = refl
width_equal [] (y ∷ b) h p w = let e = p.same_length in absurd (omega arith)
width_equal (x ∷ a) [] h p w = let e = p.same_length in absurd (omega arith)
width_equal (x ∷ a) (y ∷ b) h p w =
    let low = p.lows 0 (omega arith) in
    let high = p.highs 0 (omega arith) in
    let own = h 0 (omega arith) in
    let less = width_not_wider a b (λ v k. h (suc v) (omega arith)) (inside_rest x y a b p) in
    let rest = width_equal a b (λ v k. h (suc v) (omega arith)) (inside_rest x y a b p) (omega (arith, ints)) in
    let lows : x.0 ≡ y.0 = omega (arith, ints) in
    let highs : x.1 ≡ y.1 = omega (arith, ints) in
    (λ i. (lows i, highs i) ∷ rest i)

width_narrower : (inner outer : Bounds) → IsProper inner → IsInside inner outer → inner ≢ outer → width_sum_of inner < width_sum_of outer
width_narrower a b h p n = ⊎_elim (λ l. l) (λ g. absurd (n (width_equal a b h p g))) (cases_lt (width_sum_of a) (width_sum_of b))

width_zero_point : (b : Bounds) → IsProper b → width_sum_of b ≡ 0 → IsPoint b
unfolding width_sum_of
width_zero_point [] h e v k = absurd (omega arith)
width_zero_point (x ∷ b) h e zero k = let own = h 0 (omega arith) in omega (arith, ints)
width_zero_point (x ∷ b) h e (suc v) k = width_zero_point b (λ v k. h (suc v) (omega arith)) (omega arith) v (omega arith)

pub inside_order : InsideOrder
inside_order = record {
  itself = inside_itself;
  through = inside_through;
  equal = inside_equal;
  in_range = inside_in_range;
  outer_is_proper = outer_proper;
  not_wider = width_not_wider;
  narrower = width_narrower;
  point = width_zero_point;
}
