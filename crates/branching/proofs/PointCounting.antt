-- Points of boxes, counted.
use Rattle.std.proofs.Common.{◌≡◌, ℕ, zero, suc, ℤ, pos, negsuc, ◌+◌, ◌*◌, ◌≤◌, ◌<◌, ◌+ℤ◌, ◌-ℤ◌, ◌≤ℤ◌, ◌<ℤ◌, [], ◌∷◌, length, refl, sym, ap, subst, ◌∙◌, Bool, true, false, cond, arith}
use Rattle.std.proofs.lemmas.Int.{ints}
use Rattle.std.proofs.lemmas.Nat.{mul-le}
use Rattle.std.proofs.Math.Nat.{add-mul, mul-add, one-le-mul}
use Rattle.interval.specs.Boxes.{Bounds, low_of, high_of, put_of, IsProper, IsInside}
use Rattle.interval.specs.Quotients.{QuotientOrder}
use Rattle.constraint_model.specs.declared.model.ValSel.{ValSel}
use Rattle.branching.specs.Parts.{cut_in, is_upper_first, lower_part, upper_part, left_of, right_of}
use Rattle.branching.specs.Points.{from_zero, numbers_in, points_of, PointCounts}
use Rattle.branching.proofs.PartLaws.{cut_between}
use Rattle.branching.proofs.PickLaws.{declared_choice}

-- ---- numbers from low to high

from_zero_le : (x y : ℤ) → x ≤ℤ y → from_zero x ≤ from_zero y
from_zero_le (pos m) (pos n) h = omega (arith, ints)
from_zero_le (pos m) (negsuc n) h = absurd (omega (arith, ints))
from_zero_le (negsuc m) (pos n) h = omega arith
from_zero_le (negsuc m) (negsuc n) h = omega arith

from_zero_is : (z : ℤ) → pos 0 ≤ℤ z → pos (from_zero z) ≡ z
from_zero_is (pos n) h = refl
from_zero_is (negsuc n) h = absurd (omega (arith, ints))

numbers_is : (low high : ℤ) → low ≤ℤ (high +ℤ pos 1) → pos (numbers_in low high) ≡ high -ℤ low +ℤ pos 1
numbers_is low high h = from_zero_is (high -ℤ low +ℤ pos 1) (omega (arith, ints))

two_sums : (low cut high : ℤ) (x y z : ℕ) → pos x ≡ cut -ℤ low +ℤ pos 1 → pos y ≡ high -ℤ (cut +ℤ pos 1) +ℤ pos 1 → pos z ≡ high -ℤ low +ℤ pos 1 → x + y ≡ z
two_sums low cut high x y z e f g = omega (arith, ints)

two_numbers : (low cut high : ℤ) → low ≤ℤ cut → cut <ℤ high → numbers_in low cut + numbers_in (cut +ℤ pos 1) high ≡ numbers_in low high
two_numbers low cut high h k =
    two_sums low cut high (numbers_in low cut) (numbers_in (cut +ℤ pos 1) high) (numbers_in low high)
    (numbers_is low cut (omega (arith, ints))) (numbers_is (cut +ℤ pos 1) high (omega (arith, ints))) (numbers_is low high (omega (arith, ints)))

-- ---- products

inside_points : (inner outer : Bounds) → IsInside inner outer → points_of inner ≤ points_of outer
unfolding points_of
inside_points [] [] i = omega arith
inside_points [] (q ∷ outer) i = absurd (let e = i.same_length in omega arith)
inside_points (p ∷ inner) [] i = absurd (let e = i.same_length in omega arith)
inside_points (p ∷ inner) (q ∷ outer) i =
    mul-le (numbers_in p.0 p.1) (points_of inner) (numbers_in q.0 q.1) (points_of outer)
    (let l : q.0 ≤ℤ p.0 = i.lows 0 (omega arith) in let h : p.1 ≤ℤ q.1 = i.highs 0 (omega arith) in from_zero_le (p.1 -ℤ p.0 +ℤ pos 1) (q.1 -ℤ q.0 +ℤ pos 1) (omega (arith, ints)))
    (inside_points inner outer (record {
      same_length = let e = i.same_length in omega arith;
      lows = λ v h. i.lows (suc v) (omega arith);
      highs = λ v h. i.highs (suc v) (omega arith);
    }))

some_number : (low high : ℤ) (n : ℕ) → low ≤ℤ high → pos n ≡ high -ℤ low +ℤ pos 1 → 1 ≤ n
some_number low high n h e = omega (arith, ints)

proper_points : (b : Bounds) → IsProper b → 1 ≤ points_of b
unfolding points_of
proper_points [] h = omega arith
proper_points (p ∷ b) h =
    let l : p.0 ≤ℤ p.1 = h 0 (omega arith) in
    one-le-mul {a = numbers_in p.0 p.1} {b = points_of b} (some_number p.0 p.1 (numbers_in p.0 p.1) l (numbers_is p.0 p.1 (omega (arith, ints)))) (proper_points b (λ v k. h (suc v) (omega arith)))

-- a box with one pair in two parts
put_points : (b : Bounds) (p : ℕ) (low high low' high' : ℤ) → p < length b →
    numbers_in low high + numbers_in low' high' ≡ numbers_in (low_of b p) (high_of b p) →
    points_of (put_of b p low high) + points_of (put_of b p low' high') ≡ points_of b
unfolding points_of
put_points [] p low high low' high' h e = absurd (omega arith)
put_points (q ∷ b) zero low high low' high' h e =
    sym (add-mul (numbers_in low high) (numbers_in low' high') (points_of b)) ∙ ap (λ (n : ℕ). n * points_of b) e
put_points (q ∷ b) (suc p) low high low' high' h e =
    sym (mul-add (numbers_in q.0 q.1) (points_of (put_of b p low high)) (points_of (put_of b p low' high')))
    ∙ ap (λ (n : ℕ). numbers_in q.0 q.1 * n) (put_points b p low high low' high' (omega arith) e)

either_order : (upper_first : Bool) (b x y : Bounds) → points_of x + points_of y ≡ points_of b →
    points_of (cond upper_first y x) + points_of (cond upper_first x y) ≡ points_of b
either_order false b x y e = e
either_order true b x y e = omega (arith, e)

part_points : QuotientOrder → (s : ValSel) (b : Bounds) (p : ℕ) → p < length b → low_of b p <ℤ high_of b p → points_of (left_of s b p) + points_of (right_of s b p) ≡ points_of b
part_points q s b p h u =
    let k = cut_between q s (low_of b p) (high_of b p) u in
    let cut = cut_in s b p in
    either_order (is_upper_first s) b (lower_part b p cut) (upper_part b p cut)
    (put_points b p (low_of b p) cut (cut +ℤ pos 1) (high_of b p) h (two_numbers (low_of b p) cut (high_of b p) k.0 k.1))

pub point_counts : QuotientOrder → PointCounts
point_counts q = record {
  inside = inside_points;
  proper = λ b h. proper_points b h;
  parts = λ model b left right rule long proper br.
      let d = declared_choice model b rule br.phase br.var br.choice in
      subst (λ (x : Bounds). points_of x + points_of right ≡ points_of b) (sym br.left_is)
      (subst (λ (y : Bounds). points_of (left_of br.phase.val_sel b (suc br.var)) + points_of y ≡ points_of b) (sym br.right_is)
      (part_points q br.phase.val_sel b (suc br.var) (omega arith) br.choice.chosen.unfixed));
}
