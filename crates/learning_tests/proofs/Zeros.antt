-- Boxes of zeros are in range.
use Rattle.std.proofs.Common.{◌≡◌, ℕ, ℤ, pos, ◌<◌, ◌≤◌, replicate, length, sym, ap, subst, arith}
use Rattle.std.proofs.lemmas.Int.{ints}
use Rattle.std.proofs.lemmas.List.{get_or-replicate, length-replicate}
use Rattle.interval.specs.Limits.{IsBound, bound_limit, largest_number, box_limit}
use Rattle.interval.specs.Boxes.{IsInRange}

zero_bound : (z : ℤ) → z ≡ pos 0 → IsBound z
unfolding bound_limit largest_number
zero_bound z e = omega (arith, ints)

short_box : (n : ℕ) → n ≤ 40 → n ≤ box_limit
unfolding box_limit
short_box n h = omega arith

-- a box of up to forty zeros
pub zeros_in_range : (n : ℕ) → n ≤ 40 → IsInRange (replicate n (pos 0, pos 0))
zeros_in_range n h =
    let zero : ℤ × ℤ = (pos 0, pos 0) in
    let same : length (replicate n zero) ≡ n = length-replicate n zero in
    record {
      short = short_box (length (replicate n zero)) (subst (λ (k : ℕ). k ≤ 40) (sym same) h);
      lows = λ v l. zero_bound _ (ap (λ (p : ℤ × ℤ). p.0) (get_or-replicate n v zero zero (subst (λ (k : ℕ). v < k) same l)));
      highs = λ v l. zero_bound _ (ap (λ (p : ℤ × ℤ). p.1) (get_or-replicate n v zero zero (subst (λ (k : ℕ). v < k) same l)));
    }
