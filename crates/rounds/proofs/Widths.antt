-- The widths of a box of bounds add up to far less than a number of 128 bits.
use Rattle.std.proofs.Common.{ℕ, suc, ℤ, ◌+◌, ◌-ℤ◌, ◌*◌, ◌^◌, ◌<◌, ◌≤◌, [], ◌∷◌, length, arith}
use Rattle.std.specs.Prelude.{unsigned_abs}
use Rattle.std.proofs.lemmas.Int.{ints}
use Rattle.interval.specs.Limits.{IsBound, bound_limit, largest_number, box_limit}
use Rattle.interval.specs.Boxes.{Bounds, low_of, high_of, IsInRange, width_sum_of}

width_at_most : (low high : ℤ) → IsBound low → IsBound high → unsigned_abs (high -ℤ low) ≤ bound_limit + bound_limit
width_at_most low high l h = grind (arith, ints)

widths_at_most : (b : Bounds) → ((v : ℕ) → v < length b → IsBound (low_of b v)) → ((v : ℕ) → v < length b → IsBound (high_of b v)) →
    width_sum_of b ≤ length b * (bound_limit + bound_limit)
unfolding width_sum_of
widths_at_most [] l h = omega arith
widths_at_most (p ∷ b) l h =
    let rest : width_sum_of b ≤ length b * (bound_limit + bound_limit) = widths_at_most b (λ v k. l (suc v) (omega arith)) (λ v k. h (suc v) (omega arith)) in
    let here : unsigned_abs (p.1 -ℤ p.0) ≤ bound_limit + bound_limit = width_at_most p.0 p.1 (l 0 (omega arith)) (h 0 (omega arith)) in
    omega arith

pub widths_fit : (b : Bounds) → IsInRange b → width_sum_of b < 2 ^ 100
unfolding bound_limit largest_number box_limit
widths_fit b r =
    let w = widths_at_most b r.lows r.highs in
    let s = r.short in omega arith
