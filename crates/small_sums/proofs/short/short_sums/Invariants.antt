-- The sums so far and those of the terms that are left are the whole sums, and the terms so far are small.
use Rattle.std.proofs.Common.{◌≡◌, ℕ, pos, ◌+ℤ◌, ◌≤ℤ◌, ◌<◌, ◌≤◌, drop, get_or, unsigned_abs}
use Rattle.std.specs.List.{zip}
use Rattle.sum_tells.specs.Linear.{sum_over, least_of, greatest_of}
use Rattle.small_sums.specs.Short.{short_sum_limit, HasBounds, growth_of}
use Rattle.small_sums.proofs.short.short_sums.Given as goal

abbrev pub invariant-loop-i : goal.invariant-loop-i
invariant-loop-i l = record {
  least : l.sums.least +ℤ sum_over (least_of l.b) (drop l.i (zip l.coeffs l.vars)) ≡ sum_over (least_of l.b) (zip l.coeffs l.vars);
  greatest : l.sums.greatest +ℤ sum_over (greatest_of l.b) (drop l.i (zip l.coeffs l.vars)) ≡ sum_over (greatest_of l.b) (zip l.coeffs l.vars);
  least_in_range : unsigned_abs l.sums.least ≤ short_sum_limit;
  greatest_in_range : unsigned_abs l.sums.greatest ≤ short_sum_limit;
  above_zero : pos 0 ≤ℤ l.sums.widest;
  bounds : (k : ℕ) → k < l.i → HasBounds l.b (get_or l.vars k 0);
  within : (k : ℕ) → k < l.i → growth_of l.b (get_or l.coeffs k (pos 0)) (get_or l.vars k 0) ≤ℤ l.sums.widest;
}
