-- The parts so far and the terms that are left make the whole sums, and the parts are within the sizes so far.
use Rattle.std.proofs.Common.{◌≡◌, ℕ, pos, ◌+ℤ◌, ◌≤ℤ◌, ◌<◌, drop, take, get_or, unsigned_abs}
use Rattle.std.specs.List.{zip, sum_by}
use Rattle.sum_tells.specs.Linear.{sum_over, least_of, greatest_of}
use Rattle.small_sums.specs.Short.{HasBounds, growth_of}
use Rattle.small_sums.specs.Slight.{IsReach}
use Rattle.small_sums.proofs.slight.reach_of.Given as goal

abbrev pub invariant-loop-i : goal.invariant-loop-i
invariant-loop-i l = record {
  least : (l.reach.base +ℤ l.reach.down) +ℤ sum_over (least_of l.b) (drop l.i (zip l.coeffs l.vars)) ≡ sum_over (least_of l.b) (zip l.coeffs l.vars);
  greatest : (l.reach.base +ℤ l.reach.up) +ℤ sum_over (greatest_of l.b) (drop l.i (zip l.coeffs l.vars)) ≡ sum_over (greatest_of l.b) (zip l.coeffs l.vars);
  bounds : (k : ℕ) → k < l.i → HasBounds l.b (get_or l.vars k 0);
  within : (k : ℕ) → k < l.i → growth_of l.b (get_or l.coeffs k (pos 0)) (get_or l.vars k 0) ≤ℤ l.reach.widest;
  in_range : IsReach (sum_by unsigned_abs (take l.i l.coeffs)) l.reach;
}
