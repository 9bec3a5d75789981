-- The sums so far and those of the terms that are left are the whole sums, and no term makes them leave their range.
use Rattle.std.proofs.Common.{◌≡◌, ◌+ℤ◌, ◌*◌, ◌≤◌, drop, unsigned_abs}
use Rattle.std.specs.List.{zip}
use Rattle.bit_domain.specs.Mixes.{hull}
use Rattle.sum_tells.specs.Linear.{sum_over, least_of, greatest_of, product_limit}
use Rattle.domain_drops.proofs.sums.sum_range.Given as goal

abbrev pub invariant-loop-i : goal.invariant-loop-i
invariant-loop-i l = record {
  least : l.sum.least +ℤ sum_over (least_of (hull l.m)) (drop l.i (zip l.coeffs l.vars)) ≡ sum_over (least_of (hull l.m)) (zip l.coeffs l.vars);
  greatest : l.sum.greatest +ℤ sum_over (greatest_of (hull l.m)) (drop l.i (zip l.coeffs l.vars)) ≡ sum_over (greatest_of (hull l.m)) (zip l.coeffs l.vars);
  least_small : unsigned_abs l.sum.least ≤ l.i * product_limit;
  greatest_small : unsigned_abs l.sum.greatest ≤ l.i * product_limit;
}
