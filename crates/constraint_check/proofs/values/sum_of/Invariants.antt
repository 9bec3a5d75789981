-- The sum so far and that of the products that are left are the whole sum.
use Rattle.std.proofs.Common.{◌≡◌, ◌≤◌, ◌*◌, ◌+ℤ◌, map, drop, unsigned_abs}
use Rattle.constraint_model.specs.Relations.{dot, value}
use Rattle.constraint_check.specs.Asked.{product_limit}
use Rattle.constraint_check.proofs.values.sum_of.Given as goal

abbrev pub invariant-loop-place : goal.invariant-loop-place
invariant-loop-place l = record {
  whole : l.sum +ℤ dot (drop l.place (map (value l.solution) l.coefficients)) (drop l.place (map (value l.solution) l.terms)) ≡ dot (map (value l.solution) l.coefficients) (map (value l.solution) l.terms);
  small : unsigned_abs l.sum ≤ l.place * product_limit;
}
