-- What is left and the sizes so far make the limit.
use Rattle.std.proofs.Common.{◌≡◌, ◌+◌, take, unsigned_abs}
use Rattle.std.specs.List.{sum_by}
use Rattle.small_sums.specs.Short.{slight_limit}
use Rattle.small_sums.proofs.slight.left_of_limit.Given as goal

abbrev pub invariant-loop-coeff : goal.invariant-loop-coeff
invariant-loop-coeff l = l.left + sum_by unsigned_abs (take l.coeff-index l.coeffs) ≡ slight_limit
