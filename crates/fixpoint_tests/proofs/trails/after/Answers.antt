-- The two pairs are in range.
use Rattle.std.proofs.Common.{ℕ, zero, suc, ◌<◌, pos, negsuc, [], ◌∷◌, arith}
use Rattle.interval.specs.Limits.{IsBound, bound_limit, largest_number, box_limit}
use Rattle.interval.specs.Boxes.{low_of, high_of, IsInRange}
use Rattle.fixpoint_tests.proofs.trails.after.Goals as goal

lows : (v : ℕ) → v < 2 → IsBound (low_of ((pos 0, pos 9) ∷ (negsuc 4, pos 5) ∷ []) v)
unfolding bound_limit largest_number
lows zero h = omega arith
lows (suc zero) h = omega arith
lows (suc (suc v)) h = absurd (omega arith)

highs : (v : ℕ) → v < 2 → IsBound (high_of ((pos 0, pos 9) ∷ (negsuc 4, pos 5) ∷ []) v)
unfolding bound_limit largest_number
highs zero h = omega arith
highs (suc zero) h = omega arith
highs (suc (suc v)) h = absurd (omega arith)

in_range : IsInRange ((pos 0, pos 9) ∷ (negsuc 4, pos 5) ∷ [])
unfolding box_limit
in_range = record { short = omega arith; lows = λ v h. lows v (omega arith); highs = λ v h. highs v (omega arith) }

pub from_pairs-requires : goal.from_pairs-requires
from_pairs-requires c = in_range
