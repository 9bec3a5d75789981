use Rattle.std.proofs.Common.{arith}
use Rattle.std.proofs.lemmas.Int.{ints}
use Rattle.interval.specs.Limits.{bound_limit, largest_number}
use Rattle.domain_tests.proofs.Twos.{two_in_range}
use Rattle.domain_tests.proofs.mixes.closed.Goals as goal

pub from_pairs-requires : goal.from_pairs-requires
unfolding bound_limit largest_number
from_pairs-requires c = two_in_range _ _ _ _ (omega (arith, ints)) (omega (arith, ints)) (omega (arith, ints)) (omega (arith, ints))
