use Rattle.std.proofs.Common.{arith}
use Rattle.std.proofs.lemmas.Int.{ints}
use Rattle.propagator_tests.proofs.Examples.{four_in_range}
use Rattle.propagator_tests.proofs.four_variables.box_of.Goals as goal

pub from_pairs-requires : goal.from_pairs-requires
from_pairs-requires g c = four_in_range _ _ _ _ (omega (arith, ints), omega (arith, ints)) (omega (arith, ints), omega (arith, ints)) (omega (arith, ints), omega (arith, ints)) (omega (arith, ints), omega (arith, ints))
