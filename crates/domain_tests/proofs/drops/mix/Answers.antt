use Rattle.std.proofs.Common.{arith}
use Rattle.std.proofs.lemmas.Int.{ints}
use Rattle.domain_tests.proofs.Examples.{four_in_range}
use Rattle.domain_tests.proofs.drops.mix.Goals as goal

pub from_pairs-requires : goal.from_pairs-requires
from_pairs-requires g c = four_in_range _ _ _ _ (omega (arith, ints), omega (arith, ints)) (omega (arith, ints), omega (arith, ints)) (omega (arith, ints), omega (arith, ints)) (omega (arith, ints), omega (arith, ints))
