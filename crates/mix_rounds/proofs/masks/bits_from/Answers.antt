use Rattle.std.proofs.Common.{arith}
use Rattle.std.proofs.lemmas.Int.{ints}
use Rattle.std.proofs.lemmas.Nat.Bits.{bit_at_ones}
use Rattle.mix_rounds.proofs.masks.bits_from.Goals as goal

pub returns-then-bound-base : goal.returns-then-bound-base
returns-then-bound-base c = λ i h. ((λ one. omega (arith, ints)), (λ fits. bit_at_ones 64 i h))
