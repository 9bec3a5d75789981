use Rattle.std.proofs.Common.{arith}
use Rattle.std.proofs.lemmas.Int.{ints}
use Rattle.std.proofs.lemmas.Nat.Bits.{bit_at_ones}
use Rattle.mix_rounds.proofs.masks.bits_without.Goals as goal

pub returns-then-value-base : goal.returns-then-value-base
returns-then-value-base c = λ i h. ((λ one q. omega (arith, ints)), (λ fits. bit_at_ones 64 i h))

pub returns-then-is_past : goal.returns-then-is_past
returns-then-is_past c = λ i h. ((λ one q. omega (arith, ints, c.if-is_past.ensures.past)), (λ fits. bit_at_ones 64 i h))
