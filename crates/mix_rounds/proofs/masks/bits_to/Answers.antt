use Rattle.std.proofs.Common.{arith}
use Rattle.std.proofs.lemmas.Int.{ints}
use Rattle.std.proofs.lemmas.Nat.Bits.{bit_at_ones}
use Rattle.mix_rounds.proofs.masks.bits_to.Goals as goal

pub returns-then-is_past : goal.returns-then-is_past
returns-then-is_past c = λ i h. ((λ one. omega (arith, ints, c.if-is_past.ensures.past)), (λ fits. bit_at_ones 64 i h))
