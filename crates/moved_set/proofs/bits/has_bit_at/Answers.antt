use Rattle.std.proofs.Common.{◌/◌, ◌%◌, ◌==◌, ℕ, get_or, ap}
use Rattle.std.proofs.lemmas.Nat.Bits.{shr_and_one}
use Rattle.moved_set.proofs.bits.has_bit_at.Goals as goal

pub returns : goal.returns
returns c = ap (λ (n : ℕ). n == 1) (shr_and_one (get_or c.args.words.now (c.args.j / 32) 0) (c.args.j % 32))
