-- All ones are shifted out but those of the numbers up to the last.
use Rattle.std.proofs.Common.{ℕ, ◌≡◌, ◌+◌, ◌-◌, ◌^◌, ◌∙◌, ap, arith}
use Rattle.std.proofs.lemmas.Nat.Bits.{ones_shr}
use Rattle.bit_domain.proofs.mix.first_numbers.Goals as goal

pub returns : goal.returns
returns c =
    let e : 64 - (63 - c.args.last) ≡ c.args.last + 1 = omega arith in
    ones_shr 64 (63 - c.args.last) (omega arith) ∙ ap (λ (n : ℕ). 2 ^ n - 1) e
