-- The least and the greatest member of a set.
use Rattle.std.proofs.Common.{ℕ, suc, ◌≡◌, ◌≢◌, ◌-◌, ◌/◌, ◌%◌, ◌^◌, ◌<◌, ◌≤◌, arith, subst, ap, w64}
use Rattle.std.specs.Int.{bit_at}
use lib.Count.{count_leading_zeros, count_trailing_zeros}
use Rattle.std.proofs.lemmas.Nat.{leading_top, div_below, le-div, pow_pos}
use Rattle.std.proofs.Math.Nat.{pow-suc}
use Rattle.std.proofs.lemmas.Nat.Bits.{bit_at-trailing_zeros, bit_at_above}
use Rattle.bit_domain.specs.Bits.{IsLeast, IsGreatest}

pub least_is : (set : ℕ) → set ≢ 0 → set < 2 ^ 64 → IsLeast set (count_trailing_zeros 64 set)
least_is set some short =
    let r = bit_at-trailing_zeros w64 set (omega arith) short in record { small = r.0; inside = r.1; below = r.2 }

top_bit : (a j : ℕ) → 2 ^ j ≤ a → a < 2 ^ suc j → bit_at a j ≡ 1
top_bit a j low high =
    let p = pow_pos j in
    let twice = pow-suc 2 j in
    let one : 1 ≤ a / 2 ^ j = le-div 1 a (2 ^ j) p (omega arith) in
    let two : a / 2 ^ j < 2 = div_below a (2 ^ j) 2 p (omega arith) in
    let e : a / 2 ^ j ≡ 1 = omega arith in
    ap (λ (n : ℕ). n % 2) e

pub greatest_is : (set : ℕ) → set ≢ 0 → set < 2 ^ 64 → IsGreatest set (63 - count_leading_zeros 64 set)
greatest_is set some short =
    let t = leading_top 64 set (omega arith) short in
    let place : t.0 ≡ 63 - count_leading_zeros 64 set = (let e = t.1 in omega arith) in
    let small : t.0 < 64 = (let e = t.1 in omega arith) in
    subst (IsGreatest set) place (record {
      small = small;
      inside = top_bit set t.0 t.2 t.3;
      above = λ j more. bit_at_above set (suc t.0) j t.3 (omega arith);
    })
