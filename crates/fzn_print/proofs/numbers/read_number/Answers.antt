use Rattle.std.proofs.Common.{◌≡◌, ◌<◌, ◌^◌, ◌∙◌, ℤ, subst, sym, arith, to_z, of_z}
use Rattle.std.specs.Prelude.{unsigned_abs}
use Rattle.std.proofs.lemmas.Int.{ints}
use Rattle.std.specs.Int.{w64}
use Rattle.fzn_print.proofs.NumberLaws.{number_front, small}
use Rattle.fzn_print.proofs.numbers.read_number.Goals as goal

coded : (y z : ℤ) → unsigned_abs z < 2 ^ 63 → y ≡ z → to_z w64 (of_z w64 y) ≡ z
coded y z h e = subst (λ (x : ℤ). to_z w64 (of_z w64 x) ≡ z) (sym e) (fit z h)
  where
    fit : (z : ℤ) → unsigned_abs z < 2 ^ 63 → to_z w64 (of_z w64 z) ≡ z
    fit z h = omega (arith, ints)

pub returns : goal.returns
returns c = λ z tail value ends is.
    let front = number_front c.args.rest.now tail z c.number_len.result value.0 ends is c.number_len.ensures.value in
    let read = c.number_in.ensures z (small z value.0) (c.split_at.ensures.front ∙ front.0) in
    (coded c.number_in.result z (small z value.0) read, c.split_at.ensures.back ∙ front.1)
