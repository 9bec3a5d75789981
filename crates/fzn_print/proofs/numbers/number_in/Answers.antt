use Rattle.std.proofs.Common.{◌≡◌, ◌<◌, ◌^◌, ◌∙◌, ℤ, pos, negsuc, List, ℕ, Ok, Err, Result, sym, ap, subst, arith, to_z, of_z}
use Rattle.std.specs.Prelude.{unsigned_abs, FitsSigned}
use Rattle.std.proofs.lemmas.Int.{ints}
use Rattle.std.specs.Int.{w64}
use lib.Signed.{mag}
use Rattle.std.specs.Fmt.{signed_decimal}
use Rattle.std.specs.Str.{IsUtf8}
use Rattle.std.proofs.lemmas.Str.{IsUtf8-from_ascii}
use Rattle.std.proofs.lemmas.Fmt.{IsAscii-signed, parse-signed_decimal}
use Rattle.fzn_print.proofs.numbers.number_in.Goals as goal

is_text : (bs : List ℕ) (z : ℤ) → mag z < 2 ^ 63 → bs ≡ signed_decimal z → IsUtf8 bs
is_text bs z short e = subst IsUtf8 (sym e) (IsUtf8-from_ascii (signed_decimal z) (IsAscii-signed z short))

small : (z : ℤ) → unsigned_abs z < 2 ^ 63 → mag z < 2 ^ 63
small (pos n) h = h
small (negsuc n) h = omega arith

fits : (z : ℤ) → unsigned_abs z < 2 ^ 63 → FitsSigned w64 z
fits z h = omega (arith, ints)

abbrev number_of : {E : Type 0} → Result ℤ E → ℤ
number_of (Ok z) = z
number_of (Err e) = pos 0

coded : (y z : ℤ) → unsigned_abs z < 2 ^ 63 → y ≡ z → to_z w64 (of_z w64 y) ≡ z
coded y z h e = subst (λ (x : ℤ). to_z w64 (of_z w64 x) ≡ z) (sym e) (fit z h)
  where
    fit : (z : ℤ) → unsigned_abs z < 2 ^ 63 → to_z w64 (of_z w64 z) ≡ z
    fit z h = omega (arith, ints)

pub returns-in_default : goal.returns-in_default
returns-in_default c = λ z short e. absurd (c.in_default.ensures.cases.0 (is_text c.args.piece.now z (small z short) e))

pub returns-in_default-from_str_radix : goal.returns-in_default-from_str_radix
returns-in_default-from_str_radix c = λ z short e.
    absurd (c.in_default-from_str_radix.not-Ok z (parse-signed_decimal w64 z c.in-Ok.text.now c.from_str_radix.result (fits z short) (small z short) (c.in-Ok.ensures.cases.0 ∙ e) c.from_str_radix.ensures.value))

pub returns : goal.returns
returns c = λ z short e.
    let read = parse-signed_decimal w64 z c.in-Ok.text.now c.from_str_radix.result (fits z short) (small z short) (c.in-Ok.ensures.cases.0 ∙ e) c.from_str_radix.ensures.value in
    coded c.in-Ok-from_str_radix.number z short (ap number_of (sym c.in-Ok-from_str_radix.is ∙ read))
