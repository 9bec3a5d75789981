-- Where a number that is written in decimal ends.
use Rattle.std.proofs.Common.{◌≡◌, ◌+◌, ◌%◌, ◌<◌, ◌^◌, ℕ, suc, ℤ, pos, negsuc, Bool, true, not, cond, List, [], ◌∷◌, ◌++◌, length, take, drop, refl, sym, ap, ◌∙◌, arith, take_at, drop_at}
use Rattle.std.specs.Prelude.{unsigned_abs}
use Rattle.std.specs.Fmt.{decimal, signed_decimal}
use Rattle.std.specs.List.{list_all, position_or_len, prefix_len}
use Rattle.std.proofs.lemmas.Fmt.{decimal_by_steps}
use Rattle.std.proofs.lemmas.Bool.{and_parts, and_from}
use Rattle.std.proofs.lemmas.Bool.Decides.{nat_tests}
use Rattle.std.proofs.lemmas.Int.{ints}
use Rattle.std.proofs.lemmas.List.Folds.{list_all-append}
use Rattle.constraint_model.specs.Numbers.{IsInProfile, largest}
use Rattle.fzn_print.specs.Lines.{is_number_byte, EndsNumber}

digit_byte : (d : ℕ) → d < 10 → is_number_byte (48 + d) ≡ true
digit_byte d h = grind (arith, nat_tests)

all_more : (ds : List ℕ) (b : ℕ) → list_all is_number_byte ds ≡ true → is_number_byte b ≡ true → list_all is_number_byte (ds ++ b ∷ []) ≡ true
all_more ds b h g = list_all-append is_number_byte ds (b ∷ []) ∙ and_from (list_all is_number_byte ds) _ h (and_from (is_number_byte b) true g refl)

decimal_bytes : (n : ℕ) → n < 2 ^ 64 → list_all is_number_byte (decimal n) ≡ true
decimal_bytes n h =
    decimal_by_steps (λ m ds. list_all is_number_byte ds ≡ true)
    (λ m small. and_from (is_number_byte (48 + m)) true (digit_byte m small) refl)
    (λ m ds large so_far. all_more ds (48 + m % 10) so_far (digit_byte (m % 10) (omega arith)))
    n h

signed_bytes : (z : ℤ) → unsigned_abs z < 2 ^ 63 → list_all is_number_byte (signed_decimal z) ≡ true
signed_bytes (pos n) h = decimal_bytes n (omega (arith, h))
signed_bytes (negsuc n) h = decimal_bytes (suc n) (omega (arith, ints, h))

-- the run of these bytes ends where the number does
run_len : (piece tail : List ℕ) → list_all is_number_byte piece ≡ true → EndsNumber tail → position_or_len (λ b. not (is_number_byte b)) (piece ++ tail) ≡ length piece
run_len [] [] all ends = refl
run_len [] (b ∷ bs) all ends = ap (λ (t : Bool). cond (not (not t)) (1 + prefix_len (λ b. not (not (is_number_byte b))) bs) 0) ends
run_len (x ∷ xs) tail all ends =
    let parts = and_parts (is_number_byte x) (list_all is_number_byte xs) all in
    ap (λ (t : Bool). cond (not (not t)) (1 + prefix_len (λ b. not (not (is_number_byte b))) (xs ++ tail)) 0) parts.0
    ∙ ap (λ (n : ℕ). 1 + n) (run_len xs tail parts.1 ends) ∙ one_more (length xs)
  where
    one_more : (n : ℕ) → 1 + n ≡ suc n
    one_more n = omega arith

pub small : (z : ℤ) → IsInProfile z → unsigned_abs z < 2 ^ 63
unfolding largest
small z h = omega (arith, h)

-- a number at the front, and what stands behind it
pub number_front : (rest tail : List ℕ) (z : ℤ) (n : ℕ) → IsInProfile z → EndsNumber tail → rest ≡ signed_decimal z ++ tail → n ≡ position_or_len (λ b. not (is_number_byte b)) rest
    → (take n rest ≡ signed_decimal z) × (drop n rest ≡ tail)
number_front rest tail z n h ends is at =
    let long : n ≡ length (signed_decimal z) = at ∙ ap (position_or_len (λ b. not (is_number_byte b))) is ∙ run_len (signed_decimal z) tail (signed_bytes z (small z h)) ends in
    (ap (take n) is ∙ take_at (signed_decimal z) tail n (sym long), ap (drop n) is ∙ drop_at (signed_decimal z) tail n (sym long))
