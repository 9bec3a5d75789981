-- The decimal of a number: a row of digits, which a literal's reader takes back to the number.
use Rattle.std.proofs.Common.{◌≡◌, ◌<◌, ◌≤◌, ◌+◌, ◌^◌, ◌%◌, ℕ, true, false, List, [], ◌∷◌, ◌++◌, length, take, refl, ◌∙◌, ap, arith}
use Rattle.std.specs.Prelude.{nat_lt, nat_le, nat_eq, bytes_eq, ◌&&◌, ◌==◌, pos, negsuc, neg_ℤ, Some, option_map, codes}
use Rattle.std.specs.List.{list_all}
use Rattle.std.specs.Char.{is_ascii_digit, digit_value}
use Rattle.std.specs.Fmt.{decimal}
use Rattle.std.specs.Str.Parse.{digits_value, starts_with_minus, AllDigits, IsNumeral}
use Rattle.std.proofs.Math.Bool.{and-false}
use Rattle.std.proofs.lemmas.Bool.{and_parts, cond-true, cond-false, lt-ltb}
use Rattle.std.proofs.lemmas.Bool.Decides.{nat_tests}
use Rattle.std.proofs.lemmas.Fmt.{decimal_by_steps, decimal_is_IsNumeral, decimal_nonempty}
use Rattle.std.proofs.lemmas.List.Folds.{list_all-append}
use Rattle.fzn_lexer.specs.Spelling.{IsRow}
use Rattle.constraint_model.specs.Numbers.{largest}
use Rattle.fzn_model.specs.Literals.{is_numeral, number_in, natural_of, number_of}

digit_byte : (d : ℕ) → d < 10 → is_ascii_digit (48 + d) ≡ true
digit_byte d h = grind (arith, nat_tests)

row_one : (n : ℕ) → n < 10 → list_all is_ascii_digit ((48 + n) ∷ []) ≡ true
row_one n h = ap (λ t. t && true) (digit_byte n h)

row_more : (n : ℕ) (ds : List ℕ) → 10 ≤ n → list_all is_ascii_digit ds ≡ true → list_all is_ascii_digit (ds ++ ((48 + n % 10) ∷ [])) ≡ true
row_more n ds h each =
    let last = row_one (n % 10) (omega arith) in
    list_all-append is_ascii_digit ds ((48 + n % 10) ∷ []) ∙ ap (λ t. t && list_all is_ascii_digit ((48 + n % 10) ∷ [])) each ∙ last

-- a decimal is digits alone
pub all_digits : (n : ℕ) → n < 2 ^ 64 → list_all is_ascii_digit (decimal n) ≡ true
all_digits n h = decimal_by_steps (λ m ds. list_all is_ascii_digit ds ≡ true) row_one row_more n h

pub is_row : (n : ℕ) → n < 2 ^ 64 → IsRow is_ascii_digit (decimal n)
is_row n h = record { some = decimal_nonempty n h; each = all_digits n h }

-- ---- literals

-- a digit is no minus
pub digit_no_minus : (b : ℕ) → is_ascii_digit b ≡ true → (b == 45) ≡ false
digit_no_minus b t = grind (arith, nat_tests)

no_minus : (s : List ℕ) → list_all is_ascii_digit s ≡ true → starts_with_minus s ≡ false
no_minus [] e = refl
no_minus (b ∷ s) e = digit_no_minus b (and_parts (is_ascii_digit b) (list_all is_ascii_digit s) e).0

digit_other : (b c : ℕ) → is_ascii_digit b ≡ true → is_ascii_digit c ≡ false → nat_eq b c ≡ false
digit_other b c t f = grind (arith, nat_tests)

-- digits don't begin as a literal in another base does
no_base : (s : List ℕ) (c : ℕ) → list_all is_ascii_digit s ≡ true → is_ascii_digit c ≡ false → bytes_eq (take 2 s) (48 ∷ c ∷ []) ≡ false
no_base [] c e f = refl
no_base (a ∷ []) c e f = and-false (nat_eq a 48)
no_base (a ∷ b ∷ s) c e f =
    let second = (and_parts (is_ascii_digit b) (list_all is_ascii_digit s) (and_parts (is_ascii_digit a) (list_all is_ascii_digit (b ∷ s)) e).1).0 in
    ap (λ t. nat_eq a 48 && (t && true)) (digit_other b c second f) ∙ and-false (nat_eq a 48)

numeral_passes : (s : List ℕ) → AllDigits 10 s → list_all (λ c. nat_lt (digit_value c) 10) s ≡ true
numeral_passes [] h = refl
numeral_passes (c ∷ s) h = ap (λ t. t && list_all (λ d. nat_lt (digit_value d) 10) s) (lt-ltb (digit_value c) 10 h.0) ∙ numeral_passes s h.1

row_passes : (s : List ℕ) → IsNumeral 10 s → is_numeral 10 s ≡ true
row_passes s h = ap (λ t. t && list_all (λ c. nat_lt (digit_value c) 10) s) (lt-ltb 0 (length s) h.0) ∙ numeral_passes s h.1

small_le : (n : ℕ) → n < 2 ^ 32 → nat_le n largest ≡ true
unfolding largest
small_le n h = grind (arith, nat_tests)

number_in_ten : (s : List ℕ) (n : ℕ) → IsNumeral 10 s → digits_value 10 s ≡ n → n < 2 ^ 32 → number_in 10 s ≡ Some n
unfolding number_in
number_in_ten s n numeral is small =
    cond-true (is_numeral 10 s && nat_le (digits_value 10 s) largest) _ _
    (ap (λ t. t && nat_le (digits_value 10 s) largest) (row_passes s numeral) ∙ (ap (λ m. nat_le m largest) is ∙ small_le n small))
    ∙ ap (λ m. Some m) is

natural_decimal : (n : ℕ) → n < 2 ^ 32 → natural_of (decimal n) ≡ Some n
unfolding natural_of
natural_decimal n small =
    let wide : n < 2 ^ 64 = omega arith in
    let digits = all_digits n wide in
    let numeral = decimal_is_IsNumeral n wide in
    cond-false (bytes_eq (take 2 (decimal n)) (codes "0x")) _ _ (no_base (decimal n) 120 digits refl)
    ∙ (cond-false (bytes_eq (take 2 (decimal n)) (codes "0o")) _ _ (no_base (decimal n) 111 digits refl)
    ∙ number_in_ten (decimal n) n numeral.0 numeral.1 small)

-- the decimal of a number is a literal of it, and behind a minus one of its negation
pub number_decimal : (n : ℕ) → n < 2 ^ 32 → number_of (decimal n) ≡ Some (pos n)
unfolding number_of
number_decimal n small =
    let wide : n < 2 ^ 64 = omega arith in
    cond-false (starts_with_minus (decimal n)) _ _ (no_minus (decimal n) (all_digits n wide)) ∙ ap (λ o. option_map pos o) (natural_decimal n small)

pub number_negative : (n : ℕ) → n < 2 ^ 32 → number_of (45 ∷ decimal n) ≡ Some (neg_ℤ (pos n))
unfolding number_of
number_negative n small = ap (λ o. option_map (λ m. neg_ℤ (pos m)) o) (natural_decimal n small)

pub number_zero : number_of (codes "0") ≡ Some (pos 0)
unfolding number_of natural_of number_in largest
number_zero = refl

pub number_one : number_of (codes "1") ≡ Some (pos 1)
unfolding number_of natural_of number_in largest
number_one = refl

pub number_minus_one : number_of (codes "-1") ≡ Some (negsuc 0)
unfolding number_of natural_of number_in largest
number_minus_one = refl
