-- The digits of a literal are text, and the test of digits says what the standard's reading asks.
use Rattle.std.proofs.Common.{◌≡◌, ℕ, zero, suc, ◌<◌, ◌≤◌, List, [], ◌∷◌, length, take, drop, get_or, true, false, cond, ◌&&◌, ltb, nat_eq, nat_le, Option, Some, None, refl, sym, ap, ◌∙◌, arith, lit<}
use Rattle.std.specs.Prelude.{bytes_eq, codes}
use Rattle.std.specs.Bool.{Decides}
use Rattle.std.specs.Char.{digit_value}
use Rattle.std.specs.List.{list_all}
use Rattle.std.specs.Str.{IsUtf8}
use Rattle.std.specs.Str.Parse.{IsNumeral, AllDigits, digits_value}
use Rattle.std.proofs.lemmas.Str.{IsUtf8-from_ascii}
use Rattle.std.proofs.lemmas.Bool.{false_from_ne_true, and_parts, and_right, le-leb}
use Rattle.std.proofs.lemmas.Bool.Decides.{nat_tests, Decides-and, Decides-ltb}
use Rattle.constraint_model.specs.Numbers.{largest}
use Rattle.fzn_model.specs.Literals.{is_numeral, number_in, natural_of}

-- a byte that is a digit of a base is ASCII, and no plus
digit_small : (c base : ℕ) → base ≤ 16 → digit_value c < base → c < 128
digit_small c base l h = grind (arith, nat_tests)

no_plus_first : (base : ℕ) (ds : List ℕ) → base ≤ 16 → get_or ds 0 0 ≡ 43 → IsNumeral base ds → ⊥
no_plus_first base [] l e h = omega arith
no_plus_first base (c ∷ cs) l e h = let k : digit_value c < base = h.1.0 in grind (arith, nat_tests)

all_digits_test : (base : ℕ) (ds : List ℕ) → Decides (list_all (λ c. ltb (digit_value c) base) ds) (AllDigits base ds)
all_digits_test base [] = ((λ _. tt), (λ _. refl))
all_digits_test base (c ∷ cs) = Decides-and (ltb (digit_value c) base) (list_all (λ c. ltb (digit_value c) base) cs) (Decides-ltb (digit_value c) base) (all_digits_test base cs)

pub numeral_test : (base : ℕ) (ds : List ℕ) → Decides (is_numeral base ds) (IsNumeral base ds)
numeral_test base ds = Decides-and (ltb 0 (length ds)) (list_all (λ c. ltb (digit_value c) base) ds) (Decides-ltb 0 (length ds)) (all_digits_test base ds)

digits_small : (base : ℕ) (ds : List ℕ) → base ≤ 16 → AllDigits base ds → (i : ℕ) → get_or ds i 0 < 128
digits_small base [] l h zero = lit< tt
digits_small base [] l h (suc i) = lit< tt
digits_small base (c ∷ cs) l h zero = digit_small c base l h.0
digits_small base (c ∷ cs) l h (suc i) = digits_small base cs l h.1 i

pub numeral_is_text : (base : ℕ) (ds : List ℕ) → base ≤ 16 → is_numeral base ds ≡ true → IsUtf8 ds
numeral_is_text base ds l h = IsUtf8-from_ascii ds (digits_small base ds l ((numeral_test base ds).0 h).1)

pub no_plus : (base : ℕ) (ds : List ℕ) → base ≤ 16 → get_or ds 0 0 ≡ 43 → is_numeral base ds ≡ false
no_plus base ds l e = false_from_ne_true (is_numeral base ds) (λ h. no_plus_first base ds l e ((numeral_test base ds).0 h))

-- ---- decimal digits alone

no_letter : (c b : ℕ) → ltb (digit_value c) 10 ≡ true → 58 ≤ b → nat_eq c b ≡ false
no_letter c b h l = grind (arith, nat_tests)

-- digits don't begin a number in another base
no_base : (b : ℕ) (s : List ℕ) → 58 ≤ b → list_all (λ c. ltb (digit_value c) 10) s ≡ true → bytes_eq (take 2 s) (48 ∷ b ∷ []) ≡ false
no_base b [] l h = refl
no_base b (c ∷ []) l h = and_right (nat_eq c 48) false refl
no_base b (c ∷ d ∷ ds) l h =
    let rest = and_parts (ltb (digit_value c) 10) (list_all (λ c. ltb (digit_value c) 10) (d ∷ ds)) h in
    let digit = and_parts (ltb (digit_value d) 10) (list_all (λ c. ltb (digit_value c) 10) ds) rest.1 in
    and_right (nat_eq c 48) (nat_eq d b && true) (ap (λ t. t && true) (no_letter d b digit.0 l))

-- the number of few decimal digits
pub natural_short : (s : List ℕ) (n : ℕ) → is_numeral 10 s ≡ true → n ≡ digits_value 10 s → n ≤ 999999999 → natural_of s ≡ Some n
unfolding natural_of number_in largest
natural_short s n e same small =
    let digits = (and_parts (ltb 0 (length s)) (list_all (λ c. ltb (digit_value c) 10) s) e).1 in
    let decimal : Option ℕ = number_in 10 s in
    let octal : Option ℕ = cond (bytes_eq (take 2 s) (codes "0o")) (number_in 8 (drop 2 s)) decimal in
    let fits : nat_le (digits_value 10 s) largest ≡ true = le-leb (digits_value 10 s) largest (omega (arith, same, small)) in
    ap (λ t. cond t (number_in 16 (drop 2 s)) octal) (no_base 120 s (omega arith) digits)
    ∙ ap (λ t. cond t (number_in 8 (drop 2 s)) decimal) (no_base 111 s (omega arith) digits)
    ∙ ap (λ t. cond (t && nat_le (digits_value 10 s) largest) (Some (digits_value 10 s)) None) e
    ∙ ap (λ t. cond t (Some (digits_value 10 s)) None) fits
    ∙ ap Some (sym same)

pub ruleset number_laws = (numeral_test, numeral_is_text, no_plus)
