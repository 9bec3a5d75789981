-- Sets of places: their members, how many they are, and what two have in common.
use Rattle.std.proofs.Common.{ℕ, zero, suc, ◌≡◌, ◌+◌, ◌-◌, ◌*◌, ◌^◌, ◌<◌, ◌≤◌, Bool, true, false, cond, List, [], ◌∷◌, length, map, bit_and, count_by, drop, get_or, refl, sym, ap, subst, ◌∙◌, arith, length-drop, pow_mono}
use Rattle.std.specs.Prelude.{◌&&◌}
use Rattle.std.proofs.lemmas.Nat.{and_block}
use Rattle.std.proofs.lemmas.List.{length-map}
use Rattle.std.specs.Int.RustNames.{count_ones}
use lib.Lanes.{mask_l}
use Rattle.std.proofs.lemmas.Simd.{ones-mask_l, mask_l-lt}
use Rattle.global_tells.specs.Places.{mask_of}

lanes_of : (test : ℕ → Bool) (xs : List ℕ) → mask_of test xs ≡ mask_l (map test xs)
unfolding mask_of
lanes_of test [] = refl
lanes_of test (x ∷ xs) = let r = lanes_of test xs in ap (λ (n : ℕ). cond (test x) 1 0 + 2 * n) r

pub count_of : (test : ℕ → Bool) (xs : List ℕ) → count_ones (mask_of test xs) ≡ count_by test xs
count_of test xs = ap count_ones (lanes_of test xs) ∙ ones-mask_l test xs

both_digits : (a b : Bool) (m n : ℕ) → bit_and (cond a 1 0 + 2 * m) (cond b 1 0 + 2 * n) ≡ cond (a && b) 1 0 + 2 * bit_and m n
both_digits a b m n = digits a b
  where
    block : (r s t : ℕ) → bit_and r s ≡ t → r < 2 ^ 1 → s < 2 ^ 1 → bit_and (r + 2 * m) (s + 2 * n) ≡ t + 2 * bit_and m n
    block r s t e hr hs =
        let one : r + 2 * m ≡ m * 2 ^ 1 + r = omega arith in
        let two : s + 2 * n ≡ n * 2 ^ 1 + s = omega arith in
        let back : bit_and m n * 2 ^ 1 + bit_and r s ≡ t + 2 * bit_and m n = omega arith in
        (λ i. bit_and (one i) (two i)) ∙ and_block 1 m n r s hr hs ∙ back

    digits : (a b : Bool) → bit_and (cond a 1 0 + 2 * m) (cond b 1 0 + 2 * n) ≡ cond (a && b) 1 0 + 2 * bit_and m n
    digits true true = block 1 1 1 refl (omega arith) (omega arith)
    digits true false = block 1 0 0 refl (omega arith) (omega arith)
    digits false true = block 0 1 0 refl (omega arith) (omega arith)
    digits false false = block 0 0 0 refl (omega arith) (omega arith)

-- what two sets have in common
pub both_of : (p q : ℕ → Bool) (xs : List ℕ) → bit_and (mask_of p xs) (mask_of q xs) ≡ mask_of (λ x. p x && q x) xs
unfolding mask_of
both_of p q [] = refl
both_of p q (x ∷ xs) = let r = both_of p q xs in both_digits (p x) (q x) (mask_of p xs) (mask_of q xs) ∙ ap (λ (n : ℕ). cond (p x && q x) 1 0 + 2 * n) r

mask_of-lt : (test : ℕ → Bool) (xs : List ℕ) → mask_of test xs < 2 ^ length xs
mask_of-lt test xs = let r = mask_l-lt (map test xs) in subst (λ (n : ℕ). n < 2 ^ length xs) (sym (lanes_of test xs)) (subst (λ (k : ℕ). mask_l (map test xs) < 2 ^ k) (length-map xs test) r)

-- the places of the rest of a list, which isn't all of one of 128
pub mask_of-rest-lt : (test : ℕ → Bool) (xs : List ℕ) (i : ℕ) → i < length xs → length xs ≤ 128 → mask_of test (drop (length xs - i) xs) < 2 ^ 127
mask_of-rest-lt test xs i h few =
    let r = mask_of-lt test (drop (length xs - i) xs) in
    let d = length-drop (length xs - i) xs in
    let n : length (drop (length xs - i) xs) ≡ i = omega arith in
    let le : length (drop (length xs - i) xs) ≤ 127 = omega arith in
    let m : 2 ^ length (drop (length xs - i) xs) ≤ 2 ^ 127 = pow_mono le in
    omega arith

-- one more place in front
mask_of-front : (test : ℕ → Bool) (xs : List ℕ) (i : ℕ) → i < length xs → mask_of test (drop i xs) ≡ cond (test (get_or xs i 0)) 1 0 + 2 * mask_of test (drop (i + 1) xs)
unfolding mask_of
mask_of-front test [] i h = absurd (omega arith)
mask_of-front test (x ∷ xs) zero h = refl
mask_of-front test (x ∷ xs) (suc i) h =
    let e : suc (i + 1) ≡ suc i + 1 = omega arith in
    mask_of-front test xs i (omega arith) ∙ ap (λ (n : ℕ). cond (test (get_or xs i 0)) 1 0 + 2 * mask_of test (drop n (x ∷ xs))) e

pub mask_of-next : (test : ℕ → Bool) (xs : List ℕ) (i : ℕ) → i < length xs
    → cond (test (get_or xs (length xs - 1 - i) 0)) 1 0 + 2 * mask_of test (drop (length xs - i) xs) ≡ mask_of test (drop (length xs - (i + 1)) xs)
mask_of-next test xs i h =
    let n : length xs - (i + 1) ≡ length xs - 1 - i = omega arith in
    let m : length xs - 1 - i + 1 ≡ length xs - i = omega arith in
    let f = mask_of-front test xs (length xs - 1 - i) (omega arith) in
    sym (ap (λ (k : ℕ). mask_of test (drop k xs)) n ∙ f ∙ ap (λ (k : ℕ). cond (test (get_or xs (length xs - 1 - i) 0)) 1 0 + 2 * mask_of test (drop k xs)) m)

drop_none : (test : ℕ → Bool) (xs : List ℕ) → mask_of test (drop (length xs) xs) ≡ 0
unfolding mask_of
drop_none test [] = refl
drop_none test (x ∷ xs) = drop_none test xs

pub mask_of-none : (test : ℕ → Bool) (xs : List ℕ) → mask_of test (drop (length xs - 0) xs) ≡ 0
mask_of-none test xs = let e : length xs - 0 ≡ length xs = omega arith in ap (λ (n : ℕ). mask_of test (drop n xs)) e ∙ drop_none test xs

pub mask_of-all : (test : ℕ → Bool) (xs : List ℕ) (i : ℕ) → length xs ≤ i → mask_of test (drop (length xs - i) xs) ≡ mask_of test xs
mask_of-all test xs i h = let e : length xs - i ≡ 0 = omega arith in ap (λ (k : ℕ). mask_of test (drop k xs)) e

-- sets that are the same have the same members
digit_same : (a b : Bool) (m n : ℕ) → cond a 1 0 + 2 * m ≡ cond b 1 0 + 2 * n → (a ≡ true → b ≡ true) × (m ≡ n)
digit_same true true m n e = (λ t. refl, omega arith)
digit_same true false m n e = absurd (omega arith)
digit_same false true m n e = absurd (omega arith)
digit_same false false m n e = (λ t. t, omega arith)

pub same_members : (p q : ℕ → Bool) (xs : List ℕ) → mask_of p xs ≡ mask_of q xs → (i : ℕ) → i < length xs → p (get_or xs i 0) ≡ true → q (get_or xs i 0) ≡ true
unfolding mask_of
same_members p q [] e i h t = absurd (omega arith)
same_members p q (x ∷ xs) e zero h t = (digit_same (p x) (q x) (mask_of p xs) (mask_of q xs) e).0 t
same_members p q (x ∷ xs) e (suc i) h t = same_members p q xs (digit_same (p x) (q x) (mask_of p xs) (mask_of q xs) e).1 i (omega arith) t
