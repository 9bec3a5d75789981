-- Bits of words: the least and the greatest that is 1, those from one on and those up to one.
use Rattle.std.proofs.Common.{ℕ, suc, ◌≡◌, ◌≢◌, ◌+◌, ◌-◌, ◌*◌, ◌/◌, ◌%◌, ◌^◌, ◌<◌, ◌≤◌, ◌==◌, true, false, List, get_or, bit_and, bit_or, min, length, inl, inr, arith, refl, sym, ap, ◌∙◌, ⊎_elim, w32}
use Rattle.std.specs.Int.{bit_at}
use lib.Count.{count_leading_zeros, count_trailing_zeros}
use Rattle.std.proofs.lemmas.Bool.{true≢false, cases_lt, cases_eq}
use Rattle.std.proofs.lemmas.Bool.Decides.{Decides-eqb}
use Rattle.std.proofs.lemmas.Nat.{leading_top, div_below, le-div, pow_pos, le_or_l, le_or_r}
use Rattle.std.proofs.Math.Nat.{pow-suc}
use Rattle.std.proofs.lemmas.Nat.Bits.{bit_at-trailing_zeros, bit_at_above, bit_at_and, bit_at-lt, ones_shl, ones_shr, bit_at_mask_below, bit_at_mask_inside, bit_at_ones, bit_at_ones_above}
use Rattle.moved_set.specs.Words.{has_bit, has}
use Rattle.moved_set.specs.Asked.{IsFirst, IsLast, IsLeastAt, IsGreatestAt}
use Rattle.moved_set.proofs.SetLaws.{has_bit-zero}

is_one : (n k : ℕ) → bit_at n k ≡ 1 → has_bit n k ≡ true
is_one n k e = ap (λ (b : ℕ). b == 1) e

is_none : (n k : ℕ) → bit_at n k ≡ 0 → has_bit n k ≡ false
is_none n k e = ap (λ (b : ℕ). b == 1) e

top_bit : (a j : ℕ) → 2 ^ j ≤ a → a < 2 ^ suc j → bit_at a j ≡ 1
top_bit a j low high =
    let p = pow_pos j in
    let twice = pow-suc 2 j in
    let one : 1 ≤ a / 2 ^ j = le-div 1 a (2 ^ j) p (omega arith) in
    let two : a / 2 ^ j < 2 = div_below a (2 ^ j) 2 p (omega arith) in
    let e : a / 2 ^ j ≡ 1 = omega arith in
    ap (λ (n : ℕ). n % 2) e

pub least_at : (bits place count result : ℕ) → bits ≢ 0 → bits < 2 ^ 32 → result ≡ min (place * 32 + count_trailing_zeros 32 bits) count → IsLeastAt bits place count result
least_at bits place count result some short e = let r = bit_at-trailing_zeros w32 bits (omega arith) short in record {
  bit = count_trailing_zeros 32 bits;
  within = r.0;
  one = is_one bits _ r.1;
  below = λ i h. is_none bits i (r.2 i h);
  is = e;
}

pub greatest_at : (bits place result : ℕ) → bits ≢ 0 → bits < 2 ^ 32 → result ≡ place * 32 + (32 - count_leading_zeros 32 bits) → IsGreatestAt bits place result
greatest_at bits place result some short e = let t = leading_top 32 bits (omega arith) short in record {
  bit = t.0;
  within = (let q = t.1 in omega arith);
  one = is_one bits t.0 (top_bit bits t.0 t.2 t.3);
  above = λ i h. is_none bits i (bit_at_above bits (suc t.0) i t.3 (omega arith));
  is = (let q = t.1 in omega arith);
}

masked_out : (a m i : ℕ) → bit_at m i ≡ 0 → bit_at (bit_and a m) i ≡ 0
masked_out a m i e = let b = bit_at_and a m i in omega arith

masked_in : (a m i : ℕ) → bit_at m i ≡ 1 → bit_at (bit_and a m) i ≡ bit_at a i
masked_in a m i e = let b = bit_at_and a m i in let c = bit_at-lt a i in omega arith

pub from_below : (a k i : ℕ) → k < 32 → i < k → has_bit (bit_and a ((2 ^ 32 - 1) * 2 ^ k % 2 ^ 32)) i ≡ false
from_below a k i within less = is_none _ i (masked_out a ((2 ^ 32 - 1) * 2 ^ k % 2 ^ 32) i (ap (λ (m : ℕ). bit_at m i) (ones_shl 32 k (omega arith)) ∙ bit_at_mask_below k 32 i less))

pub from_others : (a k i : ℕ) → k < 32 → i < 32 → k ≤ i → has_bit (bit_and a ((2 ^ 32 - 1) * 2 ^ k % 2 ^ 32)) i ≡ has_bit a i
from_others a k i within inside le = ap (λ (b : ℕ). b == 1) (masked_in a ((2 ^ 32 - 1) * 2 ^ k % 2 ^ 32) i (ap (λ (m : ℕ). bit_at m i) (ones_shl 32 k (omega arith)) ∙ bit_at_mask_inside k 32 i le inside))

upto_mask : (k : ℕ) → k < 32 → (2 ^ 32 - 1) / 2 ^ (31 - k) ≡ 2 ^ (k + 1) - 1
upto_mask k within = let e : 32 - (31 - k) ≡ k + 1 = omega arith in ones_shr 32 (31 - k) (omega arith) ∙ ap (λ (n : ℕ). 2 ^ n - 1) e

pub upto_above : (a k i : ℕ) → k < 32 → k < i → has_bit (bit_and a ((2 ^ 32 - 1) / 2 ^ (31 - k))) i ≡ false
upto_above a k i within more = is_none _ i (masked_out a ((2 ^ 32 - 1) / 2 ^ (31 - k)) i (ap (λ (m : ℕ). bit_at m i) (upto_mask k within) ∙ bit_at_ones_above (k + 1) i (omega arith)))

pub upto_others : (a k i : ℕ) → k < 32 → i ≤ k → has_bit (bit_and a ((2 ^ 32 - 1) / 2 ^ (31 - k))) i ≡ has_bit a i
upto_others a k i within le = ap (λ (b : ℕ). b == 1) (masked_in a ((2 ^ 32 - 1) / 2 ^ (31 - k)) i (ap (λ (m : ℕ). bit_at m i) (upto_mask k within) ∙ bit_at_ones (k + 1) i (omega arith)))

-- ---- sweeps

-- a number of the word at a place
word_has : (words : List ℕ) (place k : ℕ) → k < 32 → has words (place * 32 + k) ≡ has_bit (get_or words place 0) k
word_has words place k h =
    let quotient : (place * 32 + k) / 32 ≡ place = omega arith in
    let rest : (place * 32 + k) % 32 ≡ k = omega arith in
    ap (λ (p : ℕ). has_bit (get_or words p 0) ((place * 32 + k) % 32)) quotient ∙ ap (has_bit (get_or words place 0)) rest

module _ (words : List ℕ) (place : ℕ) (low high : ℕ) (bits : ℕ)
    (same : (k : ℕ) → k < 32 → low ≤ place * 32 + k → place * 32 + k < high → has_bit bits k ≡ has_bit (get_or words place 0) k) where
  in_word : (j : ℕ) → low ≤ j → j < high → place * 32 ≤ j → j < place * 32 + 32 → has words j ≡ has_bit bits (j - place * 32)
  in_word j above below from to =
      let k : ℕ = j - place * 32 in
      let is : place * 32 + k ≡ j = omega arith in
      ap (has words) (sym is) ∙ word_has words place k (omega arith) ∙ sym (same k (omega arith) (omega arith) (omega arith))

  -- a word without a bit in between
  pub none_there : bits ≡ 0 → (j : ℕ) → low ≤ j → j < high → place * 32 ≤ j → j < place * 32 + 32 → has words j ≡ false
  none_there e j above below from to = in_word j above below from to ∙ ap (λ (n : ℕ). has_bit n (j - place * 32)) e ∙ has_bit-zero (j - place * 32)

-- ---- eight words that are 0

left_none : (a b : ℕ) → bit_or a b ≡ 0 → a ≡ 0
left_none a b e = let l = le_or_l a b in omega arith

right_none : (a b : ℕ) → bit_or a b ≡ 0 → b ≡ 0
right_none a b e = let l = le_or_r a b in omega arith

four_none : (words : List ℕ) (p q r s : ℕ) → q ≡ p + 1 → r ≡ p + 2 → s ≡ p + 3
    → bit_or (bit_or (bit_or (get_or words p 0) (get_or words q 0)) (get_or words r 0)) (get_or words s 0) ≡ 0
    → (i : ℕ) → p ≤ i → i < p + 4 → get_or words i 0 ≡ 0
four_none words p q r s q_is r_is s_is e i from to =
    let three : bit_or (bit_or (get_or words p 0) (get_or words q 0)) (get_or words r 0) ≡ 0 = left_none _ (get_or words s 0) e in
    let two : bit_or (get_or words p 0) (get_or words q 0) ≡ 0 = left_none _ (get_or words r 0) three in
    let at : (n : ℕ) → get_or words n 0 ≡ 0 → i ≡ n → get_or words i 0 ≡ 0 = λ n none same. ap (λ (m : ℕ). get_or words m 0) same ∙ none in
    let last : i ≢ p → i ≢ q → i ≢ r → get_or words i 0 ≡ 0 = λ a b c. at s (right_none (bit_or (bit_or (get_or words p 0) (get_or words q 0)) (get_or words r 0)) _ e) (omega arith) in
    let third : i ≢ p → i ≢ q → get_or words i 0 ≡ 0 = λ a b. ⊎_elim (at r (right_none (bit_or (get_or words p 0) (get_or words q 0)) _ three)) (last a b) (cases_eq i r) in
    let second : i ≢ p → get_or words i 0 ≡ 0 = λ a. ⊎_elim (at q (right_none (get_or words p 0) _ two)) (third a) (cases_eq i q) in
    ⊎_elim (at p (left_none _ (get_or words q 0) two)) second (cases_eq i p)

none_has : (words : List ℕ) (j : ℕ) → get_or words (j / 32) 0 ≡ 0 → has words j ≡ false
none_has words j e = ap (λ (w : ℕ). has_bit w (j % 32)) e ∙ has_bit-zero (j % 32)

pub eight_none : (words : List ℕ) (p : ℕ)
    → (bit_or (bit_or (bit_or (bit_or (get_or words p 0) (get_or words (p + 1) 0)) (get_or words (p + 2) 0)) (get_or words (p + 3) 0))
    (bit_or (bit_or (bit_or (get_or words (p + 4) 0) (get_or words (p + 5) 0)) (get_or words (p + 6) 0)) (get_or words (p + 7) 0)) == 0) ≡ true
    → (j : ℕ) → p * 32 ≤ j → j < p * 32 + 256 → has words j ≡ false
eight_none words p is j from to =
    let first : ℕ = bit_or (bit_or (bit_or (get_or words p 0) (get_or words (p + 1) 0)) (get_or words (p + 2) 0)) (get_or words (p + 3) 0) in
    let second : ℕ = bit_or (bit_or (bit_or (get_or words (p + 4) 0) (get_or words (p + 5) 0)) (get_or words (p + 6) 0)) (get_or words (p + 7) 0) in
    let e : bit_or first second ≡ 0 = (Decides-eqb (bit_or first second) 0).0 is in
    none_has words j (elim (cases_lt (j / 32) (p + 4)) [
      | inl l ↦ four_none words p (p + 1) (p + 2) (p + 3) (omega arith) (omega arith) (omega arith) (left_none first second e) (j / 32) (omega arith) l
      | inr g ↦ four_none words (p + 4) (p + 5) (p + 6) (p + 7) (omega arith) (omega arith) (omega arith) (right_none first second e) (j / 32) (omega arith) (omega arith)
    ])

pub found_first : (words : List ℕ) (place from count bits result : ℕ) → from ≤ count → from < place * 32 + 32 →
    ((j : ℕ) → from ≤ j → j < place * 32 → has words j ≡ false) →
    ((k : ℕ) → k < 32 → from ≤ place * 32 + k → has_bit bits k ≡ has_bit (get_or words place 0) k) →
    ((k : ℕ) → k < 32 → place * 32 + k < from → has_bit bits k ≡ false) →
    IsLeastAt bits place count result → IsFirst (has words) from count result
found_first words place from count bits result le near before same none least =
    let k : ℕ = least.bit in
    let within = least.within in
    let is = least.is in
    let beyond : from ≤ place * 32 + k = elim (cases_lt (place * 32 + k) from) [
      | inl l ↦ absurd (true≢false (sym least.one ∙ none k within l))
      | inr g ↦ omega arith
    ] in
    record {
      at_least = omega arith;
      at_most = omega arith;
      passed = λ j above below. elim (cases_lt j (place * 32)) [
        | inl l ↦ before j above l
        | inr g ↦ in_word words place from (place * 32 + 32) bits (λ i h a b. same i h a) j above (omega arith) (omega arith) (omega arith) ∙ least.below (j - place * 32) (omega arith)
      ];
      found = λ h.
          let here : result ≡ place * 32 + k = omega arith in
          ap (has words) here ∙ word_has words place k within ∙ sym (same k within beyond) ∙ least.one;
    }

pub found_last : (words : List ℕ) (place to bits result : ℕ) → place * 32 < to →
    ((j : ℕ) → place * 32 + 32 ≤ j → j < to → has words j ≡ false) →
    ((k : ℕ) → k < 32 → place * 32 + k < to → has_bit bits k ≡ has_bit (get_or words place 0) k) →
    ((k : ℕ) → k < 32 → to ≤ place * 32 + k → has_bit bits k ≡ false) →
    IsGreatestAt bits place result → IsLast (has words) to result
found_last words place to bits result near after same none greatest =
    let k : ℕ = greatest.bit in
    let within = greatest.within in
    let is = greatest.is in
    let before : place * 32 + k < to = elim (cases_lt (place * 32 + k) to) [
      | inl l ↦ l
      | inr g ↦ absurd (true≢false (sym greatest.one ∙ none k within (omega arith)))
    ] in
    record {
      at_most = omega arith;
      passed = λ j above below. elim (cases_lt j (place * 32 + 32)) [
        | inl l ↦ in_word words place 0 to bits (λ i h a b. same i h b) j (omega arith) below (omega arith) l ∙ greatest.above (j - place * 32) (omega arith)
        | inr g ↦ after j (omega arith) below
      ];
      found = λ h.
          let here : result - 1 ≡ place * 32 + k = omega arith in
          ap (has words) here ∙ word_has words place k within ∙ sym (same k within before) ∙ greatest.one;
    }

-- nothing from a number to the end of its word, and nothing in the words behind it
nothing_between : (words : List ℕ) (from bits place : ℕ) → bits ≡ 0
    → ((k : ℕ) → k < 32 → from % 32 ≤ k → has_bit bits k ≡ has_bit (get_or words (from / 32) 0) k)
    → ((j : ℕ) → (from / 32 + 1) * 32 ≤ j → j < place * 32 → has words j ≡ false)
    → (j : ℕ) → from ≤ j → j < place * 32 → has words j ≡ false
nothing_between words from bits place e same passed j above below = elim (cases_lt j ((from / 32 + 1) * 32)) [
  | inl l ↦ none_there words (from / 32) from ((from / 32 + 1) * 32) bits (λ k h a b. same k h (omega arith)) e j above l (omega arith) (omega arith)
  | inr g ↦ passed j (omega arith) below
]

-- the first number is in a word behind that of the number where it began
pub first_behind : (words : List ℕ) (from count bits place result : ℕ) → from ≤ count → bits ≡ 0
    → ((k : ℕ) → k < 32 → from % 32 ≤ k → has_bit bits k ≡ has_bit (get_or words (from / 32) 0) k)
    → ((j : ℕ) → (from / 32 + 1) * 32 ≤ j → j < place * 32 → has words j ≡ false)
    → from / 32 + 1 ≤ place → IsLeastAt (get_or words place 0) place count result → IsFirst (has words) from count result
first_behind words from count bits place result le e same passed at least =
    found_first words place from count (get_or words place 0) result le (omega arith) (nothing_between words from bits place e same passed)
    (λ k h a. refl) (λ k h l. absurd (omega arith)) least

-- and where the words of its page have none, it is in a page behind
pub first_beyond : (words : List ℕ) (from count bits end : ℕ) (result : ℕ) → from ≤ count → length words ≡ count / 32 + 1 → bits ≡ 0
    → ((k : ℕ) → k < 32 → from % 32 ≤ k → has_bit bits k ≡ has_bit (get_or words (from / 32) 0) k)
    → ((j : ℕ) → (from / 32 + 1) * 32 ≤ j → j < end * 32 → has words j ≡ false)
    → end ≡ min (from / 32 / 64 * 64 + 64) (length words)
    → IsFirst (has words) ((from / 32 / 64 + 1) * 2048) count result → IsFirst (has words) from count result
first_beyond words from count bits end result le len e same passed end_is first =
    let least = first.at_least in
    let none = nothing_between words from bits end e same passed in
    record {
      at_least = omega arith;
      at_most = first.at_most;
      passed = λ j above below. elim (cases_lt j (end * 32)) [
        | inl l ↦ none j above l
        | inr g ↦ first.passed j (omega arith) below
      ];
      found = first.found;
    }
