-- Sets as bits of words.
use Rattle.std.proofs.Common.{◌≡◌, ◌≢◌, ℕ, ◌+◌, ◌-◌, ◌*◌, ◌/◌, ◌%◌, ◌^◌, ◌<◌, ◌==◌, Bool, true, false, ◌||◌, ◌&&◌, List, length, get_or, set, replicate, max, bit_or, w32, sym, ◌∙◌, ap, ⊎_elim, arith}
use Rattle.std.specs.Int.{bit_at}
use Rattle.std.proofs.lemmas.Bool.{cases_eq}
use Rattle.std.proofs.lemmas.Bool.Decides.{Decides-eqb, nat_tests}
use Rattle.std.proofs.lemmas.List.{length-set, length-replicate, get_or-set_same, get_or-set_other, get_or-replicate, ext_get_or}
use Rattle.std.proofs.lemmas.List.FromFn.{length-map-range_with_len, get_or-map-range_with_len}
use Rattle.std.proofs.Math.Pow.{pow-lt}
use Rattle.std.proofs.lemmas.Nat.Bits.{bit_at-zero, bit_at_or, bit_at_ones, bit_at-lt, bit_at_set_same, bit_at_set_other, bit_at-pow_same, bit_at-pow_other}
use Rattle.moved_set.specs.Words.{has_bit, has, set_of, hits}

pub length-set_of : (words : List ℕ) (count : ℕ) → length (set_of words count) ≡ count
length-set_of words count = length-map-range_with_len (has words) 0 count

pub set_of_at : (words : List ℕ) (count v : ℕ) → v < count → get_or (set_of words count) v false ≡ has words v
set_of_at words count v h = get_or-map-range_with_len (has words) 0 count v v false h (omega arith)

pub set_of_is : (words : List ℕ) (count : ℕ) (xs : List Bool) → length xs ≡ count → ((v : ℕ) → v < count → has words v ≡ get_or xs v false) → set_of words count ≡ xs
set_of_is words count xs len each =
    ext_get_or false (set_of words count) xs (length-set_of words count ∙ sym len)
    (λ v h. let within : v < count = omega (arith, length-set_of words count) in set_of_at words count v within ∙ each v within)

-- the word of a variable is there
pub word_there : (count v len : ℕ) → v < count → len ≡ (count + 31) / 32 → v / 32 < len
word_there count v len h e = omega arith

-- ---- one bit

pub has_bit-zero : (k : ℕ) → has_bit 0 k ≡ false
has_bit-zero k = ap (λ (n : ℕ). n == 1) (bit_at-zero k)

pub has_bit-ones : (k : ℕ) → k < 32 → has_bit (2 ^ 32 - 1) k ≡ true
has_bit-ones k h = ap (λ (n : ℕ). n == 1) (bit_at_ones 32 k h)

pub has_bit-set_same : (n k : ℕ) → k < 32 → has_bit (bit_or n (1 * 2 ^ k % 2 ^ 32)) k ≡ true
has_bit-set_same n k h = ap (λ (b : ℕ). b == 1) (bit_at_set_same w32 n k h)

pub has_bit-set_other : (n k i : ℕ) → k < 32 → i ≢ k → has_bit (bit_or n (1 * 2 ^ k % 2 ^ 32)) i ≡ has_bit n i
has_bit-set_other n k i h ne = ap (λ (b : ℕ). b == 1) (bit_at_set_other w32 n k h i ne)

max_bit : (a b : ℕ) → a < 2 → b < 2 → (max a b == 1) ≡ ((a == 1) || (b == 1))
max_bit a b h k =
    let low : a ≡ 0 → (max a b == 1) ≡ ((a == 1) || (b == 1)) =
    λ e. let m : max a b ≡ b = omega arith in let f : (a == 1) ≡ false = ap (λ (n : ℕ). n == 1) e in ap (λ (n : ℕ). n == 1) m ∙ ap (λ (t : Bool). t || (b == 1)) (sym f) in
    let high : a ≢ 0 → (max a b == 1) ≡ ((a == 1) || (b == 1)) =
    λ ne. let one : a ≡ 1 = omega arith in let m : max a b ≡ 1 = omega arith in let f : (a == 1) ≡ true = ap (λ (n : ℕ). n == 1) one in ap (λ (n : ℕ). n == 1) m ∙ ap (λ (t : Bool). t || (b == 1)) (sym f) in
    ⊎_elim low high (cases_eq a 0)

pub has_bit-or : (a b k : ℕ) → has_bit (bit_or a b) k ≡ (has_bit a k || has_bit b k)
has_bit-or a b k = ap (λ (n : ℕ). n == 1) (bit_at_or a b k) ∙ max_bit (bit_at a k) (bit_at b k) (bit_at-lt a k) (bit_at-lt b k)

-- ---- sets that change

-- a variable whose bit is set
pub set_of_put : (words : List ℕ) (count v : ℕ) → v < count → v / 32 < length words
    → set_of (set words (v / 32) (bit_or (get_or words (v / 32) 0) (1 * 2 ^ (v % 32) % 2 ^ 32))) count ≡ set (set_of words count) v true
set_of_put words count v h there =
    let place : ℕ = v / 32 in
    let word : ℕ = bit_or (get_or words place 0) (1 * 2 ^ (v % 32) % 2 ^ 32) in
    let low : v % 32 < 32 = omega arith in
    let inside : v < length (set_of words count) = omega (arith, length-set_of words count) in
    let same : (i : ℕ) → i ≡ v → has (set words place word) i ≡ get_or (set (set_of words count) v true) i false =
    λ i e.
    ap (has (set words place word)) e ∙ ap (λ (n : ℕ). has_bit n (v % 32)) (get_or-set_same words place word 0 there)
    ∙ has_bit-set_same (get_or words place 0) (v % 32) low
    ∙ sym (ap (λ (n : ℕ). get_or (set (set_of words count) v true) n false) e ∙ get_or-set_same (set_of words count) v true false inside) in
    let kept : (i : ℕ) → i < count → i ≢ v → has (set words place word) i ≡ has words i =
    λ i within ne.
    let here : i / 32 ≡ place → has (set words place word) i ≡ has words i =
    λ e.
    let other : i % 32 ≢ v % 32 = λ f. ne (omega arith) in
    ap (λ (p : ℕ). has_bit (get_or (set words place word) p 0) (i % 32)) e
    ∙ ap (λ (n : ℕ). has_bit n (i % 32)) (get_or-set_same words place word 0 there)
    ∙ has_bit-set_other (get_or words place 0) (v % 32) (i % 32) low other
    ∙ sym (ap (λ (p : ℕ). has_bit (get_or words p 0) (i % 32)) e) in
    let elsewhere : i / 32 ≢ place → has (set words place word) i ≡ has words i =
    λ f. ap (λ (n : ℕ). has_bit n (i % 32)) (get_or-set_other words place (i / 32) word 0 f) in
    ⊎_elim here elsewhere (cases_eq (i / 32) place) in
    let other : (i : ℕ) → i < count → i ≢ v → has (set words place word) i ≡ get_or (set (set_of words count) v true) i false =
    λ i within ne. kept i within ne ∙ sym (get_or-set_other (set_of words count) v i true false ne ∙ set_of_at words count i within) in
    set_of_is (set words place word) count (set (set_of words count) v true) (length-set (set_of words count) v true ∙ length-set_of words count)
    (λ i within. ⊎_elim (same i) (other i within) (cases_eq i v))

pub set_of_marked : (words : List ℕ) (count v : ℕ) → v < count → length words ≡ (count + 31) / 32
    → set_of (set words (v / 32) (bit_or (get_or words (v / 32) 0) (1 * 2 ^ (v % 32) % 2 ^ 32))) count ≡ set (set_of words count) v true
set_of_marked words count v h len = set_of_put words count v h (word_there count v (length words) h len)

-- words that are all alike
pub set_of_filled : (count len word : ℕ) (bit : Bool) → len ≡ (count + 31) / 32 → ((k : ℕ) → k < 32 → has_bit word k ≡ bit) → set_of (replicate len word) count ≡ replicate count bit
set_of_filled count len word bit e each =
    set_of_is (replicate len word) count (replicate count bit) (length-replicate count bit)
    (λ v h.
    ap (λ (n : ℕ). has_bit n (v % 32)) (get_or-replicate len (v / 32) word 0 (word_there count v len h e))
    ∙ each (v % 32) (omega arith)
    ∙ sym (get_or-replicate count v bit false h))

-- words that are exchanged for others
pub filled : (old : List Bool) (words items : List ℕ) (count word : ℕ) (bit : Bool) → set_of words count ≡ old → length words ≡ (count + 31) / 32
    → items ≡ replicate (length words) word → ((k : ℕ) → k < 32 → has_bit word k ≡ bit) → set_of items count ≡ replicate (length old) bit
filled old words items count word bit is len items_are each =
    let same : count ≡ length old = sym (length-set_of words count) ∙ ap length is in
    ap (λ (ws : List ℕ). set_of ws count) items_are ∙ set_of_filled count (length words) word bit len each ∙ ap (λ (n : ℕ). replicate n bit) same

-- ---- the mask of one variable

one_bit : (k : ℕ) → k < 32 → 1 * 2 ^ k % 2 ^ 32 ≡ 2 ^ k
one_bit k h = let below : 2 ^ k < 2 ^ 32 = pow-lt h in omega (arith, below)

pub hits_one : (v w : ℕ) → hits w (record { place = v / 32; bits = 1 * 2 ^ (v % 32) % 2 ^ 32 }) ≡ (w == v)
hits_one v w =
    let bit : has_bit (1 * 2 ^ (v % 32) % 2 ^ 32) (w % 32) ≡ has_bit (2 ^ (v % 32)) (w % 32) = ap (λ (n : ℕ). has_bit n (w % 32)) (one_bit (v % 32) (omega arith)) in
    let start : hits w (record { place = v / 32; bits = 1 * 2 ^ (v % 32) % 2 ^ 32 }) ≡ ((v / 32 == w / 32) && has_bit (2 ^ (v % 32)) (w % 32)) = ap (λ (b : Bool). (v / 32 == w / 32) && b) bit in
    let same : w ≡ v → ((v / 32 == w / 32) && has_bit (2 ^ (v % 32)) (w % 32)) ≡ (w == v) =
    λ e.
    let left : (v / 32 == w / 32) ≡ true = (Decides-eqb (v / 32) (w / 32)).1 (omega arith) in
    let right : has_bit (2 ^ (v % 32)) (w % 32) ≡ true = ap (λ (i : ℕ). has_bit (2 ^ (v % 32)) (i % 32)) e ∙ ap (λ (n : ℕ). n == 1) (bit_at-pow_same (v % 32)) in
    let all : (w == v) ≡ true = (Decides-eqb w v).1 e in
    ap (λ (b : Bool). b && has_bit (2 ^ (v % 32)) (w % 32)) left ∙ right ∙ sym all in
    let none : w ≢ v → (w == v) ≡ false = λ ne. grind (arith, nat_tests) in
    let apart : w ≢ v → ((v / 32 == w / 32) && has_bit (2 ^ (v % 32)) (w % 32)) ≡ false =
    λ ne.
    let here : v / 32 ≡ w / 32 → ((v / 32 == w / 32) && has_bit (2 ^ (v % 32)) (w % 32)) ≡ false =
    λ e.
    let left : (v / 32 == w / 32) ≡ true = (Decides-eqb (v / 32) (w / 32)).1 e in
    let bits : w % 32 ≢ v % 32 = λ f. ne (omega arith) in
    ap (λ (b : Bool). b && has_bit (2 ^ (v % 32)) (w % 32)) left ∙ ap (λ (n : ℕ). n == 1) (bit_at-pow_other (v % 32) (w % 32) bits) in
    let elsewhere : v / 32 ≢ w / 32 → ((v / 32 == w / 32) && has_bit (2 ^ (v % 32)) (w % 32)) ≡ false =
    λ f. let left : (v / 32 == w / 32) ≡ false = grind (arith, nat_tests) in ap (λ (b : Bool). b && has_bit (2 ^ (v % 32)) (w % 32)) left in
    ⊎_elim here elsewhere (cases_eq (v / 32) (w / 32)) in
    start ∙ ⊎_elim same (λ (ne : w ≢ v). apart ne ∙ sym (none ne)) (cases_eq w v)
