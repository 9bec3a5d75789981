-- Sets of kernels as bits of words, one more than whole words of bits.
use Rattle.std.proofs.Common.{◌≡◌, ◌≢◌, ℕ, ◌+◌, ◌-◌, ◌*◌, ◌/◌, ◌%◌, ◌^◌, ◌<◌, ◌≤◌, ◌==◌, Bool, true, false, ◌||◌, ◌&&◌, List, [], ◌∷◌, length, get_or, set, take, min, replicate, bit_and, bit_or, w32, inl, inr, refl, sym, ◌∙◌, ap, subst, ⊎_elim, arith}
use Rattle.std.specs.Int.{bit_at}
use Rattle.std.specs.List.{list_any}
use Rattle.std.proofs.lemmas.List.Folds.{list_any-append}
use Rattle.std.proofs.lemmas.Bool.{true≢false, cases_eq, cases_Bool}
use Rattle.std.proofs.lemmas.Bool.Decides.{Decides-eqb, nat_tests}
use Rattle.std.proofs.lemmas.List.{length-set, length-replicate, get_or-set_same, get_or-set_other, get_or-replicate, take_more}
use Rattle.std.proofs.lemmas.Nat.Bits.{bit_at_clear_same, bit_at_clear_other, bit_at_and, bit_at-lt}
use Rattle.moved_set.specs.Words.{has_bit, has, set_of, hits, names}
use Rattle.moved_set.specs.Pages.{AreMarked}
use Rattle.moved_set.specs.Asked.{IsFirst, IsLast, IsUnited, IsUnitedIn}
use Rattle.moved_set.specs.declared.mask.Mask.{Mask}
use Rattle.moved_set.proofs.SetLaws.{length-set_of, set_of_at, set_of_is, has_bit-or}

-- words that are all alike
pub filled_with : (count len word : ℕ) (bit : Bool) → len ≡ count / 32 + 1 → ((k : ℕ) → k < 32 → has_bit word k ≡ bit) → set_of (replicate len word) count ≡ replicate count bit
filled_with count len word bit e each =
    set_of_is (replicate len word) count (replicate count bit) (length-replicate count bit)
    (λ v h.
    ap (λ (n : ℕ). has_bit n (v % 32)) (get_or-replicate len (v / 32) word 0 (omega arith))
    ∙ each (v % 32) (omega arith)
    ∙ sym (get_or-replicate count v bit false h))

pub filled_words : (old : List Bool) (words items : List ℕ) (count word : ℕ) (bit : Bool) → set_of words count ≡ old → length words ≡ count / 32 + 1
    → items ≡ replicate (length words) word → ((k : ℕ) → k < 32 → has_bit word k ≡ bit) → set_of items count ≡ replicate (length old) bit
filled_words old words items count word bit is len items_are each =
    let same : count ≡ length old = sym (length-set_of words count) ∙ ap length is in
    ap (λ (ws : List ℕ). set_of ws count) items_are ∙ filled_with count (length words) word bit len each ∙ ap (λ (n : ℕ). replicate n bit) same

has_bit-clear_same : (n k : ℕ) → k < 32 → has_bit (bit_and n (2 ^ 32 - 1 - 1 * 2 ^ k % 2 ^ 32)) k ≡ false
has_bit-clear_same n k h = ap (λ (b : ℕ). b == 1) (bit_at_clear_same w32 n k h)

has_bit-clear_other : (n k i : ℕ) → k < 32 → i < 32 → i ≢ k → has_bit (bit_and n (2 ^ 32 - 1 - 1 * 2 ^ k % 2 ^ 32)) i ≡ has_bit n i
has_bit-clear_other n k i h inside ne = ap (λ (b : ℕ). b == 1) (bit_at_clear_other w32 n k h i inside ne)

-- a kernel whose bit is cleared
pub set_of_cleared : (words : List ℕ) (count v : ℕ) → v < count → v / 32 < length words
    → set_of (set words (v / 32) (bit_and (get_or words (v / 32) 0) (2 ^ 32 - 1 - 1 * 2 ^ (v % 32) % 2 ^ 32))) count ≡ set (set_of words count) v false
set_of_cleared words count v h there =
    let place : ℕ = v / 32 in
    let word : ℕ = bit_and (get_or words place 0) (2 ^ 32 - 1 - 1 * 2 ^ (v % 32) % 2 ^ 32) in
    let low : v % 32 < 32 = omega arith in
    let inside : v < length (set_of words count) = omega (arith, length-set_of words count) in
    let same : (i : ℕ) → i ≡ v → has (set words place word) i ≡ get_or (set (set_of words count) v false) i false =
    λ i e.
    ap (has (set words place word)) e ∙ ap (λ (n : ℕ). has_bit n (v % 32)) (get_or-set_same words place word 0 there)
    ∙ has_bit-clear_same (get_or words place 0) (v % 32) low
    ∙ sym (ap (λ (n : ℕ). get_or (set (set_of words count) v false) n false) e ∙ get_or-set_same (set_of words count) v false false inside) in
    let kept : (i : ℕ) → i < count → i ≢ v → has (set words place word) i ≡ has words i =
    λ i within ne.
    let here : i / 32 ≡ place → has (set words place word) i ≡ has words i =
    λ e.
    let other : i % 32 ≢ v % 32 = λ f. ne (omega arith) in
    ap (λ (p : ℕ). has_bit (get_or (set words place word) p 0) (i % 32)) e
    ∙ ap (λ (n : ℕ). has_bit n (i % 32)) (get_or-set_same words place word 0 there)
    ∙ has_bit-clear_other (get_or words place 0) (v % 32) (i % 32) low (omega arith) other
    ∙ sym (ap (λ (p : ℕ). has_bit (get_or words p 0) (i % 32)) e) in
    let elsewhere : i / 32 ≢ place → has (set words place word) i ≡ has words i =
    λ f. ap (λ (n : ℕ). has_bit n (i % 32)) (get_or-set_other words place (i / 32) word 0 f) in
    ⊎_elim here elsewhere (cases_eq (i / 32) place) in
    let other : (i : ℕ) → i < count → i ≢ v → has (set words place word) i ≡ get_or (set (set_of words count) v false) i false =
    λ i within ne. kept i within ne ∙ sym (get_or-set_other (set_of words count) v i false false ne ∙ set_of_at words count i within) in
    set_of_is (set words place word) count (set (set_of words count) v false) (length-set (set_of words count) v false ∙ length-set_of words count)
    (λ i within. ⊎_elim (same i) (other i within) (cases_eq i v))

pub or_false : (b : Bool) → (b || false) ≡ b
or_false true = refl
or_false false = refl

-- a word with the bits of a mask more
pub united_bit : (words : List ℕ) (m : Mask) (j : ℕ) → m.place < length words
    → has (set words m.place (bit_or (get_or words m.place 0) m.bits)) j ≡ (has words j || hits j m)
united_bit words m j there =
    let place : ℕ = m.place in
    let word : ℕ = bit_or (get_or words place 0) m.bits in
    let here : j / 32 ≡ place → has (set words place word) j ≡ (has words j || hits j m) =
    λ e.
    let hit : hits j m ≡ has_bit m.bits (j % 32) = ap (λ (b : Bool). b && has_bit m.bits (j % 32)) ((Decides-eqb place (j / 32)).1 (sym e)) in
    ap (λ (p : ℕ). has_bit (get_or (set words place word) p 0) (j % 32)) e
    ∙ ap (λ (n : ℕ). has_bit n (j % 32)) (get_or-set_same words place word 0 there)
    ∙ has_bit-or (get_or words place 0) m.bits (j % 32)
    ∙ ap (λ (p : ℕ). has_bit (get_or words p 0) (j % 32) || has_bit m.bits (j % 32)) (sym e)
    ∙ ap (λ (b : Bool). has words j || b) (sym hit) in
    let elsewhere : j / 32 ≢ place → has (set words place word) j ≡ (has words j || hits j m) =
    λ f.
    let apart : (place == j / 32) ≡ false = grind (arith, nat_tests) in
    let miss : hits j m ≡ false = ap (λ (b : Bool). b && has_bit m.bits (j % 32)) apart in
    ap (λ (n : ℕ). has_bit n (j % 32)) (get_or-set_other words place (j / 32) word 0 f)
    ∙ sym (ap (λ (b : Bool). has words j || b) miss ∙ or_false (has words j)) in
    ⊎_elim here elsewhere (cases_eq (j / 32) place)

-- ---- what the code lends

pub first_of : (old : List Bool) (words lent : List ℕ) (count from result : ℕ) → set_of words count ≡ old → lent ≡ words
    → IsFirst (has lent) from count result → IsFirst (λ j. get_or old j false) from (length old) result
first_of old words lent count from result is lent_is first =
    let f : IsFirst (has words) from count result = subst (λ (ws : List ℕ). IsFirst (has ws) from count result) lent_is first in
    let len = length-set_of words count in
    let most = f.at_most in
    subst (λ (s : List Bool). IsFirst (λ j. get_or s j false) from (length s) result) is
    (record {
      at_least = f.at_least;
      at_most = omega arith;
      passed = λ j l h. set_of_at words count j (omega arith) ∙ f.passed j l h;
      found = λ h. set_of_at words count result (omega arith) ∙ f.found (omega arith);
    })

pub last_of : (old : List Bool) (words lent : List ℕ) (count to result : ℕ) → set_of words count ≡ old → lent ≡ words → to ≤ count
    → IsLast (has lent) to result → IsLast (λ j. get_or old j false) to result
last_of old words lent count to result is lent_is within last =
    let f : IsLast (has words) to result = subst (λ (ws : List ℕ). IsLast (has ws) to result) lent_is last in
    let most = f.at_most in
    subst (λ (s : List Bool). IsLast (λ j. get_or s j false) to result) is
    (record {
      at_most = f.at_most;
      passed = λ j l h. set_of_at words count j (omega arith) ∙ f.passed j l h;
      found = λ h. set_of_at words count (result - 1) (omega arith) ∙ f.found h;
    })

pub united_with : (old : List Bool) (words lent new items : List ℕ) (row : List Mask) (count : ℕ) → set_of words count ≡ old → lent ≡ words → items ≡ new
    → ((j : ℕ) → has new j ≡ (has lent j || names row j)) → IsUnited old row (set_of items count)
united_with old words lent new items row count is lent_is items_are each =
    let said : (j : ℕ) → has new j ≡ (has words j || names row j) = λ j. each j ∙ ap (λ (ws : List ℕ). has ws j || names row j) lent_is in
    let one : IsUnited (set_of words count) row (set_of new count) = record {
      same_length = length-set_of new count ∙ sym (length-set_of words count);
      each = λ j h.
          let within : j < count = omega (arith, length-set_of words count) in
          set_of_at new count j within ∙ said j ∙ ap (λ (b : Bool). b || names row j) (sym (set_of_at words count j within));
    } in
    let two : IsUnited old row (set_of new count) = subst (λ (s : List Bool). IsUnited s row (set_of new count)) is one in
    subst (λ (ws : List ℕ). IsUnited old row (set_of ws count)) (sym items_are) two

-- ---- a row that is united as far as other words have its numbers

min_bit : (a b : ℕ) → a < 2 → b < 2 → (min a b == 1) ≡ ((a == 1) && (b == 1))
min_bit a b h k =
    let low : a ≡ 0 → (min a b == 1) ≡ ((a == 1) && (b == 1)) =
    λ e. let m : min a b ≡ 0 = omega arith in let f : (a == 1) ≡ false = ap (λ (n : ℕ). n == 1) e in ap (λ (n : ℕ). n == 1) m ∙ ap (λ (t : Bool). t && (b == 1)) (sym f) in
    let high : a ≢ 0 → (min a b == 1) ≡ ((a == 1) && (b == 1)) =
    λ ne. let one : a ≡ 1 = omega arith in let m : min a b ≡ b = omega arith in let f : (a == 1) ≡ true = ap (λ (n : ℕ). n == 1) one in ap (λ (n : ℕ). n == 1) m ∙ ap (λ (t : Bool). t && (b == 1)) (sym f) in
    ⊎_elim low high (cases_eq a 0)

has_bit-and : (a b k : ℕ) → has_bit (bit_and a b) k ≡ (has_bit a k && has_bit b k)
has_bit-and a b k = ap (λ (n : ℕ). n == 1) (bit_at_and a b k) ∙ min_bit (bit_at a k) (bit_at b k) (bit_at-lt a k) (bit_at-lt b k)

pub common_bits : (words : List ℕ) (m : Mask) (j : ℕ) → hits j (record { place = m.place; bits = bit_and m.bits (get_or words m.place 0) }) ≡ (hits j m && has words j)
common_bits words m j =
    let here : m.place ≡ j / 32 → hits j (record { place = m.place; bits = bit_and m.bits (get_or words m.place 0) }) ≡ (hits j m && has words j) =
    λ e.
    let at : (m.place == j / 32) ≡ true = (Decides-eqb m.place (j / 32)).1 e in
    ap (λ (b : Bool). b && has_bit (bit_and m.bits (get_or words m.place 0)) (j % 32)) at
    ∙ has_bit-and m.bits (get_or words m.place 0) (j % 32)
    ∙ ap (λ (p : ℕ). has_bit m.bits (j % 32) && has_bit (get_or words p 0) (j % 32)) e
    ∙ sym (ap (λ (b : Bool). (b && has_bit m.bits (j % 32)) && has words j) at) in
    let elsewhere : m.place ≢ j / 32 → hits j (record { place = m.place; bits = bit_and m.bits (get_or words m.place 0) }) ≡ (hits j m && has words j) =
    λ f.
    let apart : (m.place == j / 32) ≡ false = grind (arith, nat_tests) in
    ap (λ (b : Bool). b && has_bit (bit_and m.bits (get_or words m.place 0)) (j % 32)) apart
    ∙ sym (ap (λ (b : Bool). (b && has_bit m.bits (j % 32)) && has words j) apart) in
    ⊎_elim here elsewhere (cases_eq m.place (j / 32))

pub or_none : (b : Bool) → b ≡ (b || false)
or_none true = refl
or_none false = refl

or_and_move : (o n h w : Bool) → ((o || (n && w)) || (h && w)) ≡ (o || ((n || (h || false)) && w))
or_and_move true n h w = refl
or_and_move false true h true = refl
or_and_move false true true false = refl
or_and_move false true false false = refl
or_and_move false false true true = refl
or_and_move false false true false = refl
or_and_move false false false true = refl
or_and_move false false false false = refl

-- one mask more
pub named_in : (row : List Mask) (i : ℕ) (d : Mask) (j : ℕ) (old now wanted : Bool) → i < length row → now ≡ (old || (names (take i row) j && wanted))
    → (now || (hits j (get_or row i d) && wanted)) ≡ (old || (names (take (i + 1) row) j && wanted))
named_in row i d j old now wanted h is =
    let more : names (take (i + 1) row) j ≡ (names (take i row) j || (hits j (get_or row i d) || false)) =
    ap (list_any (hits j)) (take_more row i d h) ∙ list_any-append (hits j) (take i row) (get_or row i d ∷ []) in
    ap (λ (b : Bool). b || (hits j (get_or row i d) && wanted)) is
    ∙ or_and_move old (names (take i row) j) (hits j (get_or row i d)) wanted
    ∙ ap (λ (b : Bool). old || (b && wanted)) (sym more)

pub united_in_with : (old : List Bool) (words lent new items : List ℕ) (row : List Mask) (is_wanted has_wanted : ℕ → Bool) (count : ℕ) → set_of words count ≡ old → lent ≡ words → items ≡ new
    → ((j : ℕ) → j < count → has_wanted j ≡ is_wanted j)
    → ((j : ℕ) → has new j ≡ (has lent j || (names row j && has_wanted j))) → IsUnitedIn old row is_wanted (set_of items count)
united_in_with old words lent new items row is_wanted has_wanted count is lent_is items_are wanted_are each =
    let one : IsUnitedIn (set_of words count) row is_wanted (set_of new count) = record {
      same_length = length-set_of new count ∙ sym (length-set_of words count);
      each = λ j h.
          let within : j < count = omega (arith, length-set_of words count) in
          set_of_at new count j within ∙ each j ∙ ap (λ (ws : List ℕ). has ws j || (names row j && has_wanted j)) lent_is
          ∙ ap (λ (b : Bool). has words j || (names row j && b)) (wanted_are j within)
          ∙ ap (λ (b : Bool). b || (names row j && is_wanted j)) (sym (set_of_at words count j within));
    } in
    let two : IsUnitedIn old row is_wanted (set_of new count) = subst (λ (s : List Bool). IsUnitedIn s row is_wanted (set_of new count)) is one in
    subst (λ (ws : List ℕ). IsUnitedIn old row is_wanted (set_of ws count)) (sym items_are) two

-- ---- the same as far as two others have them

pub and_move : (h a b : Bool) → ((h && a) && b) ≡ (h && (a && b))
and_move true a b = refl
and_move false a b = refl

pub both_same : (a b c d : Bool) → a ≡ c → b ≡ d → (a && b) ≡ (c && d)
both_same a b c d e f = ap (λ (t : Bool). t && b) e ∙ ap (λ (t : Bool). c && t) f

-- ---- pages

pub marked_lent : (words lent : List ℕ) (pages lent_pages : List Bool) (count to : ℕ) → lent ≡ words → lent_pages ≡ pages → to ≤ count
    → AreMarked words pages count → AreMarked lent lent_pages to
marked_lent words lent pages lent_pages count to words_are pages_are within marked j h e =
    ap (λ (ps : List Bool). get_or ps (j / 2048) true) pages_are ∙ marked j (omega arith) (sym (ap (λ (ws : List ℕ). has ws j) words_are) ∙ e)

-- a number less leaves no page unmarked
pub had_before : (words : List ℕ) (count v word j : ℕ) → v < count → v / 32 < length words → word ≡ get_or words (v / 32) 0 → j < count
    → has (set words (v / 32) (bit_and word (2 ^ 32 - 1 - 1 * 2 ^ (v % 32) % 2 ^ 32))) j ≡ true → has words j ≡ true
had_before words count v word j h there word_is within e =
    let new : List ℕ = set words (v / 32) (bit_and (get_or words (v / 32) 0) (2 ^ 32 - 1 - 1 * 2 ^ (v % 32) % 2 ^ 32)) in
    let as_new : has new j ≡ true = sym (ap (λ (n : ℕ). has (set words (v / 32) (bit_and n (2 ^ 32 - 1 - 1 * 2 ^ (v % 32) % 2 ^ 32))) j) word_is) ∙ e in
    let at : get_or (set (set_of words count) v false) j false ≡ true =
    sym (ap (λ (s : List Bool). get_or s j false) (set_of_cleared words count v h there)) ∙ set_of_at new count j within ∙ as_new in
    let inside : v < length (set_of words count) = omega (arith, length-set_of words count) in
    elim (cases_eq j v) [
      | inl same ↦ absurd (true≢false (sym at ∙ ap (λ (n : ℕ). get_or (set (set_of words count) v false) n false) same ∙ get_or-set_same (set_of words count) v false false inside))
      | inr other ↦ sym (set_of_at words count j within) ∙ sym (get_or-set_other (set_of words count) v j false false other) ∙ at
    ]

-- words of which the marked pages are cleared
pub cleared_words : (old : List Bool) (words lent items : List ℕ) (pages lent_pages : List Bool) (count : ℕ) → set_of words count ≡ old → lent ≡ words → lent_pages ≡ pages
    → AreMarked words pages count → ((j : ℕ) → has lent j ≡ false → has items j ≡ false) → ((j : ℕ) → get_or lent_pages (j / 2048) true ≡ true → has items j ≡ false)
    → set_of items count ≡ replicate (length old) false
cleared_words old words lent items pages lent_pages count is words_are pages_are marked kept cleared =
    let same : count ≡ length old = sym (length-set_of words count) ∙ ap length is in
    let none : (j : ℕ) → j < count → has items j ≡ false =
    λ j h. elim (cases_Bool (has lent j)) [
      | inl some ↦ cleared j (ap (λ (ps : List Bool). get_or ps (j / 2048) true) pages_are ∙ marked j h (sym (ap (λ (ws : List ℕ). has ws j) words_are) ∙ some))
      | inr none ↦ kept j none
    ] in
    set_of_is items count (replicate count false) (length-replicate count false) (λ j h. none j h ∙ sym (get_or-replicate count j false false h))
    ∙ ap (λ (n : ℕ). replicate n false) same
