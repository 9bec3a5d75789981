-- The words of a mix, variable by variable.
use Rattle.std.proofs.Common.{ℕ, ℤ, zero, suc, ◌≡◌, ◌<◌, List, [], ◌∷◌, length, take, set, refl, sym, ap, ◌∙◌, arith}
use Rattle.std.specs.Prelude.{slice_index, slice_set, flat_map, bit_and}
use Rattle.bit_domain.specs.declared.dom.Dom.{Dom}
use Rattle.bit_domain.specs.declared.dom.Dom.TheVariants.{Bits, Pair}
use Rattle.bit_domain.specs.Mixes.{Mix, dom_of}
use Rattle.mix_store.specs.declared.table.WordKind.{WordKind}
use Rattle.mix_store.specs.declared.table.WordKind.TheVariants.{Set, Low, High}
use Rattle.mix_store.specs.Order.{join_of}
use Rattle.mix_store.specs.Words.{distance, words_in, kinds_in, words_of, kinds_of, place_of}
use Rattle.mix_store.specs.Domains.{IsBitsAt, IsPairAt, set_of, low_of, high_of, set_put, low_put, high_put, IsLike, AreAlike, both_of, tighter_of}
use Rattle.mix_store.specs.Rule.{kind_at, joined}
use Rattle.mix_store.proofs.DistanceLaws.{distance-max, distance-min}

bits_later : (d : Dom) (m : Mix) (v : ℕ) → IsBitsAt (d ∷ m) (suc v) → IsBitsAt m v
bits_later d m v h = (let l = h.0 in omega arith, h.1)

pair_later : (d : Dom) (m : Mix) (v : ℕ) → IsPairAt (d ∷ m) (suc v) → IsPairAt m v
pair_later d m v h = (let l = h.0 in omega arith, h.1)

-- ---- the word of a set

pub bits_word : (m : Mix) (v : ℕ) → IsBitsAt m v → slice_index (words_of m) (place_of m v) ≡ set_of m v
bits_word [] v h = absurd (let l = h.0 in omega arith)
bits_word (Bits base s ∷ m) zero h = refl
bits_word (Pair low high ∷ m) zero h = absurd h.1
bits_word (Bits base s ∷ m) (suc v) h = bits_word m v (bits_later (Bits base s) m v h)
bits_word (Pair low high ∷ m) (suc v) h = bits_word m v (bits_later (Pair low high) m v h)

pub bits_kind : (m : Mix) (v : ℕ) → IsBitsAt m v → kind_at (kinds_of m) (place_of m v) ≡ Set
bits_kind [] v h = absurd (let l = h.0 in omega arith)
bits_kind (Bits base s ∷ m) zero h = refl
bits_kind (Pair low high ∷ m) zero h = absurd h.1
bits_kind (Bits base s ∷ m) (suc v) h = bits_kind m v (bits_later (Bits base s) m v h)
bits_kind (Pair low high ∷ m) (suc v) h = bits_kind m v (bits_later (Pair low high) m v h)

set_set : (m : Mix) (v n : ℕ) → IsBitsAt m v → set (flat_map words_in m) (length (flat_map words_in (take v m))) n ≡ flat_map words_in (set_put m v n)
set_set [] v n h = absurd (let l = h.0 in omega arith)
set_set (Bits base s ∷ m) zero n h = refl
set_set (Pair low high ∷ m) zero n h = absurd h.1
set_set (Bits base s ∷ m) (suc v) n h = ap (λ (l : List ℕ). s ∷ l) (set_set m v n (bits_later (Bits base s) m v h))
set_set (Pair low high ∷ m) (suc v) n h = ap (λ (l : List ℕ). distance low ∷ distance high ∷ l) (set_set m v n (bits_later (Pair low high) m v h))

pub bits_set : (m : Mix) (v n : ℕ) → IsBitsAt m v → slice_set (words_of m) (place_of m v) n ≡ words_of (set_put m v n)
bits_set m v n h = ap (λ (l : List ℕ). 0 ∷ l) (set_set m v n h)

-- ---- the words of a pair

pub low_word : (m : Mix) (v : ℕ) → IsPairAt m v → slice_index (words_of m) (place_of m v) ≡ distance (low_of m v)
low_word [] v h = absurd (let l = h.0 in omega arith)
low_word (Bits base s ∷ m) zero h = absurd h.1
low_word (Pair low high ∷ m) zero h = refl
low_word (Bits base s ∷ m) (suc v) h = low_word m v (pair_later (Bits base s) m v h)
low_word (Pair low high ∷ m) (suc v) h = low_word m v (pair_later (Pair low high) m v h)

pub low_kind : (m : Mix) (v : ℕ) → IsPairAt m v → kind_at (kinds_of m) (place_of m v) ≡ Low
low_kind [] v h = absurd (let l = h.0 in omega arith)
low_kind (Bits base s ∷ m) zero h = absurd h.1
low_kind (Pair low high ∷ m) zero h = refl
low_kind (Bits base s ∷ m) (suc v) h = low_kind m v (pair_later (Bits base s) m v h)
low_kind (Pair low high ∷ m) (suc v) h = low_kind m v (pair_later (Pair low high) m v h)

set_low : (m : Mix) (v : ℕ) (z : ℤ) → IsPairAt m v → set (flat_map words_in m) (length (flat_map words_in (take v m))) (distance z) ≡ flat_map words_in (low_put m v z)
set_low [] v z h = absurd (let l = h.0 in omega arith)
set_low (Bits base s ∷ m) zero z h = absurd h.1
set_low (Pair low high ∷ m) zero z h = refl
set_low (Bits base s ∷ m) (suc v) z h = ap (λ (l : List ℕ). s ∷ l) (set_low m v z (pair_later (Bits base s) m v h))
set_low (Pair low high ∷ m) (suc v) z h = ap (λ (l : List ℕ). distance low ∷ distance high ∷ l) (set_low m v z (pair_later (Pair low high) m v h))

pub low_set : (m : Mix) (v : ℕ) (z : ℤ) → IsPairAt m v → slice_set (words_of m) (place_of m v) (distance z) ≡ words_of (low_put m v z)
low_set m v z h = ap (λ (l : List ℕ). 0 ∷ l) (set_low m v z h)

pub high_word : (m : Mix) (v : ℕ) → IsPairAt m v → slice_index (words_of m) (suc (place_of m v)) ≡ distance (high_of m v)
high_word [] v h = absurd (let l = h.0 in omega arith)
high_word (Bits base s ∷ m) zero h = absurd h.1
high_word (Pair low high ∷ m) zero h = refl
high_word (Bits base s ∷ m) (suc v) h = high_word m v (pair_later (Bits base s) m v h)
high_word (Pair low high ∷ m) (suc v) h = high_word m v (pair_later (Pair low high) m v h)

pub high_kind : (m : Mix) (v : ℕ) → IsPairAt m v → kind_at (kinds_of m) (suc (place_of m v)) ≡ High
high_kind [] v h = absurd (let l = h.0 in omega arith)
high_kind (Bits base s ∷ m) zero h = absurd h.1
high_kind (Pair low high ∷ m) zero h = refl
high_kind (Bits base s ∷ m) (suc v) h = high_kind m v (pair_later (Bits base s) m v h)
high_kind (Pair low high ∷ m) (suc v) h = high_kind m v (pair_later (Pair low high) m v h)

set_high : (m : Mix) (v : ℕ) (z : ℤ) → IsPairAt m v → set (flat_map words_in m) (suc (length (flat_map words_in (take v m)))) (distance z) ≡ flat_map words_in (high_put m v z)
set_high [] v z h = absurd (let l = h.0 in omega arith)
set_high (Bits base s ∷ m) zero z h = absurd h.1
set_high (Pair low high ∷ m) zero z h = refl
set_high (Bits base s ∷ m) (suc v) z h = ap (λ (l : List ℕ). s ∷ l) (set_high m v z (pair_later (Bits base s) m v h))
set_high (Pair low high ∷ m) (suc v) z h = ap (λ (l : List ℕ). distance low ∷ distance high ∷ l) (set_high m v z (pair_later (Pair low high) m v h))

pub high_set : (m : Mix) (v : ℕ) (z : ℤ) → IsPairAt m v → slice_set (words_of m) (suc (place_of m v)) (distance z) ≡ words_of (high_put m v z)
high_set m v z h = ap (λ (l : List ℕ). 0 ∷ l) (set_high m v z h)

-- ---- the places are inside

later : (n k : ℕ) → n < k → suc n < suc k
later n k h = omega arith

bits_within : (m : Mix) (v : ℕ) → IsBitsAt m v → length (flat_map words_in (take v m)) < length (flat_map words_in m)
bits_within [] v h = absurd (let l = h.0 in omega arith)
bits_within (Bits base s ∷ m) zero h = omega arith
bits_within (Pair low high ∷ m) zero h = absurd h.1
bits_within (Bits base s ∷ m) (suc v) h = later _ _ (bits_within m v (bits_later (Bits base s) m v h))
bits_within (Pair low high ∷ m) (suc v) h = later _ _ (later _ _ (bits_within m v (bits_later (Pair low high) m v h)))

pub bits_inside : (m : Mix) (v : ℕ) → IsBitsAt m v → place_of m v < length (words_of m)
bits_inside m v h = later _ _ (bits_within m v h)

pair_within : (m : Mix) (v : ℕ) → IsPairAt m v → suc (length (flat_map words_in (take v m))) < length (flat_map words_in m)
pair_within [] v h = absurd (let l = h.0 in omega arith)
pair_within (Bits base s ∷ m) zero h = absurd h.1
pair_within (Pair low high ∷ m) zero h = omega arith
pair_within (Bits base s ∷ m) (suc v) h = later _ _ (pair_within m v (pair_later (Bits base s) m v h))
pair_within (Pair low high ∷ m) (suc v) h = later _ _ (later _ _ (pair_within m v (pair_later (Pair low high) m v h)))

pub pair_inside : (m : Mix) (v : ℕ) → IsPairAt m v → suc (place_of m v) < length (words_of m)
pair_inside m v h = later _ _ (pair_within m v h)

pub kinds-length : (m : Mix) → length (flat_map kinds_in m) ≡ length (flat_map words_in m)
kinds-length [] = refl
kinds-length (Bits base s ∷ m) = ap suc (kinds-length m)
kinds-length (Pair low high ∷ m) = ap (λ (n : ℕ). suc (suc n)) (kinds-length m)

-- ---- mixes that are alike

pub like_itself : (d : Dom) → IsLike d d
like_itself (Bits base s) = refl
like_itself (Pair low high) = tt

pub alike_itself : (m : Mix) → AreAlike m m
alike_itself m = record { same_length = refl; doms = λ v h. like_itself (dom_of m v) }

pub alike_later : (d e : Dom) (m n : Mix) → AreAlike (d ∷ m) (e ∷ n) → AreAlike m n
alike_later d e m n a = record { same_length = let l = a.same_length in omega arith; doms = λ v h. a.doms (suc v) (later _ _ h) }

first_like : (d e : Dom) (m n : Mix) → AreAlike (d ∷ m) (e ∷ n) → IsLike d e
first_like d e m n a = a.doms 0 (omega arith)

same_kinds : (m n : Mix) → AreAlike m n → flat_map kinds_in m ≡ flat_map kinds_in n
same_kinds [] [] a = refl
same_kinds [] (e ∷ n) a = absurd (let l = a.same_length in omega arith)
same_kinds (d ∷ m) [] a = absurd (let l = a.same_length in omega arith)
same_kinds (Bits base s ∷ m) (Bits other t ∷ n) a = ap (λ (l : List WordKind). Set ∷ l) (same_kinds m n (alike_later (Bits base s) (Bits other t) m n a))
same_kinds (Bits base s ∷ m) (Pair low high ∷ n) a = absurd (first_like (Bits base s) (Pair low high) m n a)
same_kinds (Pair low high ∷ m) (Bits base s ∷ n) a = absurd (first_like (Pair low high) (Bits base s) m n a)
same_kinds (Pair low high ∷ m) (Pair least greatest ∷ n) a = ap (λ (l : List WordKind). Low ∷ High ∷ l) (same_kinds m n (alike_later (Pair low high) (Pair least greatest) m n a))

pub alike_kinds : (m n : Mix) → AreAlike m n → kinds_of m ≡ kinds_of n
alike_kinds m n a = ap (λ (l : List WordKind). Set ∷ l) (same_kinds m n a)

pub alike_words : (m n : Mix) → AreAlike m n → length (words_of m) ≡ length (words_of n)
alike_words m n a = ap suc (sym (kinds-length m) ∙ ap length (same_kinds m n a) ∙ kinds-length n)

pub alike_places : (m n : Mix) (v : ℕ) → AreAlike m n → place_of m v ≡ place_of n v
alike_places [] [] v a = refl
alike_places [] (e ∷ n) v a = absurd (let l = a.same_length in omega arith)
alike_places (d ∷ m) [] v a = absurd (let l = a.same_length in omega arith)
alike_places (d ∷ m) (e ∷ n) zero a = refl
alike_places (Bits base s ∷ m) (Bits other t ∷ n) (suc v) a = ap suc (alike_places m n v (alike_later (Bits base s) (Bits other t) m n a))
alike_places (Bits base s ∷ m) (Pair low high ∷ n) (suc v) a = absurd (first_like (Bits base s) (Pair low high) m n a)
alike_places (Pair low high ∷ m) (Bits base s ∷ n) (suc v) a = absurd (first_like (Pair low high) (Bits base s) m n a)
alike_places (Pair low high ∷ m) (Pair least greatest ∷ n) (suc v) a = ap (λ (k : ℕ). suc (suc k)) (alike_places m n v (alike_later (Pair low high) (Pair least greatest) m n a))

-- ---- what both mixes leave

joined_words : (m n : Mix) → AreAlike n m → joined (flat_map kinds_in m) (flat_map words_in m) (flat_map words_in n) ≡ flat_map words_in (tighter_of m n)
unfolding join_of
joined_words [] n a = refl
joined_words (d ∷ m) [] a = absurd (let l = a.same_length in omega arith)
joined_words (Bits base s ∷ m) (Bits other t ∷ n) a = ap (λ (l : List ℕ). bit_and s t ∷ l) (joined_words m n (alike_later (Bits other t) (Bits base s) n m a))
joined_words (Bits base s ∷ m) (Pair low high ∷ n) a = absurd (first_like (Pair low high) (Bits base s) n m a)
joined_words (Pair low high ∷ m) (Bits base s ∷ n) a = absurd (first_like (Bits base s) (Pair low high) n m a)
joined_words (Pair low high ∷ m) (Pair least greatest ∷ n) a =
    let r = joined_words m n (alike_later (Pair least greatest) (Pair low high) n m a) in
    let p = distance-max low least in
    let q = distance-min high greatest in
    λ i. p i ∷ q i ∷ r i

pub words-tighter : (m n : Mix) → AreAlike n m → joined (kinds_of m) (words_of m) (words_of n) ≡ words_of (tighter_of m n)
unfolding join_of
words-tighter m n a = ap (λ (l : List ℕ). 0 ∷ l) (joined_words m n a)

like_both : (d e : Dom) → IsLike (both_of d e) d
like_both (Bits base s) (Bits other t) = refl
like_both (Bits base s) (Pair low high) = refl
like_both (Pair low high) (Bits base s) = tt
like_both (Pair low high) (Pair least greatest) = tt

pub length-tighter : (m n : Mix) → length (tighter_of m n) ≡ length m
length-tighter [] n = refl
length-tighter (d ∷ m) [] = refl
length-tighter (d ∷ m) (e ∷ n) = ap suc (length-tighter m n)

pub tighter_at : (m n : Mix) (v : ℕ) → length n ≡ length m → v < length m → dom_of (tighter_of m n) v ≡ both_of (dom_of m v) (dom_of n v)
tighter_at [] n v e h = absurd (omega arith)
tighter_at (d ∷ m) [] v e h = absurd (omega arith)
tighter_at (d ∷ m) (f ∷ n) zero e h = refl
tighter_at (d ∷ m) (f ∷ n) (suc v) e h = tighter_at m n v (omega arith) (omega arith)

pub tighter_is : (m n c : Mix) → length n ≡ length m → length c ≡ length m → ((v : ℕ) → v < length m → dom_of c v ≡ both_of (dom_of m v) (dom_of n v)) → c ≡ tighter_of m n
tighter_is [] n [] e l h = refl
tighter_is [] n (c ∷ cs) e l h = absurd (omega arith)
tighter_is (d ∷ m) [] c e l h = absurd (omega arith)
tighter_is (d ∷ m) (f ∷ n) [] e l h = absurd (omega arith)
tighter_is (d ∷ m) (f ∷ n) (c ∷ cs) e l h = let a = h 0 (omega arith) in let r = tighter_is m n cs (omega arith) (omega arith) (λ v k. h (suc v) (omega arith)) in λ i. a i ∷ r i
