-- The words of a mix at the start, and two mixes compared by their words.
use Rattle.std.proofs.Common.{ℕ, ℤ, zero, suc, ◌≡◌, ◌<◌, ◌≤◌, ◌≤ℤ◌, [], ◌∷◌, length, sym, ap, ◌∙◌, subst, le_refl, arith}
use Rattle.std.specs.Prelude.{slice_index, flat_map, Option, Some, None, IfSome}
use Rattle.interval.specs.Limits.{IsBound}
use Rattle.bit_domain.specs.declared.dom.Dom.{Dom}
use Rattle.bit_domain.specs.declared.dom.Dom.TheVariants.{Bits, Pair}
use Rattle.bit_domain.specs.Bits.{IsSubset}
use Rattle.bit_domain.specs.Mixes.{Mix, dom_of, IsDomInRange, IsMixInRange, IsInsideDom, IsInsideMix}
use Rattle.mix_store.specs.declared.table.WordKind.{WordKind}
use Rattle.mix_store.specs.declared.table.WordKind.TheVariants.{Set, Low, High}
use Rattle.mix_store.specs.Order.{Holds, IsWord}
use Rattle.mix_store.specs.Words.{distance, bound_at, words_in, kinds_in, words_of, kinds_of, place_of}
use Rattle.mix_store.specs.Domains.{IsBits, IsPair, IsBitsAt, IsPairAt, set_in, low_in, high_in, set_of, low_of, high_of, IsLike, AreAlike}
use Rattle.mix_store.specs.Rule.{kind_at, IsAllowed}
use Rattle.mix_store.proofs.DistanceLaws.{distance_word, distance_rises, under, over, through}
use Rattle.mix_store.proofs.OrderLaws.{holds_itself}
use Rattle.mix_store.proofs.MixLaws.{bits_word, bits_kind, bits_inside, low_word, low_kind, high_word, high_kind, pair_inside, alike_places}
use Rattle.mix_store.proofs.Seating.{lawful_bounds}

-- ---- each word is of its kind

tail_lawful : (d : Dom) (m : Mix) → ((v : ℕ) → v < length (d ∷ m) → IsDomInRange (dom_of (d ∷ m) v)) → (v : ℕ) → v < length m → IsDomInRange (dom_of m v)
tail_lawful d m l v h = l (suc v) (omega arith)

words_fit : (m : Mix) → ((v : ℕ) → v < length m → IsDomInRange (dom_of m v)) → (k : ℕ) → k < length (flat_map words_in m) → IsWord (kind_at (flat_map kinds_in m) k) (slice_index (flat_map words_in m) k)
unfolding IsWord
words_fit [] l k h = absurd (omega arith)
words_fit (Bits base s ∷ m) l zero h = tt
words_fit (Bits base s ∷ m) l (suc k) h = words_fit m (tail_lawful (Bits base s) m l) k (omega arith)
words_fit (Pair low high ∷ m) l zero h = (distance_word low (l 0 (omega arith)).0).0
words_fit (Pair low high ∷ m) l (suc zero) h = (distance_word high (l 0 (omega arith)).1).0
words_fit (Pair low high ∷ m) l (suc (suc k)) h = words_fit m (tail_lawful (Pair low high) m l) k (omega arith)

pub words_are : (m : Mix) → IsMixInRange m → (k : ℕ) → k < length (words_of m) → IsWord (kind_at (kinds_of m) k) (slice_index (words_of m) k)
unfolding IsWord
words_are m l zero h = tt
words_are m l (suc k) h = words_fit m l.doms k (omega arith)

-- ---- of a mix inside another one, each word is held

tail_inside : (d e : Dom) (f m : Mix) → IsInsideMix (d ∷ f) (e ∷ m) → IsInsideMix f m
tail_inside d e f m i = record { same_length = let l = i.same_length in omega arith; doms = λ v h. i.doms (suc v) (omega arith) }

head_inside : (d e : Dom) (f m : Mix) → IsInsideMix (d ∷ f) (e ∷ m) → IsInsideDom d e
head_inside d e f m i = i.doms 0 (omega arith)

words_hold : (f m : Mix) → IsInsideMix f m → (k : ℕ) → k < length (flat_map words_in m) → Holds (kind_at (flat_map kinds_in m) k) (slice_index (flat_map words_in m) k) (slice_index (flat_map words_in f) k)
unfolding Holds
words_hold [] [] i k h = absurd (omega arith)
words_hold (d ∷ f) [] i k h = absurd (let l = i.same_length in omega arith)
words_hold [] (e ∷ m) i k h = absurd (let l = i.same_length in omega arith)
words_hold (Bits base s ∷ f) (Bits other t ∷ m) i zero h = (head_inside (Bits base s) (Bits other t) f m i).1
words_hold (Bits base s ∷ f) (Bits other t ∷ m) i (suc k) h = words_hold f m (tail_inside (Bits base s) (Bits other t) f m i) k (omega arith)
words_hold (Bits base s ∷ f) (Pair low high ∷ m) i k h = absurd (head_inside (Bits base s) (Pair low high) f m i)
words_hold (Pair low high ∷ f) (Bits base s ∷ m) i k h = absurd (head_inside (Pair low high) (Bits base s) f m i)
words_hold (Pair low high ∷ f) (Pair least greatest ∷ m) i zero h = distance_rises least low (head_inside (Pair low high) (Pair least greatest) f m i).0
words_hold (Pair low high ∷ f) (Pair least greatest ∷ m) i (suc zero) h = distance_rises high greatest (head_inside (Pair low high) (Pair least greatest) f m i).1
words_hold (Pair low high ∷ f) (Pair least greatest ∷ m) i (suc (suc k)) h = words_hold f m (tail_inside (Pair low high) (Pair least greatest) f m i) k (omega arith)

pub inside_words : (f m : Mix) → IsInsideMix f m → (k : ℕ) → k < length (words_of m) → Holds (kind_at (kinds_of m) k) (slice_index (words_of m) k) (slice_index (words_of f) k)
inside_words f m i zero h = holds_itself Set 0
inside_words f m i (suc k) h = words_hold f m i k (omega arith)

-- a floor inside the start may be named
pub may_name : (m : Mix) (floor : Option Mix) → IsMixInRange m → IfSome floor (λ f. IsInsideMix f m) → (k : ℕ) → k < length (words_of m) → IsAllowed (kinds_of m) floor k (slice_index (words_of m) k)
may_name m None l i k h = record { word = words_are m l k h; held = tt }
may_name m (Some f) l i k h = record { word = words_are m l k h; held = inside_words f m i k h }

-- ---- a mix whose words are held is inside

pub inside_by : (d e : Dom) → IsLike d e → (IsBits e → IsSubset (set_in d) (set_in e)) → (IsPair e → (low_in e ≤ℤ low_in d) × (high_in d ≤ℤ high_in e)) → IsInsideDom d e
inside_by (Bits base s) (Bits other t) h b p = (h, b tt)
inside_by (Bits base s) (Pair low high) h b p = absurd h
inside_by (Pair low high) (Bits base s) h b p = absurd h
inside_by (Pair low high) (Pair least greatest) h b p = p tt

like_bits_back : (d e : Dom) → IsLike d e → IsBits e → IsBits d
like_bits_back (Bits base s) e h b = tt
like_bits_back (Pair low high) (Bits base s) h b = absurd h
like_bits_back (Pair low high) (Pair least greatest) h b = absurd b

like_pair_back : (d e : Dom) → IsLike d e → IsPair e → IsPair d
like_pair_back (Pair low high) e h b = tt
like_pair_back (Bits base s) (Pair low high) h b = absurd h
like_pair_back (Bits base s) (Bits other t) h b = absurd b

-- f and m are alike, each word of m holds that of f, and each lower bound of f is at least some bound
pub words_inside : (f m : Mix) → AreAlike f m → IsMixInRange m → ((k : ℕ) → k < length (words_of m) → Holds (kind_at (kinds_of m) k) (slice_index (words_of m) k) (slice_index (words_of f) k))
    → ((v : ℕ) → IsPairAt m v → (y : ℤ) × IsBound y × (y ≤ℤ low_of f v)) → IsInsideMix f m
unfolding Holds
words_inside f m a l held ground = record {
  same_length = a.same_length;
  doms = λ v h. inside_by (dom_of f v) (dom_of m v) (a.doms v h) (sets v h) (bounds v h);
}
  where
    held_at : (k : ℕ) (kind : WordKind) (x y : ℕ) → k < length (words_of m) → kind_at (kinds_of m) k ≡ kind → slice_index (words_of m) k ≡ x → slice_index (words_of f) k ≡ y → Holds kind x y
    held_at k kind x y h e p q = subst (λ (t : WordKind × ℕ × ℕ). Holds t.0 t.1 t.2) (λ i. (e i, p i, q i)) (held k h)

    sets : (v : ℕ) → v < length m → IsBits (dom_of m v) → IsSubset (set_of f v) (set_of m v)
    sets v h b =
        let fb : IsBitsAt f v = (let e = a.same_length in omega arith, like_bits_back (dom_of f v) (dom_of m v) (a.doms v h) b) in
        held_at (place_of m v) Set (set_of m v) (set_of f v) (bits_inside m v (h, b)) (bits_kind m v (h, b)) (bits_word m v (h, b)) (ap (slice_index (words_of f)) (sym (alike_places f m v a)) ∙ bits_word f v fb)

    bounds : (v : ℕ) → v < length m → IsPair (dom_of m v) → (low_of m v ≤ℤ low_of f v) × (high_of f v ≤ℤ high_of m v)
    bounds v h b =
        let fb : IsPairAt f v = (let e = a.same_length in omega arith, like_pair_back (dom_of f v) (dom_of m v) (a.doms v h) b) in
        let g = ground v (h, b) in
        let own = lawful_bounds (dom_of m v) (l.doms v h) b in
        let inside = pair_inside m v (h, b) in
        let lows : distance (low_of m v) ≤ distance (low_of f v) = held_at (place_of m v) Low (distance (low_of m v)) (distance (low_of f v)) (omega arith) (low_kind m v (h, b)) (low_word m v (h, b)) (ap (slice_index (words_of f)) (sym (alike_places f m v a)) ∙ low_word f v fb) in
        let highs : distance (high_of f v) ≤ distance (high_of m v) = held_at (suc (place_of m v)) High (distance (high_of m v)) (distance (high_of f v)) inside (high_kind m v (h, b)) (high_word m v (h, b)) (ap (slice_index (words_of f)) (ap suc (sym (alike_places f m v a))) ∙ high_word f v fb) in (
          through (low_of m v) (bound_at (distance (low_of f v))) (low_of f v) (under (low_of m v) (distance (low_of f v)) lows) (over g.0 (low_of f v) (distance (low_of f v)) g.1 g.2 (le_refl (distance (low_of f v)))),
          subst (λ (z : ℤ). high_of f v ≤ℤ z) (distance_word (high_of m v) own.1).1 (under (high_of f v) (distance (high_of m v)) highs),
        )
