-- A step of a seat of a store, as its caller sees it.
use Rattle.std.proofs.Common.{ℕ, ℤ, ◌≡◌, ◌≢◌, ◌+◌, ◌<◌, ◌≤ℤ◌, length, refl, sym, ap, ◌∙◌, subst, arith, length-set}
use Rattle.std.specs.Prelude.{slice_index, slice_set, pos, int_lt, IsTrue, IsFalse}
use Rattle.std.proofs.lemmas.Int.{ints}
use mathlib.Core.Bool.{not}
use lib.Dec.{eqb}
use lib.Signed.{≤ℤ_refl}
use Rattle.std.proofs.lemmas.List.{set-get_or}
use Rattle.atomic_table.specs.Table.{Me}
use Rattle.atomic_table.specs.Seated.{TableId}
use Rattle.bit_domain.specs.declared.dom.Dom.{Dom}
use Rattle.bit_domain.specs.declared.dom.Dom.TheVariants.{Bits, Pair}
use Rattle.bit_domain.specs.Bits.{IsSubset}
use Rattle.bit_domain.specs.Mixes.{Mix, dom_of, IsInsideDom, IsInsideMix}
use Rattle.mix_store.specs.declared.table.View.{View}
use Rattle.mix_store.specs.declared.seat.MixSeat.{MixSeat}
use Rattle.mix_store.specs.declared.store.MixStore.{MixStore}
use Rattle.mix_store.specs.Words.{words_of, place_of}
use Rattle.mix_store.specs.Domains.{IsBits, IsPair, IsBitsAt, IsPairAt, set_in, low_in, high_in, with_set, with_low, with_high, set_of, low_of, high_of, set_put, low_put, high_put, AreAlike}
use Rattle.mix_store.specs.Rule.{Notes}
use Rattle.mix_store.specs.Steps.{IsReady}
use Rattle.mix_store.specs.Seats.{IsSeatOf}
use Rattle.mix_store.proofs.MixLaws.{bits_inside, pair_inside, alike_places}
use Rattle.mix_store.proofs.Seating.{inside_itself, each_put, put_at, put_alike, like_set, like_low, like_high, is_ready, SetStep, set_step, LowStep, low_step, HighStep, high_step}

pub place_is : (store : MixStore) (s : MixSeat) (v : ℕ) → IsSeatOf store s → v < length s.seen → slice_index store.places.items v ≡ place_of s.seen v
place_is store s v h less = store.places_are.each v (let e = h.alike.same_length in omega arith) ∙ sym (alike_places s.seen store.table.shared.key v h.alike)

pub has_place : (store : MixStore) (s : MixSeat) (v : ℕ) → IsSeatOf store s → v < length s.seen → v < length store.places.items
has_place store s v h less = let e = h.alike.same_length in let l = store.places_are.length_is in omega arith

in_table : (store : MixStore) (s : MixSeat) (k : ℕ) → IsSeatOf store s → k < length (words_of s.seen) → k < store.table.shared.table_id.words
in_table store s k h less = let e = ap (λ (x : TableId). x.words) h.table in let l = s.stands.words_is in omega arith

-- ---- the places of a variable

pub set_place : (store : MixStore) (s : MixSeat) (v k : ℕ) → IsSeatOf store s → IsBitsAt s.seen v → k ≡ slice_index store.places.items v → k < length (words_of s.seen)
set_place store s v k h b e = let p = place_is store s v h b.0 in let i = bits_inside s.seen v b in omega arith

pub low_place : (store : MixStore) (s : MixSeat) (v k : ℕ) → IsSeatOf store s → IsPairAt s.seen v → k ≡ slice_index store.places.items v → k < length (words_of s.seen)
low_place store s v k h b e = let p = place_is store s v h b.0 in let i = pair_inside s.seen v b in omega arith

pub high_place : (store : MixStore) (s : MixSeat) (v k : ℕ) → IsSeatOf store s → IsPairAt s.seen v → k ≡ slice_index store.places.items v → k + 1 < length (words_of s.seen)
high_place store s v k h b e = let p = place_is store s v h b.0 in let i = pair_inside s.seen v b in omega arith

pub ready_at : (store : MixStore) (s : MixSeat) (k : ℕ) → IsSeatOf store s → k < length (words_of s.seen) → (k < store.table.shared.table_id.words) × IsReady s.place.me.0 k
ready_at store s k h less = (in_table store s k h less, is_ready s.place.table_id s.place.me s.seen k s.stands less)

-- ---- what a seat has then seen

pub set_seen : (store : MixStore) (s : MixSeat) (v k n : ℕ) (id : TableId) (me : Me ℕ View) → IsSeatOf store s → IsBitsAt s.seen v → k ≡ slice_index store.places.items v → id ≡ s.place.table_id → me.1 ≡ s.place.me.1 → Notes s.place.me.0 k n me.0 → SetStep id me s.seen v n
set_seen store s v k n id me h b e ids slots step = set_step s.place.table_id id s.place.me me s.seen v k n ids slots s.stands (e ∙ place_is store s v h b.0) b step

pub low_seen : (store : MixStore) (s : MixSeat) (v k n : ℕ) (id : TableId) (me : Me ℕ View) → IsSeatOf store s → IsPairAt s.seen v → k ≡ slice_index store.places.items v → id ≡ s.place.table_id → me.1 ≡ s.place.me.1 → Notes s.place.me.0 k n me.0 → LowStep id me s.seen v n
low_seen store s v k n id me h b e ids slots step = low_step s.place.table_id id s.place.me me s.seen v k n ids slots s.stands (e ∙ place_is store s v h b.0) b step

pub high_seen : (store : MixStore) (s : MixSeat) (v k n : ℕ) (id : TableId) (me : Me ℕ View) → IsSeatOf store s → IsPairAt s.seen v → k ≡ slice_index store.places.items v → id ≡ s.place.table_id → me.1 ≡ s.place.me.1 → Notes s.place.me.0 (k + 1) n me.0 → HighStep id me s.seen v n
high_seen store s v k n id me h b e ids slots step = high_step s.place.table_id id s.place.me me s.seen v (k + 1) n ids slots s.stands (let p = place_is store s v h b.0 in omega arith) b step

-- ---- a domain that is put

set_back : (d : Dom) (n : ℕ) → IsBits d → set_in (with_set d n) ≡ n
set_back (Bits base s) n b = refl
set_back (Pair low high) n b = absurd b

low_back : (d : Dom) (z : ℤ) → IsPair d → low_in (with_low d z) ≡ z
low_back (Bits base s) z b = absurd b
low_back (Pair low high) z b = refl

high_back : (d : Dom) (z : ℤ) → IsPair d → high_in (with_high d z) ≡ z
high_back (Bits base s) z b = absurd b
high_back (Pair low high) z b = refl

same_set : (d : Dom) → with_set d (set_in d) ≡ d
same_set (Bits base s) = refl
same_set (Pair low high) = refl

same_low : (d : Dom) → with_low d (low_in d) ≡ d
same_low (Bits base s) = refl
same_low (Pair low high) = refl

same_high : (d : Dom) → with_high d (high_in d) ≡ d
same_high (Bits base s) = refl
same_high (Pair low high) = refl

pub set_read : (m : Mix) (v n : ℕ) (seen : Mix) → IsBitsAt m v → seen ≡ set_put m v n → set_of seen v ≡ n
set_read m v n seen b e = ap (λ (x : Mix). set_of x v) e ∙ ap set_in (put_at m v (with_set (dom_of m v) n) b.0) ∙ set_back (dom_of m v) n b.1

pub low_read : (m : Mix) (v : ℕ) (z : ℤ) (seen : Mix) → IsPairAt m v → seen ≡ low_put m v z → low_of seen v ≡ z
low_read m v z seen b e = ap (λ (x : Mix). low_of x v) e ∙ ap low_in (put_at m v (with_low (dom_of m v) z) b.0) ∙ low_back (dom_of m v) z b.1

pub high_read : (m : Mix) (v : ℕ) (z : ℤ) (seen : Mix) → IsPairAt m v → seen ≡ high_put m v z → high_of seen v ≡ z
high_read m v z seen b e = ap (λ (x : Mix). high_of x v) e ∙ ap high_in (put_at m v (with_high (dom_of m v) z) b.0) ∙ high_back (dom_of m v) z b.1

pub set_rests : (m : Mix) (v n : ℕ) (seen : Mix) → seen ≡ set_put m v n → n ≡ set_of m v → seen ≡ m
set_rests m v n seen e same = e ∙ ap (λ (x : ℕ). set_put m v x) same ∙ ap (slice_set m v) (same_set (dom_of m v)) ∙ set-get_or m v (Pair (pos 0) (pos 0))

pub low_rests : (m : Mix) (v : ℕ) (z : ℤ) (seen : Mix) → seen ≡ low_put m v z → z ≡ low_of m v → seen ≡ m
low_rests m v z seen e same = e ∙ ap (λ (x : ℤ). low_put m v x) same ∙ ap (slice_set m v) (same_low (dom_of m v)) ∙ set-get_or m v (Pair (pos 0) (pos 0))

pub high_rests : (m : Mix) (v : ℕ) (z : ℤ) (seen : Mix) → seen ≡ high_put m v z → z ≡ high_of m v → seen ≡ m
high_rests m v z seen e same = e ∙ ap (λ (x : ℤ). high_put m v x) same ∙ ap (slice_set m v) (same_high (dom_of m v)) ∙ set-get_or m v (Pair (pos 0) (pos 0))

pub set_alike : (m : Mix) (v n : ℕ) (seen k : Mix) → v < length m → seen ≡ set_put m v n → AreAlike m k → AreAlike seen k
set_alike m v n seen k h e a = subst (λ (x : Mix). AreAlike x k) (sym e) (put_alike m k v (with_set (dom_of m v) n) h (λ l. like_set (dom_of m v) (dom_of k v) n l) a)

pub low_alike : (m : Mix) (v : ℕ) (z : ℤ) (seen k : Mix) → v < length m → seen ≡ low_put m v z → AreAlike m k → AreAlike seen k
low_alike m v z seen k h e a = subst (λ (x : Mix). AreAlike x k) (sym e) (put_alike m k v (with_low (dom_of m v) z) h (λ l. like_low (dom_of m v) (dom_of k v) z l) a)

pub high_alike : (m : Mix) (v : ℕ) (z : ℤ) (seen k : Mix) → v < length m → seen ≡ high_put m v z → AreAlike m k → AreAlike seen k
high_alike m v z seen k h e a = subst (λ (x : Mix). AreAlike x k) (sym e) (put_alike m k v (with_high (dom_of m v) z) h (λ l. like_high (dom_of m v) (dom_of k v) z l) a)

-- ---- what a tell answers

pub differ : (x y : ℕ) → IsTrue (not (eqb x y)) → x ≢ y
differ x y t e = grind arith

pub alike : (x y : ℕ) → IsFalse (not (eqb x y)) → x ≡ y
alike x y t = grind arith

pub stays : (x y z w : ℤ) → x ≡ z → y ≡ w → IsFalse (int_lt x y) → z ≤ℤ w → w ≡ z
stays x y z w e f t h = grind (arith, ints)

pub stays_back : (x y z w : ℤ) → x ≡ z → y ≡ w → IsFalse (int_lt x y) → z ≤ℤ w → z ≡ w
stays_back x y z w e f t h = grind (arith, ints)

-- ---- what is then seen is inside what was seen before

set_narrows : (d : Dom) (n : ℕ) → IsSubset n (set_in d) → IsInsideDom (with_set d n) d
set_narrows (Bits base s) n h = (refl, h)
set_narrows (Pair low high) n h = inside_itself (Pair low high)

low_narrows : (d : Dom) (z : ℤ) → low_in d ≤ℤ z → IsInsideDom (with_low d z) d
low_narrows (Bits base s) z h = inside_itself (Bits base s)
low_narrows (Pair low high) z h = (h, ≤ℤ_refl high)

high_narrows : (d : Dom) (z : ℤ) → z ≤ℤ high_in d → IsInsideDom (with_high d z) d
high_narrows (Bits base s) z h = inside_itself (Bits base s)
high_narrows (Pair low high) z h = (≤ℤ_refl low, h)

put_within : (m : Mix) (v : ℕ) (d : Dom) (seen : Mix) → v < length m → seen ≡ slice_set m v d → IsInsideDom d (dom_of m v) → IsInsideMix seen m
put_within m v d seen h e i = subst (λ (x : Mix). IsInsideMix x m) (sym e) record {
  same_length = length-set m v d;
  doms = λ u less. each_put m v u d (λ (x : Dom). IsInsideDom x (dom_of m u)) h (λ same. subst (λ (w : ℕ). IsInsideDom d (dom_of m w)) (sym same) i) (inside_itself (dom_of m u));
}

pub set_within : (m : Mix) (v n : ℕ) (seen : Mix) → v < length m → seen ≡ set_put m v n → IsSubset n (set_of m v) → IsInsideMix seen m
set_within m v n seen h e i = put_within m v (with_set (dom_of m v) n) seen h e (set_narrows (dom_of m v) n i)

pub low_within : (m : Mix) (v : ℕ) (z : ℤ) (seen : Mix) → v < length m → seen ≡ low_put m v z → low_of m v ≤ℤ z → IsInsideMix seen m
low_within m v z seen h e i = put_within m v (with_low (dom_of m v) z) seen h e (low_narrows (dom_of m v) z i)

pub high_within : (m : Mix) (v : ℕ) (z : ℤ) (seen : Mix) → v < length m → seen ≡ high_put m v z → z ≤ℤ high_of m v → IsInsideMix seen m
high_within m v z seen h e i = put_within m v (with_high (dom_of m v) z) seen h e (high_narrows (dom_of m v) z i)
