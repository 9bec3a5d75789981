-- What a step does to what a seat has seen.
use Rattle.std.proofs.Common.{ℕ, ℤ, suc, ◌≡◌, ◌≢◌, ◌*◌, ◌^◌, ◌<◌, ◌≤◌, ◌≤ℤ◌, List, [], length, refl, sym, ap, ◌∙◌, subst, arith, length-set, le_refl}
use Rattle.std.specs.Prelude.{slice_index, slice_set, pos, bit_and, Option, IfSome}
use Rattle.std.specs.Int.{bit_at}
use mathlib.Core.Logic.{dite}
use lib.Signed.{≤ℤ_refl}
use native.Mathlib.Decide.{ℕ_discrete}
use Rattle.std.proofs.lemmas.List.{get_or-set_other}
use Rattle.std.proofs.lemmas.Grind.{get_or-set_at}
use Rattle.std.proofs.lemmas.Nat.Bits.{bit_at-lt, bit_at_and, same_from_bits}
use Rattle.std.proofs.lemmas.Nat.{and_le_r}
use Rattle.atomic_table.specs.Table.{Me}
use Rattle.atomic_table.specs.Seated.{TableId}
use Rattle.interval.specs.Limits.{IsBound, bound_limit}
use Rattle.bit_domain.specs.declared.dom.Dom.{Dom}
use Rattle.bit_domain.specs.declared.dom.Dom.TheVariants.{Bits, Pair}
use Rattle.bit_domain.specs.Bits.{IsSubset}
use Rattle.bit_domain.specs.Mixes.{Mix, dom_of, IsDomInRange, IsMixInRange, IsInsideDom, IsInsideMix}
use Rattle.mix_store.specs.declared.table.WordKind.{WordKind}
use Rattle.mix_store.specs.declared.table.WordKind.TheVariants.{Set, Low, High}
use Rattle.mix_store.specs.declared.table.View.{View}
use Rattle.mix_store.specs.Order.{Holds, IsWord}
use Rattle.mix_store.specs.Words.{distance, bound_at, words_of, kinds_of, place_of}
use Rattle.mix_store.specs.Domains.{IsBits, IsPair, IsBitsAt, IsPairAt, set_in, low_in, high_in, with_set, with_low, with_high, set_of, low_of, high_of, set_put, low_put, high_put, IsLike, AreAlike, put_of}
use Rattle.mix_store.specs.Rule.{kind_at, IsAllowed, Fits, Notes, made_view, with_floor}
use Rattle.mix_store.specs.Steps.{IsReady}
use Rattle.mix_store.specs.Standing.{Stands}
use Rattle.mix_store.proofs.DistanceLaws.{distance_word, distance-bound_at, bound_range, distance_rises, under, over}
use Rattle.mix_store.proofs.MixLaws.{bits_word, bits_kind, bits_set, low_word, low_kind, low_set, high_word, high_kind, high_set, like_itself, alike_itself, alike_kinds, alike_words, alike_places}
use Rattle.mix_store.proofs.Moves.{some_with}

-- ---- domains one by one

pub inside_like : (d e : Dom) → IsInsideDom d e → IsLike d e
inside_like (Bits base s) (Bits other t) h = h.0
inside_like (Bits base s) (Pair low high) h = absurd h
inside_like (Pair low high) (Bits base s) h = absurd h
inside_like (Pair low high) (Pair least greatest) h = tt

like_bits : (d e : Dom) → IsLike d e → IsBits e → IsBits d
like_bits (Bits base s) e h b = tt
like_bits (Pair low high) (Bits base s) h b = absurd h
like_bits (Pair low high) (Pair least greatest) h b = absurd b

like_pair : (d e : Dom) → IsLike d e → IsPair e → IsPair d
like_pair (Pair low high) e h b = tt
like_pair (Bits base s) (Pair low high) h b = absurd h
like_pair (Bits base s) (Bits other t) h b = absurd b

pub like_set : (d e : Dom) (n : ℕ) → IsLike d e → IsLike (with_set d n) e
like_set (Bits base s) (Bits other t) n h = h
like_set (Bits base s) (Pair low high) n h = absurd h
like_set (Pair low high) (Bits base s) n h = absurd h
like_set (Pair low high) (Pair least greatest) n h = tt

pub like_low : (d e : Dom) (z : ℤ) → IsLike d e → IsLike (with_low d z) e
like_low (Bits base s) (Bits other t) z h = h
like_low (Bits base s) (Pair low high) z h = absurd h
like_low (Pair low high) (Bits base s) z h = absurd h
like_low (Pair low high) (Pair least greatest) z h = tt

pub like_high : (d e : Dom) (z : ℤ) → IsLike d e → IsLike (with_high d z) e
like_high (Bits base s) (Bits other t) z h = h
like_high (Bits base s) (Pair low high) z h = absurd h
like_high (Pair low high) (Bits base s) z h = absurd h
like_high (Pair low high) (Pair least greatest) z h = tt

inside_set : (d e : Dom) (n : ℕ) → IsInsideDom d e → IsBits e → IsSubset (set_in d) n → IsInsideDom d (with_set e n)
inside_set (Bits base s) (Bits other t) n h b g = (h.0, g)
inside_set (Bits base s) (Pair low high) n h b g = absurd h
inside_set (Pair low high) (Bits base s) n h b g = absurd h
inside_set (Pair low high) (Pair least greatest) n h b g = absurd b

inside_low : (d e : Dom) (z : ℤ) → IsInsideDom d e → IsPair e → z ≤ℤ low_in d → IsInsideDom d (with_low e z)
inside_low (Pair low high) (Pair least greatest) z h b g = (g, h.1)
inside_low (Bits base s) (Pair low high) z h b g = absurd h
inside_low (Pair low high) (Bits base s) z h b g = absurd h
inside_low (Bits base s) (Bits other t) z h b g = absurd b

inside_high : (d e : Dom) (z : ℤ) → IsInsideDom d e → IsPair e → high_in d ≤ℤ z → IsInsideDom d (with_high e z)
inside_high (Pair low high) (Pair least greatest) z h b g = (h.0, g)
inside_high (Bits base s) (Pair low high) z h b g = absurd h
inside_high (Pair low high) (Bits base s) z h b g = absurd h
inside_high (Bits base s) (Bits other t) z h b g = absurd b

-- the lower bounds of two pairs of which one is inside the other
inside_lows : (d e : Dom) → IsInsideDom d e → IsPair e → low_in e ≤ℤ low_in d
inside_lows (Pair low high) (Pair least greatest) h b = h.0
inside_lows (Bits base s) (Pair low high) h b = absurd h
inside_lows (Pair low high) (Bits base s) h b = absurd h
inside_lows (Bits base s) (Bits other t) h b = absurd b

-- a subset of a set of 64 bits
subset_short : (n s : ℕ) → IsSubset n s → s < 2 ^ 64 → n < 2 ^ 64
subset_short n s sub h =
    let e : n ≡ bit_and n s = same_from_bits n (bit_and n s) (λ i. let a = bit_at_and n s i in let p = sub i in omega arith) in
    let le = and_le_r n s in
    omega arith

pub lawful_set : (d : Dom) (n : ℕ) → IsDomInRange d → IsBits d → IsSubset n (set_in d) → IsDomInRange (with_set d n)
lawful_set (Bits base s) n h b sub = (h.0, subset_short n s sub h.1, λ i e. h.2 i (let p = sub i in let q = bit_at-lt s i in omega arith))
lawful_set (Pair low high) n h b sub = absurd b

lawful_low : (d : Dom) (z : ℤ) → IsDomInRange d → IsBound z → IsDomInRange (with_low d z)
lawful_low (Bits base s) z h b = h
lawful_low (Pair low high) z h b = (b, h.1)

lawful_high : (d : Dom) (z : ℤ) → IsDomInRange d → IsBound z → IsDomInRange (with_high d z)
lawful_high (Bits base s) z h b = h
lawful_high (Pair low high) z h b = (h.0, b)

pub lawful_bounds : (d : Dom) → IsDomInRange d → IsPair d → IsBound (low_in d) × IsBound (high_in d)
lawful_bounds (Bits base s) h b = absurd b
lawful_bounds (Pair low high) h b = h

pub inside_itself : (d : Dom) → IsInsideDom d d
inside_itself (Bits base s) = (refl, λ i. le_refl (bit_at s i))
inside_itself (Pair low high) = (≤ℤ_refl low, ≤ℤ_refl high)

-- ---- mixes after one domain is put

pub put_at : (m : Mix) (v : ℕ) (d : Dom) → v < length m → dom_of (put_of m v d) v ≡ d
put_at m v d h = get_or-set_at m v v d (Pair (pos 0) (pos 0)) refl h

pub each_put : (m : Mix) (v u : ℕ) (d : Dom) (P : Dom → Type 0) → v < length m → (u ≡ v → P d) → P (dom_of m u) → P (dom_of (put_of m v d) u)
each_put m v u d P h new old = dite (ℕ_discrete u v)
    (λ (e : u ≡ v). subst P (sym (get_or-set_at m v u d (Pair (pos 0) (pos 0)) e h)) (new e))
    (λ (ne : u ≢ v). subst P (sym (get_or-set_other m v u d (Pair (pos 0) (pos 0)) ne)) old)

pub put_alike : (m n : Mix) (v : ℕ) (d : Dom) → v < length m → (IsLike (dom_of m v) (dom_of n v) → IsLike d (dom_of n v)) → AreAlike m n → AreAlike (put_of m v d) n
put_alike m n v d h new a = record {
  same_length = length-set m v d ∙ a.same_length;
  doms = λ u less. each_put m v u d (λ (x : Dom). IsLike x (dom_of n u)) h
      (λ e. subst (λ (w : ℕ). IsLike d (dom_of n w)) (sym e) (new (subst (λ (w : ℕ). IsLike (dom_of m w) (dom_of n w)) e (a.doms u less))))
      (a.doms u less);
}

pub put_lawful : (m : Mix) (v : ℕ) (d : Dom) → v < length m → IsDomInRange d → IsMixInRange m → IsMixInRange (put_of m v d)
put_lawful m v d h new l = record {
  short = let e = length-set m v d in let s = l.short in omega arith;
  doms = λ u less. each_put m v u d IsDomInRange h (λ e. new) (l.doms u (let e = length-set m v d in omega arith));
}

pub put_inside : (f m : Mix) (v : ℕ) (d : Dom) → v < length m → IsInsideDom (dom_of f v) d → IsInsideMix f m → IsInsideMix f (put_of m v d)
put_inside f m v d h new i = record {
  same_length = i.same_length ∙ sym (length-set m v d);
  doms = λ u less. each_put m v u d (λ (x : Dom). IsInsideDom (dom_of f u) x) h
      (λ e. subst (λ (w : ℕ). IsInsideDom (dom_of f w) d) (sym e) new)
      (i.doms u (let e = length-set m v d in omega arith));
}

pub inside_alike : (f m : Mix) → IsInsideMix f m → AreAlike f m
inside_alike f m i = record { same_length = i.same_length; doms = λ v h. inside_like (dom_of f v) (dom_of m v) (i.doms v h) }

pub inside_bits : (f m : Mix) (v : ℕ) → IsInsideMix f m → IsBitsAt m v → IsBitsAt f v
inside_bits f m v i h = (let e = i.same_length in let l = h.0 in omega arith, like_bits (dom_of f v) (dom_of m v) (inside_like (dom_of f v) (dom_of m v) (i.doms v h.0)) h.1)

pub inside_pair : (f m : Mix) (v : ℕ) → IsInsideMix f m → IsPairAt m v → IsPairAt f v
inside_pair f m v i h = (let e = i.same_length in let l = h.0 in omega arith, like_pair (dom_of f v) (dom_of m v) (inside_like (dom_of f v) (dom_of m v) (i.doms v h.0)) h.1)

-- a mix that is alike keeps each variable as it was
pub kept_bits : (n m : Mix) → AreAlike n m → (v : ℕ) → IsBitsAt m v → IsBitsAt n v
kept_bits n m a v h = (let e = a.same_length in let l = h.0 in omega arith, like_bits (dom_of n v) (dom_of m v) (a.doms v h.0) h.1)

pub kept_pairs : (n m : Mix) → AreAlike n m → (v : ℕ) → IsPairAt m v → IsPairAt n v
kept_pairs n m a v h = (let e = a.same_length in let l = h.0 in omega arith, like_pair (dom_of n v) (dom_of m v) (a.doms v h.0) h.1)

-- ---- the words of a floor

pub floor_set : (f m : Mix) (v k : ℕ) → IsInsideMix f m → IsBitsAt m v → k ≡ place_of m v → slice_index (words_of f) k ≡ set_of f v
floor_set f m v k i h e = ap (slice_index (words_of f)) (e ∙ sym (alike_places f m v (inside_alike f m i))) ∙ bits_word f v (inside_bits f m v i h)

pub floor_low : (f m : Mix) (v k : ℕ) → IsInsideMix f m → IsPairAt m v → k ≡ place_of m v → slice_index (words_of f) k ≡ distance (low_of f v)
floor_low f m v k i h e = ap (slice_index (words_of f)) (e ∙ sym (alike_places f m v (inside_alike f m i))) ∙ low_word f v (inside_pair f m v i h)

pub floor_high : (f m : Mix) (v k : ℕ) → IsInsideMix f m → IsPairAt m v → k ≡ suc (place_of m v) → slice_index (words_of f) k ≡ distance (high_of f v)
floor_high f m v k i h e = ap (slice_index (words_of f)) (e ∙ ap suc (sym (alike_places f m v (inside_alike f m i)))) ∙ high_word f v (inside_pair f m v i h)

-- ---- a seat before and after a step on the word k, which was then n

same_kind : (me : Me ℕ View) (m : Mix) (k p : ℕ) (kind : WordKind) → me.0.kinds ≡ kinds_of m → k ≡ p → kind_at (kinds_of m) p ≡ kind → kind_at me.0.kinds k ≡ kind
same_kind me m k p kind kinds e is = ap (λ (l : List WordKind). kind_at l k) kinds ∙ ap (kind_at (kinds_of m)) e ∙ is

behind_at : (id : TableId) (me : Me ℕ View) (m : Mix) (k p n x : ℕ) (kind : WordKind) → Stands id me m → k ≡ p → kind_at (kinds_of m) p ≡ kind → slice_index (words_of m) p ≡ x → Fits me.0 k n → Holds kind x n
behind_at id me m k p n x kind s e is at fits =
    let a = same_kind me m k p kind s.kinds_is e is in
    let b = ap (λ (l : List ℕ). slice_index l k) s.seen_is ∙ ap (slice_index (words_of m)) e ∙ at in
    subst (λ (t : WordKind × ℕ). Holds t.0 t.1 n) (λ i. (a i, b i)) fits.behind

word_at : (id : TableId) (me : Me ℕ View) (m : Mix) (k p n : ℕ) (kind : WordKind) → Stands id me m → k ≡ p → kind_at (kinds_of m) p ≡ kind → Fits me.0 k n → IsWord kind n
word_at id me m k p n kind s e is fits = subst (λ (x : WordKind). IsWord x n) (same_kind me m k p kind s.kinds_is e is) fits.allowed.word

pub stands_after : (id id' : TableId) (me me' : Me ℕ View) (m : Mix) (v k n : ℕ) (d : Dom) → id' ≡ id → me'.1 ≡ me.1 → Stands id me m → Notes me.0 k n me'.0 → slice_set (words_of m) k n ≡ words_of (put_of m v d) → v < length m → IsLike d (dom_of m v) → IsDomInRange d → IfSome me.0.floor (λ f. IsInsideDom (dom_of f v) d)
    → Stands id' me' (put_of m v d)
stands_after id id' me me' m v k n d ids slots s step words inside like lawful held =
    let alike = put_alike m m v d inside (λ _. like) (alike_itself m) in record {
      live = ap (λ (x : View). x.live) step.view ∙ s.live;
      fresh = ap (λ (x : View). x.fresh) step.view ∙ s.fresh;
      empty = slots ∙ s.empty;
      slots = ap (λ (x : TableId). x.slots) ids ∙ s.slots;
      seen_is = ap (λ (x : View). x.seen) step.view ∙ ap (λ (l : List ℕ). slice_set l k n) s.seen_is ∙ words;
      kinds_is = ap (λ (x : View). x.kinds) step.view ∙ s.kinds_is ∙ sym (alike_kinds (put_of m v d) m alike);
      words_is = ap (λ (x : TableId). x.words) ids ∙ s.words_is ∙ sym (alike_words (put_of m v d) m alike);
      lawful = put_lawful m v d inside lawful s.lawful;
      floor = subst (λ (x : Option Mix). IfSome x (λ f. IsInsideMix f (put_of m v d))) (sym (ap (λ (x : View). x.floor) step.view))
          (some_with me.0.floor s.floor held (λ f i h. put_inside f m v d inside h i));
    }

pub is_ready : (id : TableId) (me : Me ℕ View) (m : Mix) (k : ℕ) → Stands id me m → k < length (words_of m) → IsReady me.0 k
is_ready id me m k s h = record { live = s.live; fresh = s.fresh; inside = let e = ap length s.seen_is in omega arith }

-- a seat of a store that was just made, once its floor is named
pub start_stands : (id : TableId) (me : Me ℕ View) (m : Mix) (floor : Option Mix) → me.0 ≡ with_floor (made_view m) floor → me.1 ≡ [] → id.words ≡ length (words_of m) → id.slots ≡ 0 → IsMixInRange m → IfSome floor (λ f. IsInsideMix f m) → Stands id me m
start_stands id me m floor view empty words slots lawful inside = record {
  live = ap (λ (x : View). x.live) view;
  fresh = ap (λ (x : View). x.fresh) view;
  empty = empty;
  slots = slots;
  seen_is = ap (λ (x : View). x.seen) view;
  kinds_is = ap (λ (x : View). x.kinds) view;
  words_is = words;
  lawful = lawful;
  floor = subst (λ (x : Option Mix). IfSome x (λ f. IsInsideMix f m)) (sym (ap (λ (x : View). x.floor) view)) inside;
}

-- ---- a set

pub record SetStep (id : TableId) (me : Me ℕ View) (m : Mix) (v n : ℕ) : Type 0 where
  pub stands : Stands id me (set_put m v n)
  pub subset : IsSubset n (set_of m v)
  pub floor : IfSome me.0.floor (λ f. IsSubset (set_of f v) n)

pub set_step : (id id' : TableId) (me me' : Me ℕ View) (m : Mix) (v k n : ℕ) → id' ≡ id → me'.1 ≡ me.1 → Stands id me m → k ≡ place_of m v → IsBitsAt m v → Notes me.0 k n me'.0 → SetStep id' me' m v n
unfolding Holds
set_step id id' me me' m v k n ids slots s e h step =
    let kind = same_kind me m k (place_of m v) Set s.kinds_is e (bits_kind m v h) in
    let sub : IsSubset n (set_of m v) = behind_at id me m k (place_of m v) n (set_of m v) Set s e (bits_kind m v h) (bits_word m v h) step.fits in
    let held : IfSome me.0.floor (λ f. IsSubset (set_of f v) n) = some_with me.0.floor s.floor step.fits.allowed.held (λ f i p.
    let a = floor_set f m v k i h e in
    subst (λ (t : WordKind × ℕ). Holds t.0 n t.1) (λ j. (kind j, a j)) p) in record {
      stands = stands_after id id' me me' m v k n (with_set (dom_of m v) n) ids slots s step (ap (λ (j : ℕ). slice_set (words_of m) j n) e ∙ bits_set m v n h) h.0 (like_set (dom_of m v) (dom_of m v) n (like_itself (dom_of m v))) (lawful_set (dom_of m v) n (s.lawful.doms v h.0) h.1 sub)
          (some_with me.0.floor s.floor held (λ f i p. inside_set (dom_of f v) (dom_of m v) n (i.doms v h.0) h.1 p));
      subset = sub;
      floor = subst (λ (x : Option Mix). IfSome x (λ f. IsSubset (set_of f v) n)) (sym (ap (λ (x : View). x.floor) step.view)) held;
    }

-- ---- a lower bound

pub record LowStep (id : TableId) (me : Me ℕ View) (m : Mix) (v n : ℕ) : Type 0 where
  pub stands : Stands id me (low_put m v (bound_at n))
  pub word : n ≤ 2 * bound_limit
  pub not_behind : low_of m v ≤ℤ bound_at n
  pub floor : IfSome me.0.floor (λ f. bound_at n ≤ℤ low_of f v)

pub low_step : (id id' : TableId) (me me' : Me ℕ View) (m : Mix) (v k n : ℕ) → id' ≡ id → me'.1 ≡ me.1 → Stands id me m → k ≡ place_of m v → IsPairAt m v → Notes me.0 k n me'.0 → LowStep id' me' m v n
unfolding Holds IsWord
low_step id id' me me' m v k n ids slots s e h step =
    let kind = same_kind me m k (place_of m v) Low s.kinds_is e (low_kind m v h) in
    let word : n ≤ 2 * bound_limit = word_at id me m k (place_of m v) n Low s e (low_kind m v h) step.fits in
    let up : distance (low_of m v) ≤ n = behind_at id me m k (place_of m v) n (distance (low_of m v)) Low s e (low_kind m v h) (low_word m v h) step.fits in
    let bounds = lawful_bounds (dom_of m v) (s.lawful.doms v h.0) h.1 in
    let held : IfSome me.0.floor (λ f. bound_at n ≤ℤ low_of f v) = some_with me.0.floor s.floor step.fits.allowed.held (λ f i p.
    let a = floor_low f m v k i h e in
    over (low_of m v) (low_of f v) n bounds.0 (inside_lows (dom_of f v) (dom_of m v) (i.doms v h.0) h.1) (subst (λ (t : WordKind × ℕ). Holds t.0 n t.1) (λ j. (kind j, a j)) p)) in record {
      stands = stands_after id id' me me' m v k n (with_low (dom_of m v) (bound_at n)) ids slots s step (ap (λ (j : ℕ). slice_set (words_of m) j n) e ∙ ap (slice_set (words_of m) (place_of m v)) (sym (distance-bound_at n)) ∙ low_set m v (bound_at n) h) h.0 (like_low (dom_of m v) (dom_of m v) (bound_at n) (like_itself (dom_of m v))) (lawful_low (dom_of m v) (bound_at n) (s.lawful.doms v h.0) (bound_range n word))
          (some_with me.0.floor s.floor held (λ f i p. inside_low (dom_of f v) (dom_of m v) (bound_at n) (i.doms v h.0) h.1 p));
      word = word;
      not_behind = under (low_of m v) n up;
      floor = subst (λ (x : Option Mix). IfSome x (λ f. bound_at n ≤ℤ low_of f v)) (sym (ap (λ (x : View). x.floor) step.view)) held;
    }

-- ---- an upper bound

pub record HighStep (id : TableId) (me : Me ℕ View) (m : Mix) (v n : ℕ) : Type 0 where
  pub stands : Stands id me (high_put m v (bound_at n))
  pub word : n ≤ 2 * bound_limit
  pub not_behind : bound_at n ≤ℤ high_of m v
  pub floor : IfSome me.0.floor (λ f. high_of f v ≤ℤ bound_at n)

pub high_step : (id id' : TableId) (me me' : Me ℕ View) (m : Mix) (v k n : ℕ) → id' ≡ id → me'.1 ≡ me.1 → Stands id me m → k ≡ suc (place_of m v) → IsPairAt m v → Notes me.0 k n me'.0 → HighStep id' me' m v n
unfolding Holds IsWord
high_step id id' me me' m v k n ids slots s e h step =
    let kind = same_kind me m k (suc (place_of m v)) High s.kinds_is e (high_kind m v h) in
    let word : n ≤ 2 * bound_limit = word_at id me m k (suc (place_of m v)) n High s e (high_kind m v h) step.fits in
    let down : n ≤ distance (high_of m v) = behind_at id me m k (suc (place_of m v)) n (distance (high_of m v)) High s e (high_kind m v h) (high_word m v h) step.fits in
    let bounds = lawful_bounds (dom_of m v) (s.lawful.doms v h.0) h.1 in
    let held : IfSome me.0.floor (λ f. high_of f v ≤ℤ bound_at n) = some_with me.0.floor s.floor step.fits.allowed.held (λ f i p.
    let a = floor_high f m v k i h e in
    under (high_of f v) n (subst (λ (t : WordKind × ℕ). Holds t.0 n t.1) (λ j. (kind j, a j)) p)) in record {
      stands = stands_after id id' me me' m v k n (with_high (dom_of m v) (bound_at n)) ids slots s step (ap (λ (j : ℕ). slice_set (words_of m) j n) e ∙ ap (slice_set (words_of m) (suc (place_of m v))) (sym (distance-bound_at n)) ∙ high_set m v (bound_at n) h) h.0 (like_high (dom_of m v) (dom_of m v) (bound_at n) (like_itself (dom_of m v))) (lawful_high (dom_of m v) (bound_at n) (s.lawful.doms v h.0) (bound_range n word))
          (some_with me.0.floor s.floor held (λ f i p. inside_high (dom_of f v) (dom_of m v) (bound_at n) (i.doms v h.0) h.1 p));
      word = word;
      not_behind = over (high_of m v) (high_of m v) n bounds.1 (≤ℤ_refl (high_of m v)) down;
      floor = subst (λ (x : Option Mix). IfSome x (λ f. high_of f v ≤ℤ bound_at n)) (sym (ap (λ (x : View). x.floor) step.view)) held;
    }

-- ---- what a seat may tell

pub may_set : (id : TableId) (me : Me ℕ View) (m : Mix) (v k n : ℕ) → Stands id me m → k ≡ place_of m v → IsBitsAt m v → IfSome me.0.floor (λ f. IsSubset (set_of f v) n) → (kind_at me.0.kinds k ≡ Set) × IsAllowed me.0.kinds me.0.floor k n
unfolding Holds IsWord
may_set id me m v k n s e h held =
    let kind = same_kind me m k (place_of m v) Set s.kinds_is e (bits_kind m v h) in (
      kind,
      record {
        word = subst (λ (x : WordKind). IsWord x n) (sym kind) tt;
        held = some_with me.0.floor s.floor held (λ f i p. let a = floor_set f m v k i h e in subst (λ (t : WordKind × ℕ). Holds t.0 n t.1) (λ j. (sym kind j, sym a j)) p);
      },
    )

pub may_low : (id : TableId) (me : Me ℕ View) (m : Mix) (v k n : ℕ) (z : ℤ) → Stands id me m → k ≡ place_of m v → IsPairAt m v → IsBound z → n ≡ distance z → IfSome me.0.floor (λ f. z ≤ℤ low_of f v) → (kind_at me.0.kinds k ≡ Low) × IsAllowed me.0.kinds me.0.floor k n
unfolding Holds IsWord
may_low id me m v k n z s e h b is held =
    let kind = same_kind me m k (place_of m v) Low s.kinds_is e (low_kind m v h) in
    let word : n ≤ 2 * bound_limit = (let d = (distance_word z b).0 in omega arith) in (
      kind,
      record {
        word = subst (λ (x : WordKind). IsWord x n) (sym kind) word;
        held = some_with me.0.floor s.floor held (λ f i p.
            let a = floor_low f m v k i h e in
            let le : n ≤ distance (low_of f v) = (let r = distance_rises z (low_of f v) p in omega arith) in
            subst (λ (t : WordKind × ℕ). Holds t.0 n t.1) (λ j. (sym kind j, sym a j)) le);
      },
    )

pub may_high : (id : TableId) (me : Me ℕ View) (m : Mix) (v k n : ℕ) (z : ℤ) → Stands id me m → k ≡ suc (place_of m v) → IsPairAt m v → IsBound z → n ≡ distance z → IfSome me.0.floor (λ f. high_of f v ≤ℤ z) → (kind_at me.0.kinds k ≡ High) × IsAllowed me.0.kinds me.0.floor k n
unfolding Holds IsWord
may_high id me m v k n z s e h b is held =
    let kind = same_kind me m k (suc (place_of m v)) High s.kinds_is e (high_kind m v h) in
    let word : n ≤ 2 * bound_limit = (let d = (distance_word z b).0 in omega arith) in (
      kind,
      record {
        word = subst (λ (x : WordKind). IsWord x n) (sym kind) word;
        held = some_with me.0.floor s.floor held (λ f i p.
            let a = floor_high f m v k i h e in
            let le : distance (high_of f v) ≤ n = (let r = distance_rises (high_of f v) z p in omega arith) in
            subst (λ (t : WordKind × ℕ). Holds t.0 n t.1) (λ j. (sym kind j, sym a j)) le);
      },
    )
