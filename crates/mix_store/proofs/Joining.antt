-- A seat after it took in another one.
use Rattle.std.proofs.Common.{ℕ, ℤ, ◌≡◌, ◌<◌, ◌≤ℤ◌, List, length, refl, sym, ap, ◌∙◌, subst, arith}
use Rattle.std.specs.Prelude.{slice_index, Option, Some, None, IfSome}
use Rattle.std.specs.Int.{int_max, int_min}
use Rattle.std.proofs.lemmas.Int.{ints, clamps}
use Rattle.std.proofs.lemmas.Nat.Bits.{bit_at_and, bit_at-lt}
use Rattle.std.proofs.lemmas.Nat.{and_le_l}
use Rattle.atomic_table.specs.Table.{Me}
use Rattle.atomic_table.specs.Seated.{TableId}
use Rattle.interval.specs.Limits.{IsBound, bound_limit, largest_number}
use Rattle.bit_domain.specs.declared.dom.Dom.{Dom}
use Rattle.bit_domain.specs.declared.dom.Dom.TheVariants.{Bits, Pair}
use Rattle.bit_domain.specs.Mixes.{Mix, dom_of, IsDomInRange, IsMixInRange, IsInsideDom, IsInsideMix}
use Rattle.mix_store.specs.declared.table.View.{View}
use Rattle.mix_store.specs.Order.{Holds}
use Rattle.mix_store.specs.Words.{words_of, kinds_of}
use Rattle.mix_store.specs.Domains.{IsPair, IsPairAt, low_in, low_of, IsLike, AreAlike, both_of, tighter_of}
use Rattle.mix_store.specs.Rule.{kind_at, joined, merged, IsOwn}
use Rattle.mix_store.specs.Standing.{Stands}
use Rattle.mix_store.proofs.MixLaws.{alike_itself, alike_kinds, alike_words, words-tighter, length-tighter, tighter_at}
use Rattle.mix_store.proofs.Seating.{inside_itself, inside_like, lawful_bounds}
use Rattle.mix_store.proofs.Making.{words_inside}
use Rattle.mix_store.proofs.Moves.{some_with}

like_both : (d e k : Dom) → IsLike d k → IsLike (both_of d e) k
like_both (Bits base s) (Bits other t) (Bits third r) h = h
like_both (Bits base s) (Bits other t) (Pair low high) h = absurd h
like_both (Bits base s) (Pair low high) (Bits third r) h = h
like_both (Bits base s) (Pair low high) (Pair least greatest) h = absurd h
like_both (Pair low high) (Bits base s) (Bits third r) h = absurd h
like_both (Pair low high) (Bits base s) (Pair least greatest) h = tt
like_both (Pair low high) (Pair least greatest) (Bits third r) h = absurd h
like_both (Pair low high) (Pair least greatest) (Pair first last) h = tt

like_back : (d e k : Dom) → IsLike d k → IsLike e k → IsLike d e
like_back (Bits base s) (Bits other t) (Bits third r) h g = h ∙ sym g
like_back (Bits base s) (Bits other t) (Pair low high) h g = absurd h
like_back (Bits base s) (Pair low high) (Bits third r) h g = absurd g
like_back (Bits base s) (Pair low high) (Pair least greatest) h g = absurd h
like_back (Pair low high) (Bits base s) (Bits third r) h g = absurd h
like_back (Pair low high) (Bits base s) (Pair least greatest) h g = absurd g
like_back (Pair low high) (Pair least greatest) k h g = tt

pub tighter_alike : (m n k : Mix) → length n ≡ length m → AreAlike m k → AreAlike (tighter_of m n) k
tighter_alike m n k e a = record {
  same_length = length-tighter m n ∙ a.same_length;
  doms = λ v h. subst (λ (d : Dom). IsLike d (dom_of k v)) (sym (tighter_at m n v e (let l = a.same_length in omega arith))) (like_both (dom_of m v) (dom_of n v) (dom_of k v) (a.doms v h));
}

pub alike_both : (n m k : Mix) → AreAlike n k → AreAlike m k → AreAlike n m
alike_both n m k a b = record {
  same_length = a.same_length ∙ sym b.same_length;
  doms = λ v h. let l = b.same_length in like_back (dom_of n v) (dom_of m v) (dom_of k v) (a.doms v (omega arith)) (b.doms v (omega arith));
}

max_bound : (a b : ℤ) → IsBound a → IsBound b → IsBound (int_max a b)
unfolding bound_limit largest_number
max_bound a b h g = grind (arith, ints, clamps)

min_bound : (a b : ℤ) → IsBound a → IsBound b → IsBound (int_min a b)
unfolding bound_limit largest_number
min_bound a b h g = grind (arith, ints, clamps)

pub lawful_both : (d e : Dom) → IsDomInRange d → IsDomInRange e → IsDomInRange (both_of d e)
lawful_both (Bits base s) (Bits other t) h g = (h.0, (let le = and_le_l s t in let l = h.1 in omega arith), λ i e. h.2 i (let b = bit_at_and s t i in let l = bit_at-lt s i in omega arith))
lawful_both (Bits base s) (Pair low high) h g = h
lawful_both (Pair low high) (Bits base s) h g = h
lawful_both (Pair low high) (Pair least greatest) h g = (max_bound low least h.0 g.0, min_bound high greatest h.1 g.1)

lawful_tighter : (m n : Mix) → length n ≡ length m → IsMixInRange m → IsMixInRange n → IsMixInRange (tighter_of m n)
lawful_tighter m n e l k =
    let t = length-tighter m n in record {
      short = let s = l.short in omega arith;
      doms = λ v h. subst IsDomInRange (sym (tighter_at m n v e (omega arith))) (lawful_both (dom_of m v) (dom_of n v) (l.doms v (omega arith)) (k.doms v (omega arith)));
    }

pub some_all : {A : Type 0} (H : ℕ → Type 0) (P : ℕ → A → Type 0) (o : Option A) → ((k : ℕ) → H k → IfSome o (P k)) → IfSome o (λ a. (k : ℕ) → H k → P k a)
some_all H P None p = tt
some_all H P (Some a) p = p

inside_lows : (d e : Dom) → IsInsideDom d e → IsPair e → low_in e ≤ℤ low_in d
inside_lows (Pair low high) (Pair least greatest) h b = h.0
inside_lows (Bits base s) (Pair low high) h b = absurd h
inside_lows (Pair low high) (Bits base s) h b = absurd h
inside_lows (Bits base s) (Bits other t) h b = absurd b

pub joined_stands : (id idv idw : TableId) (me mv mw : Me ℕ View) (m n : Mix) → id ≡ idv → me.1 ≡ mv.1 → me.0 ≡ merged mv.0 mw.0 → Stands idv mv m → Stands idw mw n → AreAlike n m → IsOwn me.0 → Stands id me (tighter_of m n)
joined_stands id idv idw me mv mw m n ids slots view s t a own = record {
  live = ap (λ (x : View). x.live) view ∙ s.live;
  fresh = ap (λ (x : View). x.fresh) view ∙ s.fresh;
  empty = slots ∙ s.empty;
  slots = ap (λ (x : TableId). x.slots) ids ∙ s.slots;
  seen_is = seen_is;
  kinds_is = kinds_is;
  words_is = ap (λ (x : TableId). x.words) ids ∙ s.words_is ∙ sym (alike_words (tighter_of m n) m alike);
  lawful = lawful;
  floor = some_with me.0.floor floor_inside held (λ f i h. words_inside f (tighter_of m n) (floor_alike f i) lawful h (ground f i));
}
  where
    alike : AreAlike (tighter_of m n) m
    alike = tighter_alike m n m a.same_length (alike_itself m)

    lawful : IsMixInRange (tighter_of m n)
    lawful = lawful_tighter m n a.same_length s.lawful t.lawful

    seen_is : me.0.seen ≡ words_of (tighter_of m n)
    seen_is = ap (λ (x : View). x.seen) view ∙ (λ i. joined (s.kinds_is i) (s.seen_is i) (t.seen_is i)) ∙ words-tighter m n a

    kinds_is : me.0.kinds ≡ kinds_of (tighter_of m n)
    kinds_is = ap (λ (x : View). x.kinds) view ∙ s.kinds_is ∙ sym (alike_kinds (tighter_of m n) m alike)

    floor_inside : IfSome me.0.floor (λ f. IsInsideMix f m)
    floor_inside = subst (λ (x : Option Mix). IfSome x (λ f. IsInsideMix f m)) (sym (ap (λ (x : View). x.floor) view)) s.floor

    held : IfSome me.0.floor (λ f. (k : ℕ) → k < length (words_of (tighter_of m n)) → Holds (kind_at (kinds_of (tighter_of m n)) k) (slice_index (words_of (tighter_of m n)) k) (slice_index (words_of f) k))
    held = some_all (λ k. k < length (words_of (tighter_of m n))) (λ k f. Holds (kind_at (kinds_of (tighter_of m n)) k) (slice_index (words_of (tighter_of m n)) k) (slice_index (words_of f) k)) me.0.floor (λ k h. subst (λ (x : List ℕ). IfSome me.0.floor (λ f. Holds (kind_at (kinds_of (tighter_of m n)) k) (slice_index x k) (slice_index (words_of f) k))) seen_is
        (subst (λ kinds. IfSome me.0.floor (λ f. Holds (kind_at kinds k) (slice_index me.0.seen k) (slice_index (words_of f) k))) kinds_is (own k (let e = ap length seen_is in omega arith))))

    floor_alike : (f : Mix) → IsInsideMix f m → AreAlike f (tighter_of m n)
    floor_alike f i = alike_both f (tighter_of m n) m record { same_length = i.same_length; doms = λ v h. inside_like (dom_of f v) (dom_of m v) (i.doms v h) } alike

    ground : (f : Mix) → IsInsideMix f m → (v : ℕ) → IsPairAt (tighter_of m n) v → (y : ℤ) × IsBound y × (y ≤ℤ low_of f v)
    ground f i v h =
        let inside : v < length m = (let l = length-tighter m n in let p = h.0 in omega arith) in
        let pair = pair_too (dom_of m v) (dom_of n v) (subst IsPair (tighter_at m n v a.same_length inside) h.1) in
        (low_of m v, (lawful_bounds (dom_of m v) (s.lawful.doms v inside) pair).0, inside_lows (dom_of f v) (dom_of m v) (i.doms v inside) pair)
      where
        pair_too : (d e : Dom) → IsPair (both_of d e) → IsPair d
        pair_too (Bits base s) (Bits other t) h = absurd h
        pair_too (Bits base s) (Pair low high) h = absurd h
        pair_too (Pair low high) e h = tt

max_first : (a b : ℤ) → a ≤ℤ int_max a b
max_first a b = grind (arith, ints, clamps)

max_second : (a b : ℤ) → b ≤ℤ int_max a b
max_second a b = grind (arith, ints, clamps)

min_first : (a b : ℤ) → int_min a b ≤ℤ a
min_first a b = grind (arith, ints, clamps)

min_second : (a b : ℤ) → int_min a b ≤ℤ b
min_second a b = grind (arith, ints, clamps)

both_in_one : (d e : Dom) → IsInsideDom (both_of d e) d
both_in_one (Bits base s) (Bits other t) = (refl, λ i. let b = bit_at_and s t i in omega arith)
both_in_one (Bits base s) (Pair low high) = inside_itself (Bits base s)
both_in_one (Pair low high) (Bits base s) = inside_itself (Pair low high)
both_in_one (Pair low high) (Pair least greatest) = (max_first low least, min_first high greatest)

both_in_other : (d e : Dom) → IsLike e d → IsInsideDom (both_of d e) e
both_in_other (Bits base s) (Bits other t) h = (sym h, λ i. let b = bit_at_and s t i in omega arith)
both_in_other (Bits base s) (Pair low high) h = absurd h
both_in_other (Pair low high) (Bits base s) h = absurd h
both_in_other (Pair low high) (Pair least greatest) h = (max_second low least, min_second high greatest)

pub tighter_within : (m n seen : Mix) → AreAlike n m → seen ≡ tighter_of m n → IsInsideMix seen m × IsInsideMix seen n
tighter_within m n seen a e =
    subst (λ (x : Mix). IsInsideMix x m × IsInsideMix x n) (sym e) (
      record { same_length = length-tighter m n; doms = λ v h. subst (λ (d : Dom). IsInsideDom d (dom_of m v)) (sym (tighter_at m n v a.same_length h)) (both_in_one (dom_of m v) (dom_of n v)) },
      record {
        same_length = length-tighter m n ∙ sym a.same_length;
        doms = λ v h. let inside : v < length m = (let l = a.same_length in omega arith) in subst (λ (d : Dom). IsInsideDom d (dom_of n v)) (sym (tighter_at m n v a.same_length inside)) (both_in_other (dom_of m v) (dom_of n v) (a.doms v inside));
      },
    )
