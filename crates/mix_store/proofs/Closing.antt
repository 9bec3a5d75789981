-- The words of a store that has ended, as a seat knows them.
use Rattle.std.proofs.Common.{ℕ, zero, suc, ◌≡◌, ◌≢◌, ◌⊎◌, ◌+◌, ◌*◌, ◌<◌, ◌≤◌, ◌≤ℤ◌, List, [], ◌∷◌, length, inl, inr, ⊎_elim, refl, sym, ap, ◌∙◌, subst, arith, length-set}
use Rattle.std.specs.Prelude.{slice_index, slice_set, pos, IfSome}
use mathlib.Core.Option.{some, some-injective, some-ne-none}
use lib.ListN.{get_elem?}
use mathlib.Core.Logic.{dite}
use native.Mathlib.Decide.{ℕ_discrete}
use Rattle.std.proofs.lemmas.List.{get_or-set_other}
use Rattle.std.proofs.lemmas.Grind.{get_or-set_at}
use Rattle.atomic_table.specs.Table.{Final, Seen}
use Rattle.interval.specs.Limits.{IsBound, bound_limit}
use Rattle.bit_domain.specs.declared.dom.Dom.{Dom}
use Rattle.bit_domain.specs.declared.dom.Dom.TheVariants.{Bits, Pair}
use Rattle.bit_domain.specs.Bits.{IsSubset}
use Rattle.bit_domain.specs.Mixes.{Mix, dom_of, IsDomInRange, IsInsideDom, IsInsideMix}
use Rattle.mix_store.specs.declared.seat.MixSeat.{MixSeat}
use Rattle.mix_store.specs.Words.{bound_at, words_of, place_of, read_of}
use Rattle.mix_store.specs.Domains.{IsBits, IsPair, IsBitsAt, IsPairAt, set_in, low_in, high_in}
use Rattle.mix_store.specs.Rule.{Fits, Keeps, noted}
use Rattle.mix_store.proofs.DistanceLaws.{bound_range}
use Rattle.mix_store.proofs.MixLaws.{bits_inside, pair_inside}
use Rattle.mix_store.proofs.Seating.{SetStep, set_step, LowStep, low_step, HighStep, high_step, lawful_set}
use Rattle.mix_store.proofs.Moves.{some_with}
use Rattle.mix_store.proofs.Joining.{some_all}

pub elem_index : (l : List ℕ) (k x : ℕ) → get_elem? l k ≡ some x → slice_index l k ≡ x
elem_index [] k x e = absurd (some-ne-none x (sym e))
elem_index (y ∷ l) zero x e = some-injective y x e
elem_index (y ∷ l) (suc k) x e = elem_index l k x e

-- what a seat knows of the words at the end
pub record AtEnd (words : List ℕ) (s : MixSeat) : Type 0 where
  pub length_is : length words ≡ length (words_of s.seen)
  pub each : (k : ℕ) → k < length words → Fits s.place.me.0 k (slice_index words k)

pub at_end : (words xs : List ℕ) (s : MixSeat) → Final (Seen Keeps s.place.id s.place.me.0) words xs → AtEnd words s
at_end words xs s final =
    let sees = final.1.0.each s.place.id s.place.me.0 final.1.1 s.stands.live in
    subst (λ (ws : List ℕ). AtEnd ws s) final.2 record { length_is = sees.length_is ∙ ap length s.stands.seen_is; each = sees.fits }

bits_or_pair : (d : Dom) → IsBits d ⊎ IsPair d
bits_or_pair (Bits base s) = inl tt
bits_or_pair (Pair low high) = inr tt

not_both : (d : Dom) → IsBits d → IsPair d → ⊥
not_both (Bits base s) b p = p
not_both (Pair low high) b p = b

read_inside : (d : Dom) (w x : ℕ) → (IsBits d → IsSubset w (set_in d)) → (IsPair d → (low_in d ≤ℤ bound_at w) × (bound_at x ≤ℤ high_in d)) → IsInsideDom (read_of d w x) d
read_inside (Bits base s) w x b p = (refl, b tt)
read_inside (Pair low high) w x b p = p tt

read_floor : (e d : Dom) (w x : ℕ) → IsInsideDom e d → (IsBits d → IsSubset (set_in e) w) → (IsPair d → (bound_at w ≤ℤ low_in e) × (high_in e ≤ℤ bound_at x)) → IsInsideDom e (read_of d w x)
read_floor (Bits base s) (Bits other t) w x i b p = (i.0, b tt)
read_floor (Bits base s) (Pair low high) w x i b p = absurd i
read_floor (Pair low high) (Bits base s) w x i b p = absurd i
read_floor (Pair low high) (Pair least greatest) w x i b p = p tt

read_lawful : (d : Dom) (w x : ℕ) → IsDomInRange d → (IsBits d → IsSubset w (set_in d)) → (IsPair d → IsBound (bound_at w) × IsBound (bound_at x)) → IsDomInRange (read_of d w x)
read_lawful (Bits base s) w x l b p = lawful_set (Bits base s) w l tt (b tt)
read_lawful (Pair low high) w x l b p = p tt

-- the words of variable v, and those of a seat
module _ (words : List ℕ) (s : MixSeat) (end : AtEnd words s) (v : ℕ) where
  abbrev k : ℕ
  k = place_of s.seen v

  abbrev w : ℕ
  w = slice_index words k

  abbrev x : ℕ
  x = slice_index words (k + 1)

  set_end : IsBitsAt s.seen v → SetStep s.place.table_id (noted s.place.me.0 k w, s.place.me.1) s.seen v w
  set_end h = set_step s.place.table_id s.place.table_id s.place.me (noted s.place.me.0 k w, s.place.me.1) s.seen v k w refl refl s.stands refl h record { view = refl; fits = end.each k (let e = end.length_is in let i = bits_inside s.seen v h in omega arith) }

  low_end : IsPairAt s.seen v → LowStep s.place.table_id (noted s.place.me.0 k w, s.place.me.1) s.seen v w
  low_end h = low_step s.place.table_id s.place.table_id s.place.me (noted s.place.me.0 k w, s.place.me.1) s.seen v k w refl refl s.stands refl h record { view = refl; fits = end.each k (let e = end.length_is in let i = pair_inside s.seen v h in omega arith) }

  high_end : IsPairAt s.seen v → HighStep s.place.table_id (noted s.place.me.0 (k + 1) x, s.place.me.1) s.seen v x
  high_end h = high_step s.place.table_id s.place.table_id s.place.me (noted s.place.me.0 (k + 1) x, s.place.me.1) s.seen v (k + 1) x refl refl s.stands (omega arith) h record { view = refl; fits = end.each (k + 1) (let e = end.length_is in let i = pair_inside s.seen v h in omega arith) }

  pub bits_there : v < length s.seen → IsBits (dom_of s.seen v) → place_of s.seen v < length words
  bits_there h b = let e = end.length_is in let i = bits_inside s.seen v (h, b) in omega arith

  pub pair_there : v < length s.seen → IsPair (dom_of s.seen v) → (place_of s.seen v + 1 < length words) × (slice_index words (place_of s.seen v) ≤ 2 * bound_limit) × (slice_index words (place_of s.seen v + 1) ≤ 2 * bound_limit)
  pair_there h b = (let e = end.length_is in let i = pair_inside s.seen v (h, b) in omega arith, (low_end (h, b)).word, (high_end (h, b)).word)

  pub last_inside : v < length s.seen → IsInsideDom (read_of (dom_of s.seen v) (slice_index words (place_of s.seen v)) (slice_index words (place_of s.seen v + 1))) (dom_of s.seen v)
  last_inside h = read_inside (dom_of s.seen v) w x (λ b. (set_end (h, b)).subset) (λ p. ((low_end (h, p)).not_behind, (high_end (h, p)).not_behind))

  pub last_lawful : v < length s.seen → IsDomInRange (read_of (dom_of s.seen v) (slice_index words (place_of s.seen v)) (slice_index words (place_of s.seen v + 1)))
  last_lawful h = read_lawful (dom_of s.seen v) w x (s.stands.lawful.doms v h) (λ b. (set_end (h, b)).subset) (λ p. (bound_range w (low_end (h, p)).word, bound_range x (high_end (h, p)).word))

  pub last_floor : v < length s.seen → IfSome s.place.me.0.floor (λ f. IsInsideDom (dom_of f v) (read_of (dom_of s.seen v) (slice_index words (place_of s.seen v)) (slice_index words (place_of s.seen v + 1))))
  last_floor h = ⊎_elim
      (λ (b : IsBits (dom_of s.seen v)). some_with s.place.me.0.floor s.stands.floor (set_end (h, b)).floor
      (λ f i q. read_floor (dom_of f v) (dom_of s.seen v) w x (i.doms v h) (λ _. q) (λ p. absurd (not_both (dom_of s.seen v) b p))))
      (λ (p : IsPair (dom_of s.seen v)). some_with s.place.me.0.floor s.stands.floor
      (some_with s.place.me.0.floor (low_end (h, p)).floor (high_end (h, p)).floor (λ f q r. (q, r)))
      (λ f i q. read_floor (dom_of f v) (dom_of s.seen v) w x (i.doms v h) (λ b. absurd (not_both (dom_of s.seen v) b p)) (λ _. q)))
      (bits_or_pair (dom_of s.seen v))

-- the mix of the words at the end
pub record IsLast (words : List ℕ) (m into : Mix) (n : ℕ) : Type 0 where
  pub length_is : length into ≡ length m
  pub doms : (v : ℕ) → v < n → dom_of into v ≡ read_of (dom_of m v) (slice_index words (place_of m v)) (slice_index words (place_of m v + 1))

pub closed_inside : (words : List ℕ) (s : MixSeat) (into : Mix) → AtEnd words s → IsLast words s.seen into (length s.seen) → IsInsideMix into s.seen
closed_inside words s into end last = record {
  same_length = last.length_is;
  doms = λ v h. subst (λ (d : Dom). IsInsideDom d (dom_of s.seen v)) (sym (last.doms v h)) (last_inside words s end v h);
}

pub closed_floor : (words : List ℕ) (s : MixSeat) (into : Mix) → AtEnd words s → IsLast words s.seen into (length s.seen) → IfSome s.place.me.0.floor (λ f. IsInsideMix f into)
closed_floor words s into end last =
    some_with s.place.me.0.floor s.stands.floor (some_all (λ v. v < length s.seen) (λ v f. IsInsideDom (dom_of f v) (dom_of into v)) s.place.me.0.floor (λ v h. subst (λ (d : Dom). IfSome s.place.me.0.floor (λ f. IsInsideDom (dom_of f v) d)) (sym (last.doms v h)) (last_floor words s end v h)))
    (λ f i p. record { same_length = i.same_length ∙ sym last.length_is; doms = λ v h. p v (let e = last.length_is in omega arith) })

pub last_next : (words : List ℕ) (m into next : Mix) (v : ℕ) (d : Dom) → IsLast words m into v → v < length into → next ≡ slice_set into v d → d ≡ read_of (dom_of m v) (slice_index words (place_of m v)) (slice_index words (place_of m v + 1)) → IsLast words m next (v + 1)
last_next words m into next v d last h e is = record {
  length_is = ap length e ∙ length-set into v d ∙ last.length_is;
  doms = λ u less. dite (ℕ_discrete u v)
      (λ (same : u ≡ v). ap (λ (x : Mix). dom_of x u) e ∙ get_or-set_at into v u d (Pair (pos 0) (pos 0)) same h ∙ is ∙ ap (λ (j : ℕ). read_of (dom_of m j) (slice_index words (place_of m j)) (slice_index words (place_of m j + 1))) (sym same))
      (λ (ne : u ≢ v). ap (λ (x : Mix). dom_of x u) e ∙ get_or-set_other into v u d (Pair (pos 0) (pos 0)) ne ∙ last.doms u (omega arith));
}

pub last_all : (words : List ℕ) (m into : Mix) (n : ℕ) → IsLast words m into n → length m ≤ n → IsLast words m into (length m)
last_all words m into n last h = record { length_is = last.length_is; doms = λ v less. last.doms v (omega arith) }
