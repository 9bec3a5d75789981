-- Mixes with one changed domain, and mixes that lie inside each other.
use Rattle.std.proofs.Common.{◌≡◌, ◌≢◌, ℕ, zero, suc, ℤ, pos, [], ◌∷◌, ◌<◌, ◌+ℤ◌, length, get_or, set, refl, sym, ap, subst, ◌∙◌, arith, inl, inr}
use Rattle.std.specs.Int.{int_max, int_min}
use Rattle.std.specs.Int.Bits.{and_self}
use Rattle.std.proofs.Math.ListN.{length-set}
use Rattle.std.proofs.lemmas.List.{get_or-set_same, get_or-set_other, get_or-map, get_or_past, length-map, set-get_or}
use Rattle.std.proofs.lemmas.Nat.Bits.{bit_at-lt, same_from_bits}
use Rattle.std.proofs.lemmas.Bool.{cases_lt}
use Rattle.std.proofs.lemmas.Int.{ints, int_max_is, int_min_is}
use Rattle.interval.specs.Boxes.{Bounds, low_of, high_of, put_of}
use Rattle.bit_domain.specs.declared.dom.Dom.{Dom}
use Rattle.bit_domain.specs.declared.dom.Dom.TheVariants.{Bits, Pair}
use Rattle.bit_domain.specs.Mixes.{Mix, dom_of, hull, hull_of, Has, IsInsideDom, IsInsideMix}
use Rattle.mix_store.specs.Domains.{low_in, high_in, with_low, with_high, low_put, high_put, both_of, tighter_of}

-- ---- domains

pub dom_itself : (d : Dom) → IsInsideDom d d
dom_itself (Bits base set) = (refl, λ i. omega arith)
dom_itself (Pair low high) = (omega (arith, ints), omega (arith, ints))

pub dom_through : (a b c : Dom) → IsInsideDom a b → IsInsideDom b c → IsInsideDom a c
dom_through (Bits x s) (Bits y t) (Bits z u) (e, p) (f, q) = (e ∙ f, λ i. omega (arith, p i, q i))
dom_through (Pair x s) (Pair y t) (Pair z u) (e, p) (f, q) = (omega (arith, ints), omega (arith, ints))
dom_through (Bits x s) (Pair y t) c h k = absurd h
dom_through (Pair x s) (Bits y t) c h k = absurd h
dom_through (Bits x s) (Bits y t) (Pair z u) h k = absurd k
dom_through (Pair x s) (Pair y t) (Bits z u) h k = absurd k

pub dom_both : (a b : Dom) → IsInsideDom a b → IsInsideDom b a → a ≡ b
dom_both (Bits x s) (Bits y t) (e, p) (f, q) = ap (λ z. Bits z s) e ∙ ap (Bits y) (same_from_bits s t (λ i. omega (arith, p i, q i)))
dom_both (Pair x s) (Pair y t) (e, p) (f, q) =
    let low : x ≡ y = omega (arith, ints) in
    let high : s ≡ t = omega (arith, ints) in
    ap (λ z. Pair z s) low ∙ ap (Pair y) high
dom_both (Bits x s) (Pair y t) h k = absurd h
dom_both (Pair x s) (Bits y t) h k = absurd h

-- the outer domain has the numbers of the inner one
pub has_inside : (a b : Dom) (z : ℤ) → IsInsideDom a b → Has a z → Has b z
has_inside (Bits x s) (Bits y t) z (e, p) (i, one, at) = (i, (let l = bit_at-lt t i in omega (arith, p i)), at ∙ ap (λ n. n +ℤ pos i) e)
has_inside (Pair x s) (Pair y t) z (e, p) (l, h) = (omega (arith, ints), omega (arith, ints))
has_inside (Bits x s) (Pair y t) z h k = absurd h
has_inside (Pair x s) (Bits y t) z h k = absurd h

-- ---- mixes

pub inside_itself : (m : Mix) → IsInsideMix m m
inside_itself m = record { same_length = refl; doms = λ v h. dom_itself (dom_of m v) }

pub inside_through : (a b c : Mix) → IsInsideMix a b → IsInsideMix b c → IsInsideMix a c
inside_through a b c i j = record {
  same_length = i.same_length ∙ j.same_length;
  doms = λ v h. dom_through (dom_of a v) (dom_of b v) (dom_of c v) (i.doms v (omega (arith, j.same_length))) (j.doms v h);
}

pub inside_same : (a b : Mix) → a ≡ b → IsInsideMix a b
inside_same a b e = subst (λ (x : Mix). IsInsideMix a x) e (inside_itself a)

-- also where there is no such variable
pub dom_any : (outer inner : Mix) → IsInsideMix inner outer → (v : ℕ) → IsInsideDom (dom_of inner v) (dom_of outer v)
dom_any outer inner i v = elim (cases_lt v (length outer)) [
  | inl h ↦ i.doms v h
  | inr h ↦ subst (λ (d : Dom). IsInsideDom d (dom_of outer v)) (sym (get_or_past inner v (Pair (pos 0) (pos 0)) (omega (arith, i.same_length))))
      (subst (λ (d : Dom). IsInsideDom (Pair (pos 0) (pos 0)) d) (sym (get_or_past outer v (Pair (pos 0) (pos 0)) h)) (dom_itself (Pair (pos 0) (pos 0))))
]

below : (p q : Dom) (a b : Mix) → IsInsideMix (p ∷ a) (q ∷ b) → IsInsideMix a b
below p q a b i = record { same_length = omega (arith, i.same_length); doms = λ v h. i.doms (suc v) (omega arith) }

-- mixes that lie inside each other are one
pub inside_both : (a b : Mix) → IsInsideMix a b → IsInsideMix b a → a ≡ b
inside_both [] [] i j = refl
inside_both [] (q ∷ b) i j = absurd (omega (arith, i.same_length))
inside_both (p ∷ a) [] i j = absurd (omega (arith, i.same_length))
inside_both (p ∷ a) (q ∷ b) i j =
    ap (λ d. d ∷ a) (dom_both p q (i.doms 0 (omega arith)) (j.doms 0 (omega arith))) ∙ ap (λ c. q ∷ c) (inside_both a b (below p q a b i) (below q p b a j))

pub length_put : (m : Mix) (v : ℕ) (d : Dom) → length (set m v d) ≡ length m
length_put m v d = length-set m v d

pub dom_put : (m : Mix) (v : ℕ) (d : Dom) → v < length m → dom_of (set m v d) v ≡ d
dom_put m v d h = get_or-set_same m v d (Pair (pos 0) (pos 0)) h

pub dom_other : (m : Mix) (v : ℕ) (d : Dom) (w : ℕ) → w ≢ v → dom_of (set m v d) w ≡ dom_of m w
dom_other m v d w ne = get_or-set_other m v w d (Pair (pos 0) (pos 0)) ne

pub put_same : (m : Mix) (v : ℕ) (d : Dom) → d ≡ dom_of m v → set m v d ≡ m
put_same m v d e = ap (set m v) e ∙ set-get_or m v (Pair (pos 0) (pos 0))

-- a domain that is set twice
pub put_again : (m : Mix) (v : ℕ) (d e : Dom) → set (set m v d) v e ≡ set m v e
put_again [] v d e = refl
put_again (p ∷ m) zero d e = refl
put_again (p ∷ m) (suc v) d e = ap (λ (c : Mix). p ∷ c) (put_again m v d e)

-- a lower bound that is set to what it is
with_low_same : (d : Dom) (low : ℤ) → low ≡ low_in d → with_low d low ≡ d
with_low_same (Bits base set) low e = refl
with_low_same (Pair x y) low e = ap (λ z. Pair z y) e

pub low_put_same : (m n : Mix) (v : ℕ) (low : ℤ) → n ≡ low_put m v low → low ≡ low_in (dom_of m v) → n ≡ m
low_put_same m n v low e same = e ∙ put_same m v (with_low (dom_of m v) low) (with_low_same (dom_of m v) low same)

with_high_same : (d : Dom) (high : ℤ) → high ≡ high_in d → with_high d high ≡ d
with_high_same (Bits base set) high e = refl
with_high_same (Pair x y) high e = ap (Pair x) e

pub high_put_same : (m n : Mix) (v : ℕ) (high : ℤ) → n ≡ high_put m v high → high ≡ high_in (dom_of m v) → n ≡ m
high_put_same m n v high e same = e ∙ put_same m v (with_high (dom_of m v) high) (with_high_same (dom_of m v) high same)

-- mixes with the same domain of each variable are one
pub same_doms : (a b : Mix) → length a ≡ length b → ((v : ℕ) → v < length b → dom_of a v ≡ dom_of b v) → a ≡ b
same_doms a b e s = inside_both a b
    (record { same_length = e; doms = λ v h. subst (λ (d : Dom). IsInsideDom d (dom_of b v)) (sym (s v h)) (dom_itself (dom_of b v)) })
    (record { same_length = sym e; doms = λ v h. subst (λ (d : Dom). IsInsideDom (dom_of b v) d) (sym (s v (omega arith))) (dom_itself (dom_of b v)) })

-- a pair that is set to one or to the same one
pub put_is : (b : Bounds) (v : ℕ) (l h x y : ℤ) → l ≡ x → h ≡ y → put_of b v l h ≡ put_of b v x y
put_is b v l h x y e f = ap (λ z. put_of b v z h) e ∙ ap (λ z. put_of b v x z) f

-- the hull of a variable
pub hull_at : (m : Mix) (v : ℕ) → v < length m → get_or (hull m) v (pos 0, pos 0) ≡ hull_of (dom_of m v)
hull_at m v h = get_or-map hull_of m v (Pair (pos 0) (pos 0)) (pos 0, pos 0) h

pub low_at : (m : Mix) (v : ℕ) → v < length m → low_of (hull m) v ≡ (hull_of (dom_of m v)).0
low_at m v h = ap (λ (p : ℤ × ℤ). p.0) (hull_at m v h)

pub high_at : (m : Mix) (v : ℕ) → v < length m → high_of (hull m) v ≡ (hull_of (dom_of m v)).1
high_at m v h = ap (λ (p : ℤ × ℤ). p.1) (hull_at m v h)

-- the hull of a variable whose domain was set to that of another mix
pub hull_put : (m seen : Mix) (v : ℕ) (d : Dom) → v < length m → v < length seen → d ≡ dom_of seen v → get_or (hull (set m v d)) v (pos 0, pos 0) ≡ get_or (hull seen) v (pos 0, pos 0)
hull_put m seen v d h k e = hull_at (set m v d) v (omega (arith, length_put m v d)) ∙ ap hull_of (dom_put m v d h ∙ e) ∙ sym (hull_at seen v k)

pub length_hull : (m : Mix) → length (hull m) ≡ length m
length_hull m = length-map m hull_of

-- what two mixes that are one leave
pub both_same : (d : Dom) → both_of d d ≡ d
both_same (Bits base set) = ap (Bits base) (and_self set)
both_same (Pair low high) =
    let l : int_max low low ≡ low = omega (arith, ints, int_max_is low low) in
    let h : int_min high high ≡ high = omega (arith, ints, int_min_is high high) in
    ap (λ z. Pair z (int_min high high)) l ∙ ap (Pair low) h

pub tighter_same : (m : Mix) → tighter_of m m ≡ m
tighter_same [] = refl
tighter_same (d ∷ m) = ap (λ (e : Dom). e ∷ tighter_of m m) (both_same d) ∙ ap (λ (c : Mix). d ∷ c) (tighter_same m)
