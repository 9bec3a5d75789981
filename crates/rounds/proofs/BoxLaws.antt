-- Boxes with one changed pair, and boxes that lie inside each other.
use Rattle.std.proofs.Common.{◌≡◌, ◌≢◌, ℕ, zero, suc, ℤ, pos, [], ◌∷◌, ◌<◌, ◌≤ℤ◌, length, refl, sym, ap, subst, ◌∙◌, arith, ◌⊎◌, inl, inr}
use Rattle.std.proofs.Math.ListN.{length-set}
use Rattle.std.proofs.lemmas.List.{get_or-set_same, get_or-set_other, set-get_or}
use Rattle.std.proofs.lemmas.Grind.{get_or-set_at}
use Rattle.std.proofs.lemmas.Bool.{cases_eq}
use Rattle.std.specs.Int.{int_max, int_min}
use Rattle.std.proofs.lemmas.Int.{ints, int_max_is, int_min_is}
use Rattle.lattice_store.specs.Seats.{tighter_of}
use Rattle.interval.specs.Boxes.{Bounds, low_of, high_of, put_of, IsInside}

pub get_put : (b : Bounds) (v : ℕ) (low high : ℤ) (w : ℕ) → v < length b →
    ((w ≡ v) × (low_of (put_of b v low high) w ≡ low) × (high_of (put_of b v low high) w ≡ high)) ⊎
    ((low_of (put_of b v low high) w ≡ low_of b w) × (high_of (put_of b v low high) w ≡ high_of b w))
get_put b v low high w h = elim (cases_eq w v) [
  | inl e ↦ inl (e, ap (λ (p : ℤ × ℤ). p.0) (get_or-set_at b v w (low, high) (pos 0, pos 0) e h), ap (λ (p : ℤ × ℤ). p.1) (get_or-set_at b v w (low, high) (pos 0, pos 0) e h))
  | inr ne ↦ inr (ap (λ (p : ℤ × ℤ). p.0) (get_or-set_other b v w (low, high) (pos 0, pos 0) ne), ap (λ (p : ℤ × ℤ). p.1) (get_or-set_other b v w (low, high) (pos 0, pos 0) ne))
]

pub length_put : (b : Bounds) (v : ℕ) (low high : ℤ) → length (put_of b v low high) ≡ length b
length_put b v low high = length-set b v (low, high)

pub low_put : (b : Bounds) (v : ℕ) (low high : ℤ) → v < length b → low_of (put_of b v low high) v ≡ low
low_put b v low high h = ap (λ (p : ℤ × ℤ). p.0) (get_or-set_same b v (low, high) (pos 0, pos 0) h)

pub high_put : (b : Bounds) (v : ℕ) (low high : ℤ) → v < length b → high_of (put_of b v low high) v ≡ high
high_put b v low high h = ap (λ (p : ℤ × ℤ). p.1) (get_or-set_same b v (low, high) (pos 0, pos 0) h)

-- another pair
pub low_other : (b : Bounds) (v : ℕ) (low high : ℤ) (w : ℕ) → w ≢ v → low_of (put_of b v low high) w ≡ low_of b w
low_other b v low high w ne = ap (λ (p : ℤ × ℤ). p.0) (get_or-set_other b v w (low, high) (pos 0, pos 0) ne)

pub high_other : (b : Bounds) (v : ℕ) (low high : ℤ) (w : ℕ) → w ≢ v → high_of (put_of b v low high) w ≡ high_of b w
high_other b v low high w ne = ap (λ (p : ℤ × ℤ). p.1) (get_or-set_other b v w (low, high) (pos 0, pos 0) ne)

-- a pair that is set twice
put_again : (b : Bounds) (v : ℕ) (l h x y : ℤ) → put_of (put_of b v l h) v x y ≡ put_of b v x y
put_again [] v l h x y = refl
put_again (p ∷ b) zero l h x y = refl
put_again (p ∷ b) (suc v) l h x y = ap (λ (c : Bounds). p ∷ c) (put_again b v l h x y)

-- a box whose pair is set to what it is
pub put_same : (b : Bounds) (v : ℕ) (low high : ℤ) → low ≡ low_of b v → high ≡ high_of b v → put_of b v low high ≡ b
put_same b v low high l h = ap (λ z. put_of b v z high) l ∙ ap (λ z. put_of b v (low_of b v) z) h ∙ set-get_or b v (pos 0, pos 0)

pub inside_itself : (b : Bounds) → IsInside b b
inside_itself b = record { same_length = refl; lows = λ v h. omega (arith, ints); highs = λ v h. omega (arith, ints) }

pub inside_through : (a b c : Bounds) → IsInside a b → IsInside b c → IsInside a c
inside_through a b c i j = record {
  same_length = i.same_length ∙ j.same_length;
  lows = λ v h. let k = i.lows v (omega (arith, j.same_length)) in omega (arith, ints, j.lows v h);
  highs = λ v h. let k = i.highs v (omega (arith, j.same_length)) in omega (arith, ints, j.highs v h);
}

pub inside_same : (a b : Bounds) → a ≡ b → IsInside a b
inside_same a b e = subst (λ (x : Bounds). IsInside a x) e (inside_itself a)

-- a tighter pair
pub put_inside : (b : Bounds) (v : ℕ) (low high : ℤ) → v < length b → low_of b v ≤ℤ low → high ≤ℤ high_of b v → IsInside (put_of b v low high) b
put_inside b v low high vh l u = record {
  same_length = length_put b v low high;
  lows = λ w h. elim (get_put b v low high w vh) [
    | inl x ↦ omega (arith, ints, x.1, ap (low_of b) x.0, l)
    | inr x ↦ omega (arith, ints, x.0)
  ];
  highs = λ w h. elim (get_put b v low high w vh) [
    | inl x ↦ omega (arith, ints, x.2, ap (high_of b) x.0, u)
    | inr x ↦ omega (arith, ints, x.1)
  ];
}

below : (p q : ℤ × ℤ) (a b : Bounds) → IsInside (p ∷ a) (q ∷ b) → IsInside a b
below p q a b i = record {
  same_length = omega (arith, i.same_length);
  lows = λ v h. i.lows (suc v) (omega arith);
  highs = λ v h. i.highs (suc v) (omega arith);
}

-- boxes that lie inside each other are one
pub inside_both : (a b : Bounds) → IsInside a b → IsInside b a → a ≡ b
inside_both [] [] i j = refl
inside_both [] (q ∷ b) i j = absurd (omega (arith, i.same_length))
inside_both (p ∷ a) [] i j = absurd (omega (arith, i.same_length))
inside_both ((x, y) ∷ a) ((z, w) ∷ b) i j =
    let low : x ≡ z = omega (arith, ints, i.lows 0 (omega arith), j.lows 0 (omega arith)) in
    let high : y ≡ w = omega (arith, ints, i.highs 0 (omega arith), j.highs 0 (omega arith)) in
    ap (λ l. (l, y) ∷ a) low ∙ ap (λ h. (z, h) ∷ a) high ∙ ap (λ c. (z, w) ∷ c) (inside_both a b (below (x, y) (z, w) a b i) (below (z, w) (x, y) b a j))

-- a changed upper bound leaves the lower one
pub low_kept : (b a : Bounds) (v : ℕ) (x : ℤ) → v < length b → a ≡ put_of b v (low_of b v) x → low_of a v ≡ low_of b v
low_kept b a v x h e = ap (λ (c : Bounds). low_of c v) e ∙ low_put b v (low_of b v) x h

pub put_is : (b : Bounds) (v : ℕ) (l h x y : ℤ) → l ≡ x → h ≡ y → put_of b v l h ≡ put_of b v x y
put_is b v l h x y e f = ap (λ z. put_of b v z h) e ∙ ap (λ z. put_of b v x z) f

-- both bounds of a variable were set, one after the other
pub looked : (a b c : Bounds) (v : ℕ) (l h : ℤ) → v < length a → b ≡ put_of a v l (high_of a v) → c ≡ put_of b v (low_of b v) h →
    c ≡ put_of a v (low_of c v) (high_of c v)
looked a b c v l h k e f =
    let both : c ≡ put_of a v (low_of b v) h = f ∙ ap (λ (x : Bounds). put_of x v (low_of b v) h) e ∙ put_again a v l (high_of a v) (low_of b v) h in
    both ∙ put_is a v (low_of b v) h (low_of c v) (high_of c v)
    (sym (ap (λ (x : Bounds). low_of x v) both ∙ low_put a v (low_of b v) h k))
    (sym (ap (λ (x : Bounds). high_of x v) both ∙ high_put a v (low_of b v) h k))

inside_cons : (p q : ℤ × ℤ) (a b : Bounds) → q.0 ≤ℤ p.0 → p.1 ≤ℤ q.1 → IsInside a b → IsInside (p ∷ a) (q ∷ b)
inside_cons p q a b l h i = record { same_length = ap suc i.same_length; lows = lows; highs = highs }
  where
    lows : (v : ℕ) → v < length (q ∷ b) → low_of (q ∷ b) v ≤ℤ low_of (p ∷ a) v
    lows zero k = l
    lows (suc v) k = i.lows v (omega arith)

    highs : (v : ℕ) → v < length (q ∷ b) → high_of (p ∷ a) v ≤ℤ high_of (q ∷ b) v
    highs zero k = h
    highs (suc v) k = i.highs v (omega arith)

tighter_holds : (b : Bounds) → IsInside b (tighter_of b b)
tighter_holds [] = inside_itself []
tighter_holds (p ∷ b) = inside_cons p (int_max p.0 p.0, int_min p.1 p.1) b (tighter_of b b) (omega (arith, ints, int_max_is p.0 p.0)) (omega (arith, ints, int_min_is p.1 p.1)) (tighter_holds b)

-- the tighter bounds of two boxes lie inside both
pub tighter_left : (b c : Bounds) → IsInside (tighter_of b c) b
tighter_left [] c = inside_itself []
tighter_left (p ∷ b) [] = inside_itself (p ∷ b)
tighter_left (p ∷ b) (q ∷ c) = inside_cons (int_max p.0 q.0, int_min p.1 q.1) p (tighter_of b c) b (omega (arith, ints, int_max_is p.0 q.0)) (omega (arith, ints, int_min_is p.1 q.1)) (tighter_left b c)

pub tighter_right : (b c : Bounds) → length c ≡ length b → IsInside (tighter_of b c) c
tighter_right [] [] e = inside_itself []
tighter_right [] (q ∷ c) e = absurd (omega arith)
tighter_right (p ∷ b) [] e = absurd (omega arith)
tighter_right (p ∷ b) (q ∷ c) e = inside_cons (int_max p.0 q.0, int_min p.1 q.1) q (tighter_of b c) c (omega (arith, ints, int_max_is p.0 q.0)) (omega (arith, ints, int_min_is p.1 q.1)) (tighter_right b c (omega arith))

pub tighter_same : (b : Bounds) → tighter_of b b ≡ b
tighter_same b = inside_both (tighter_of b b) b (tighter_left b b) (tighter_holds b)

-- boxes with the same bounds of each variable are one
pub same_bounds : (a b : Bounds) → length a ≡ length b → ((v : ℕ) → v < length b → (low_of a v ≡ low_of b v) × (high_of a v ≡ high_of b v)) → a ≡ b
same_bounds a b e s = inside_both a b
    (record { same_length = e; lows = λ v h. omega (arith, ints, (s v h).0); highs = λ v h. omega (arith, ints, (s v h).1) })
    (record { same_length = sym e; lows = λ v h. let k : v < length b = omega arith in omega (arith, ints, (s v k).0); highs = λ v h. let k : v < length b = omega arith in omega (arith, ints, (s v k).1) })
