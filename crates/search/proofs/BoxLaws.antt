-- A box with one pair tightened.
use Rattle.std.proofs.Common.{◌≡◌, ℕ, zero, suc, ℤ, pos, ◌<◌, ◌≤ℤ◌, [], ◌∷◌, length, refl, ap, ◌∙◌, arith}
use Rattle.std.proofs.lemmas.Int.{ints}
use Rattle.std.proofs.lemmas.List.{get_or-set_same}
use Rattle.interval.specs.Boxes.{Bounds, low_of, high_of, put_of, IsInside}

pub low_put : (b : Bounds) (v : ℕ) (low high : ℤ) → v < length b → low_of (put_of b v low high) v ≡ low
low_put b v low high h = ap (λ (p : ℤ × ℤ). p.0) (get_or-set_same b v (low, high) (pos 0, pos 0) h)

pub high_put : (b : Bounds) (v : ℕ) (low high : ℤ) → v < length b → high_of (put_of b v low high) v ≡ high
high_put b v low high h = ap (λ (p : ℤ × ℤ). p.1) (get_or-set_same b v (low, high) (pos 0, pos 0) h)

tail_inside : (p q : ℤ × ℤ) (b c : Bounds) → IsInside (p ∷ b) (q ∷ c) → IsInside b c
tail_inside p q b c i = record {
  same_length = let e = i.same_length in omega arith;
  lows = λ v h. i.lows (suc v) (omega arith);
  highs = λ v h. i.highs (suc v) (omega arith);
}

cons_inside : (p q : ℤ × ℤ) (b c : Bounds) → q.0 ≤ℤ p.0 → p.1 ≤ℤ q.1 → IsInside b c → IsInside (p ∷ b) (q ∷ c)
cons_inside p q b c l h i = record {
  same_length = let e = i.same_length in omega arith;
  lows = lows;
  highs = highs;
}
  where
    lows : (v : ℕ) → v < length (q ∷ c) → low_of (q ∷ c) v ≤ℤ low_of (p ∷ b) v
    lows zero k = l
    lows (suc v) k = i.lows v (omega arith)

    highs : (v : ℕ) → v < length (q ∷ c) → high_of (p ∷ b) v ≤ℤ high_of (q ∷ c) v
    highs zero k = h
    highs (suc v) k = i.highs v (omega arith)

pub itself : (b : Bounds) → IsInside b b
itself b = record { same_length = refl; lows = λ v h. omega (arith, ints); highs = λ v h. omega (arith, ints) }

pub inside_through : (inner middle outer : Bounds) → IsInside inner middle → IsInside middle outer → IsInside inner outer
inside_through inner middle outer i k = record {
  same_length = i.same_length ∙ k.same_length;
  lows = λ v h. let l = k.lows v h in let m = i.lows v (let e = k.same_length in omega (arith, e, h)) in omega (arith, ints, l, m);
  highs = λ v h. let l = k.highs v h in let m = i.highs v (let e = k.same_length in omega (arith, e, h)) in omega (arith, ints, l, m);
}

-- tightened at one pair, it lies inside
pub put_inside : (b : Bounds) (v : ℕ) (low high : ℤ) → low_of b v ≤ℤ low → high ≤ℤ high_of b v → IsInside (put_of b v low high) b
put_inside [] v low high l h = itself []
put_inside (p ∷ b) zero low high l h = cons_inside (low, high) p b b l h (itself b)
put_inside (p ∷ b) (suc v) low high l h =
    cons_inside p p (put_of b v low high) b (omega (arith, ints)) (omega (arith, ints)) (put_inside b v low high l h)

-- it holds each box inside whose own pair is as tight
pub put_holds : (b c : Bounds) (v : ℕ) (low high : ℤ) → IsInside c b → low ≤ℤ low_of c v → high_of c v ≤ℤ high → IsInside c (put_of b v low high)
put_holds [] c v low high i l h = i
put_holds (p ∷ b) [] v low high i l h = absurd (let e = i.same_length in omega arith)
put_holds (p ∷ b) (q ∷ c) zero low high i l h = cons_inside q (low, high) c b l h (tail_inside q p c b i)
put_holds (p ∷ b) (q ∷ c) (suc v) low high i l h =
    cons_inside q p c (put_of b v low high) (i.lows 0 (omega arith)) (i.highs 0 (omega arith)) (put_holds b c v low high (tail_inside q p c b i) l h)
