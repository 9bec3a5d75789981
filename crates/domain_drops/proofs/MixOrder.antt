-- How mixes lie inside each other.
use Rattle.std.proofs.Common.{◌≡◌, ℕ, suc, ◌<◌, ◌≤◌, [], ◌∷◌, length, ℤ, ◌≤ℤ◌, refl, sym, subst, ◌∙◌, arith}
use Rattle.std.proofs.lemmas.Int.{ints}
use Rattle.std.proofs.lemmas.Nat.Bits.{same_from_bits}
use Rattle.interval.specs.Limits.{box_limit}
use Rattle.interval.specs.Boxes.{IsProper}
use Rattle.bit_domain.specs.Bits.{IsSubset}
use Rattle.bit_domain.specs.declared.dom.Dom.{Dom}
use Rattle.bit_domain.specs.declared.dom.Dom.TheVariants.{Bits, Pair}
use Rattle.bit_domain.specs.Mixes.{Mix, dom_of, hull, IsInsideDom, IsMixInRange, IsInsideMix}
use Rattle.domain_drops.specs.Closed.{InsideMixOrder}
use Rattle.domain_drops.proofs.HullLaws.{Domains, length-hull, proper_at, inside_at}

dom_itself : (d : Dom) → IsInsideDom d d
dom_itself (Bits base set) = (refl, λ i. omega arith)
dom_itself (Pair low high) = (omega (arith, ints), omega (arith, ints))

dom_through : (a b c : Dom) → IsInsideDom a b → IsInsideDom b c → IsInsideDom a c
dom_through (Bits p s) (Bits q t) (Bits r u) h k = (h.0 ∙ k.0, λ i. let f = h.1 i in let g = k.1 i in omega arith)
dom_through (Bits p s) (Bits q t) (Pair x y) h k = absurd k
dom_through (Bits p s) (Pair v w) c h k = absurd h
dom_through (Pair l m) (Bits q t) c h k = absurd h
dom_through (Pair l m) (Pair v w) (Bits r u) h k = absurd k
dom_through (Pair l m) (Pair v w) (Pair x y) h k =
    let a = h.0 in
    let b = h.1 in
    let c = k.0 in
    let d = k.1 in
    (omega (arith, ints), omega (arith, ints))

same_sets : (s t : ℕ) → IsSubset s t → IsSubset t s → s ≡ t
same_sets s t h k = same_from_bits s t (λ i. let f = h i in let g = k i in omega arith)

same_bounds : (a b : ℤ) → a ≤ℤ b → b ≤ℤ a → a ≡ b
same_bounds a b h k = omega (arith, ints)

pub dom_equal : (a b : Dom) → IsInsideDom a b → IsInsideDom b a → a ≡ b
dom_equal (Bits p s) (Bits q t) h k = let e = same_sets s t h.1 k.1 in (λ i. Bits (h.0 i) (e i))
dom_equal (Bits p s) (Pair x y) h k = absurd h
dom_equal (Pair l m) (Bits q t) h k = absurd h
dom_equal (Pair l m) (Pair x y) h k = let e = same_bounds l x k.0 h.0 in let f = same_bounds m y h.1 k.1 in (λ i. Pair (e i) (f i))

-- the mixes without their first domains
pub inside_rest : (d e : Dom) (m n : Mix) → IsInsideMix (d ∷ m) (e ∷ n) → IsInsideMix m n
inside_rest d e m n h = record { same_length = (let l = h.same_length in omega arith); doms = λ v less. h.doms (suc v) (omega arith) }

pub range_rest : (d : Dom) (m : Mix) → IsMixInRange (d ∷ m) → IsMixInRange m
range_rest d m h = record { short = (let l = h.short in omega arith); doms = λ v less. h.doms (suc v) (omega arith) }

pub proper_rest : (d : Dom) (m : Mix) → IsProper (hull (d ∷ m)) → IsProper (hull m)
proper_rest d m h v less = h (suc v) (omega arith)

mix_equal : (m n : Mix) → IsInsideMix m n → IsInsideMix n m → m ≡ n
mix_equal [] [] h k = refl
mix_equal [] (e ∷ n) h k = absurd (let l = h.same_length in omega arith)
mix_equal (d ∷ m) [] h k = absurd (let l = h.same_length in omega arith)
mix_equal (d ∷ m) (e ∷ n) h k =
    let first = dom_equal d e (h.doms 0 (omega arith)) (k.doms 0 (omega arith)) in
    let rest = mix_equal m n (inside_rest d e m n h) (inside_rest e d n m k) in
    (λ i. first i ∷ rest i)

pub order_of : Domains → InsideMixOrder
order_of o = record {
  itself = λ m. record { same_length = refl; doms = λ v h. dom_itself (dom_of m v) };
  through = λ inner middle outer h k. record {
    same_length = h.same_length ∙ k.same_length;
    doms = λ v less. dom_through (dom_of inner v) (dom_of middle v) (dom_of outer v) (h.doms v (let e = k.same_length in omega arith)) (k.doms v less);
  };
  equal = mix_equal;
  in_range = λ inner outer proper range inside. record {
    short = subst (λ (n : ℕ). n ≤ box_limit) (sym inside.same_length) range.short;
    doms = λ v h.
        let less : v < length outer = (let e = inside.same_length in omega arith) in
        o.in_range (dom_of inner v) (dom_of outer v) (range.doms v less) (inside.doms v less) (proper_at inner v (proper v (let e = length-hull inner in omega arith)));
  };
  outer_is_proper = λ inner outer proper range inside v h.
      let less : v < length outer = (let e = length-hull outer in omega arith) in
      let own = proper v (let e = length-hull inner in let f = inside.same_length in omega arith) in
      let both = inside_at o inner outer v (range.doms v less) own (inside.doms v less) in
      let low = both.0 in
      let high = both.1 in
      omega (arith, ints);
}
