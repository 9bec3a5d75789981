-- The weight of a mix falls where it loses a number.
use Rattle.std.proofs.Common.{◌≡◌, ◌≢◌, ℕ, ◌+◌, ◌-◌, ◌*◌, ◌^◌, ◌<◌, ◌≤◌, List, [], ◌∷◌, length, map, ℤ, pos, ◌+ℤ◌, ◌-ℤ◌, ◌≤ℤ◌, unsigned_abs, refl, arith}
use Rattle.std.proofs.lemmas.Int.{ints}
use Rattle.std.proofs.Math.Nat.{mul-le-mul_right}
use mathlib.Core.Logic.{dite}
use native.Mathlib.Decide.{ℕ_discrete}
use Rattle.interval.specs.Limits.{IsBound, bound_limit, box_limit, largest_number}
use Rattle.interval.specs.Boxes.{IsProper}
use Rattle.bit_domain.specs.Bits.{members, IsSubset}
use Rattle.bit_domain.specs.declared.dom.Dom.{Dom}
use Rattle.bit_domain.specs.declared.dom.Dom.TheVariants.{Bits, Pair}
use Rattle.bit_domain.specs.Mixes.{Mix, hull, hull_of, ends_of, IsDomInRange, IsInsideDom, IsMixInRange, IsInsideMix}
use Rattle.domain_drops.specs.Closed.{weight_of_dom, weight_of}
use Rattle.domain_drops.proofs.MixOrder.{inside_rest, range_rest, proper_rest}

-- the laws of the members of sets, and that what is inside a domain in range is in range
pub record Sizes : Type 0 where
  pub bounded : (set : ℕ) → length (members set) ≤ 64
  pub fewer : (inner outer : ℕ) → IsSubset inner outer → length (members inner) ≤ length (members outer)
  pub same : (inner outer : ℕ) → inner < 2 ^ 64 → outer < 2 ^ 64 → IsSubset inner outer → length (members inner) ≡ length (members outer) → inner ≡ outer
  pub in_range : (inner outer : Dom) → IsDomInRange outer → IsInsideDom inner outer → (hull_of inner).0 ≤ℤ (hull_of inner).1 → IsDomInRange inner

some_member : (base : ℤ) (xs : List ℕ) → (ends_of (map (λ i. base +ℤ pos i) xs)).0 ≤ℤ (ends_of (map (λ i. base +ℤ pos i) xs)).1 → 0 < length xs
unfolding ends_of
some_member base [] proper = absurd (omega (arith, ints))
some_member base (x ∷ xs) proper = omega arith

narrower : (a b c d : ℤ) → a ≤ℤ b → c ≤ℤ a → b ≤ℤ d → unsigned_abs (b -ℤ a) ≤ unsigned_abs (d -ℤ c)
narrower a b c d p q r = omega (arith, ints)

same_width : (a b c d : ℤ) → a ≤ℤ b → c ≤ℤ a → b ≤ℤ d → unsigned_abs (b -ℤ a) ≡ unsigned_abs (d -ℤ c) → (a ≡ c) × (b ≡ d)
same_width a b c d p q r e = (omega (arith, ints), omega (arith, ints))

wide : (a b : ℤ) → IsBound a → IsBound b → unsigned_abs (b -ℤ a) ≤ bound_limit + bound_limit
wide a b h k = omega (arith, ints)

small_size : (n : ℕ) → n ≤ 64 → n - 1 ≤ bound_limit + bound_limit
unfolding bound_limit largest_number
small_size n h = omega arith

module _ (o : Sizes) where
  dom_not_heavier : (d e : Dom) → (hull_of d).0 ≤ℤ (hull_of d).1 → IsInsideDom d e → weight_of_dom d ≤ weight_of_dom e
  dom_not_heavier (Bits p s) (Bits q t) proper inside = let le = o.fewer s t inside.1 in omega arith
  dom_not_heavier (Bits p s) (Pair c d) proper inside = absurd inside
  dom_not_heavier (Pair a b) (Bits q t) proper inside = absurd inside
  dom_not_heavier (Pair a b) (Pair c d) proper inside = narrower a b c d proper inside.0 inside.1

  dom_same : (d e : Dom) → (hull_of d).0 ≤ℤ (hull_of d).1 → IsDomInRange e → IsInsideDom d e → weight_of_dom d ≡ weight_of_dom e → d ≡ e
  dom_same (Bits p s) (Bits q t) proper range inside same =
      let some = some_member p (members s) proper in
      let le = o.fewer s t inside.1 in
      let near = o.in_range (Bits p s) (Bits q t) range inside proper in
      let equal : s ≡ t = o.same s t near.1 range.1 inside.1 (omega arith) in
      (λ i. Bits (inside.0 i) (equal i))
  dom_same (Bits p s) (Pair c d) proper range inside same = absurd inside
  dom_same (Pair a b) (Bits q t) proper range inside same = absurd inside
  dom_same (Pair a b) (Pair c d) proper range inside same = let (e, f) = same_width a b c d proper inside.0 inside.1 same in (λ i. Pair (e i) (f i))

  pub not_heavier : (inner outer : Mix) → IsProper (hull inner) → IsInsideMix inner outer → weight_of inner ≤ weight_of outer
  unfolding weight_of
  not_heavier [] [] proper inside = omega arith
  not_heavier [] (e ∷ n) proper inside = absurd (let l = inside.same_length in omega arith)
  not_heavier (d ∷ m) [] proper inside = absurd (let l = inside.same_length in omega arith)
  not_heavier (d ∷ m) (e ∷ n) proper inside =
      let first = dom_not_heavier d e (proper 0 (omega arith)) (inside.doms 0 (omega arith)) in
      let rest = not_heavier m n (proper_rest d m proper) (inside_rest d e m n inside) in
      omega arith

  same_weight : (inner outer : Mix) → IsProper (hull inner) → IsMixInRange outer → IsInsideMix inner outer → weight_of inner ≡ weight_of outer → inner ≡ outer
  unfolding weight_of
  same_weight [] [] proper range inside same = refl
  same_weight [] (e ∷ n) proper range inside same = absurd (let l = inside.same_length in omega arith)
  same_weight (d ∷ m) [] proper range inside same = absurd (let l = inside.same_length in omega arith)
  same_weight (d ∷ m) (e ∷ n) proper range inside same =
      let le = dom_not_heavier d e (proper 0 (omega arith)) (inside.doms 0 (omega arith)) in
      let more = not_heavier m n (proper_rest d m proper) (inside_rest d e m n inside) in
      let first = dom_same d e (proper 0 (omega arith)) (range.doms 0 (omega arith)) (inside.doms 0 (omega arith)) (omega arith) in
      let rest = same_weight m n (proper_rest d m proper) (range_rest e n range) (inside_rest d e m n inside) (omega arith) in
      (λ i. first i ∷ rest i)

  pub lighter : (inner outer : Mix) → IsProper (hull inner) → IsMixInRange outer → IsInsideMix inner outer → inner ≢ outer → weight_of inner < weight_of outer
  lighter inner outer proper range inside other =
      let le = not_heavier inner outer proper inside in
      dite (ℕ_discrete (weight_of inner) (weight_of outer))
      (λ (e : weight_of inner ≡ weight_of outer). absurd (other (same_weight inner outer proper range inside e)))
      (λ (ne : weight_of inner ≢ weight_of outer). omega arith)

  dom_bounded : (d : Dom) → IsDomInRange d → weight_of_dom d ≤ bound_limit + bound_limit
  dom_bounded (Bits base set) range = small_size (length (members set)) (o.bounded set)
  dom_bounded (Pair low high) range = wide low high range.0 range.1

  bounded_by : (m : Mix) → IsMixInRange m → weight_of m ≤ length m * (bound_limit + bound_limit)
  unfolding weight_of
  bounded_by [] range = omega arith
  bounded_by (d ∷ m) range =
      let first = dom_bounded d (range.doms 0 (omega arith)) in
      let rest = bounded_by m (range_rest d m range) in
      omega arith

  pub weight_bounded : (m : Mix) → IsMixInRange m → weight_of m ≤ box_limit * (bound_limit + bound_limit)
  weight_bounded m range =
      let own = bounded_by m range in
      let all = mul-le-mul_right (bound_limit + bound_limit) range.short in
      omega arith
