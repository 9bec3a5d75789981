-- What is removed depends on the kernel's variables alone.
use Rattle.std.proofs.Common.{◌≡◌, ℕ, suc, ◌+◌, ◌<◌, List, [], ◌∷◌, ◌++◌, length, map, get_or, not, ◌&&◌, ◌||◌, ℤ, pos, ◌-ℤ◌, refl, sym, ap, subst, ◌∙◌, arith}
use Rattle.std.specs.Prelude.{slice_index}
use Rattle.std.proofs.lemmas.List.Elements.{filter_agree}
use Rattle.std.specs.Ordering.{int_eq}
use Rattle.std.specs.Int.RustNames.{int_le}
use Rattle.std.specs.List.{filter, flat_map, zip, list_any, enumerate_from}
use Rattle.tells.specs.declared.tell.Lit.{Lit}
use Rattle.guarded_tell.specs.declared.kernel.Kernel.{Kernel}
use Rattle.guarded_tell.specs.declared.kernel.Kernel.TheVariants.{Le, Eq, Times, Div, Mod, Abs, Max, Min, Clause, Element, InSet, AllDiff, Cumulative}
use Rattle.guarded_tell.specs.Words.{AgreeIn}
use Rattle.sum_tells.specs.Linear.{Term, least_of, greatest_of, sum_over}
use Rattle.sum_tells.specs.Equality.{is_same, is_product}
use Rattle.element_tells.specs.Element.{can_equal}
use Rattle.set_tells.specs.InSet.{has_number}
use Rattle.guarded_tell.specs.Kernels.{vars_of}
use Rattle.bit_domain.specs.declared.dom.Dom.{Dom}
use Rattle.bit_domain.specs.Mixes.{Mix, dom_of, hull, hull_of, values_of}
use Rattle.domain_drops.specs.Removals.{Removal, makes_limit, term_removal, equation_removals, is_against_set, set_removal, is_place_apart, place_removal, removals}
use Rattle.domain_drops.specs.Drops.{dropped, drops, AgreeMixIn}
use Rattle.domain_drops.proofs.HullLaws.{low_at, high_at}
use Rattle.domain_drops.proofs.SumLaws.{zip_at, least_same, greatest_same, least_sums_same, greatest_sums_same, sure_same, out_same}

agree_hulls : (vars : List ℕ) (m n : Mix) → AgreeMixIn vars m n → AgreeIn vars (hull m) (hull n)
agree_hulls vars m n agree = record {
  lows = λ i h. let x = slice_index vars i in low_at m x ∙ ap (λ (d : Dom). (hull_of d).0) (agree.doms i h) ∙ sym (low_at n x);
  highs = λ i h. let x = slice_index vars i in high_at m x ∙ ap (λ (d : Dom). (hull_of d).1) (agree.doms i h) ∙ sym (high_at n x);
}

-- the same numbers are dropped
dropped_same : (m n : Mix) (r s : Removal) → r.var ≡ s.var → ((z : ℤ) → r.test z ≡ s.test z) → dom_of m r.var ≡ dom_of n r.var → dropped m r ≡ dropped n s
dropped_same m n r s same tests dom =
    let one : dropped m r ≡ map (λ z. (r.var, z)) (filter r.test (values_of (dom_of n r.var))) = ap (λ (d : Dom). map (λ z. (r.var, z)) (filter r.test (values_of d))) dom in
    let two : map (λ z. (r.var, z)) (filter r.test (values_of (dom_of n r.var))) ≡ map (λ z. (r.var, z)) (filter s.test (values_of (dom_of n r.var))) = ap (map (λ z. (r.var, z))) (filter_agree r.test s.test tests (values_of (dom_of n r.var))) in
    let three : map (λ z. (r.var, z)) (filter s.test (values_of (dom_of n r.var))) ≡ dropped n s = ap (λ (v : ℕ). map (λ z. (v, z)) (filter s.test (values_of (dom_of n v)))) same in
    one ∙ two ∙ three

flat_same : (m n : Mix) (f g : Term → Removal) (ts : List Term) → ((i : ℕ) → i < length ts → dropped m (f (get_or ts i (pos 0, 0))) ≡ dropped n (g (get_or ts i (pos 0, 0)))) → flat_map (dropped m) (map f ts) ≡ flat_map (dropped n) (map g ts)
flat_same m n f g [] h = refl
flat_same m n f g (t ∷ ts) h =
    let first = h 0 (omega arith) in
    let rest = flat_same m n f g ts (λ i l. h (suc i) (omega arith)) in
    (λ i. first i ++ rest i)

one_same : (m n : Mix) (r s : Removal) → dropped m r ≡ dropped n s → flat_map (dropped m) (r ∷ []) ≡ flat_map (dropped n) (s ∷ [])
one_same m n r s e = (λ i. e i ++ [])

module _ (m n : Mix) where
  equation_local : (l : Lit) (coeffs : List ℤ) (vars : List ℕ) (limit : ℤ) → AgreeMixIn (l.var ∷ vars) m n
      → flat_map (dropped m) (equation_removals l (zip coeffs vars) limit (hull m)) ≡ flat_map (dropped n) (equation_removals l (zip coeffs vars) limit (hull n))
  unfolding makes_limit
  equation_local l coeffs vars limit agree =
      let b = hull m in
      let c = hull n in
      let ts = zip coeffs vars in
      let hulls = agree_hulls (l.var ∷ vars) m n agree in
      let least = least_sums_same b c l coeffs vars hulls in
      let greatest = greatest_sums_same b c l coeffs vars hulls in
      let out = out_same b c l (hulls.lows 0 (omega arith)) (hulls.highs 0 (omega arith)) in
      let f : Term → Removal = term_removal l limit (sum_over (least_of b) ts) (sum_over (greatest_of b) ts) b in
      let g : Term → Removal = term_removal l limit (sum_over (least_of c) ts) (sum_over (greatest_of c) ts) c in
      flat_same m n f g ts (λ i h.
      let t = get_or ts i (pos 0, 0) in
      let own_least = least_same b c l coeffs vars hulls i h in
      let own_greatest = greatest_same b c l coeffs vars hulls i h in
      let (few, e) = zip_at coeffs vars i h in
      dropped_same m n (f t) (g t) refl
      (λ z. (λ j. out j && (is_same (least j -ℤ own_least j) (greatest j -ℤ own_greatest j) && is_product t.0 z (limit -ℤ (least j -ℤ own_least j)))))
      (subst (λ (x : ℕ). dom_of m x ≡ dom_of n x) (sym e) (agree.doms (suc i) (omega arith))))

  set_local : (l : Lit) (x : ℕ) (ranges : List (ℤ × ℤ)) → AgreeMixIn (l.var ∷ x ∷ []) m n → dropped m (set_removal l x ranges (hull m)) ≡ dropped n (set_removal l x ranges (hull n))
  unfolding is_against_set
  set_local l x ranges agree =
      let hulls = agree_hulls (l.var ∷ x ∷ []) m n agree in
      let sure = sure_same (hull m) (hull n) l (hulls.lows 0 (omega arith)) (hulls.highs 0 (omega arith)) in
      let out = out_same (hull m) (hull n) l (hulls.lows 0 (omega arith)) (hulls.highs 0 (omega arith)) in
      dropped_same m n (set_removal l x ranges (hull m)) (set_removal l x ranges (hull n)) refl
      (λ z. (λ j. (sure j && not (list_any (has_number z) ranges)) || (out j && list_any (has_number z) ranges)))
      (agree.doms 1 (omega arith))

  apart_same : (c : ℕ) (z : ℤ) (k : ℕ) (ys : List ℕ) → ((i : ℕ) → i < length ys → can_equal (get_or ys i 0) c (hull m) ≡ can_equal (get_or ys i 0) c (hull n))
      → list_any (λ p. int_eq z (pos p.0) && not (can_equal p.1 c (hull m))) (enumerate_from k ys) ≡ list_any (λ p. int_eq z (pos p.0) && not (can_equal p.1 c (hull n))) (enumerate_from k ys)
  apart_same c z k [] h = refl
  apart_same c z k (y ∷ ys) h =
      let first = h 0 (omega arith) in
      let rest = apart_same c z (k + 1) ys (λ i l. h (suc i) (omega arith)) in
      (λ i. (int_eq z (pos k) && not (first i)) || rest i)

  place_local : (x c : ℕ) (entries : List ℕ) → AgreeMixIn (x ∷ c ∷ entries) m n → dropped m (place_removal x entries c (hull m)) ≡ dropped n (place_removal x entries c (hull n))
  unfolding is_place_apart
  place_local x c entries agree =
      let hulls = agree_hulls (x ∷ c ∷ entries) m n agree in
      let low_c = hulls.lows 1 (omega arith) in
      let high_c = hulls.highs 1 (omega arith) in
      dropped_same m n (place_removal x entries c (hull m)) (place_removal x entries c (hull n)) refl
      (λ z. apart_same c z 1 entries (λ i l.
      let low = hulls.lows (suc (suc i)) (omega arith) in
      let high = hulls.highs (suc (suc i)) (omega arith) in
      (λ j. int_le (low j) (high_c j) && int_le (low_c j) (high j))))
      (agree.doms 0 (omega arith))

  pub drops_local : (k : Kernel) → AgreeMixIn (vars_of k) m n → drops k m ≡ drops k n
  unfolding vars_of removals drops
  drops_local (Le l coeffs vars limit) agree = refl
  drops_local (Eq l coeffs vars limit) agree = equation_local l coeffs vars limit agree
  drops_local (Times x y z) agree = refl
  drops_local (Div x y z) agree = refl
  drops_local (Mod x y z) agree = refl
  drops_local (Abs x y) agree = refl
  drops_local (Max a xs) agree = refl
  drops_local (Min a xs) agree = refl
  drops_local (Clause lits) agree = refl
  drops_local (Element x entries c) agree = one_same m n (place_removal x entries c (hull m)) (place_removal x entries c (hull n)) (place_local x c entries agree)
  drops_local (InSet l x ranges) agree = one_same m n (set_removal l x ranges (hull m)) (set_removal l x ranges (hull n)) (set_local l x ranges agree)
  drops_local (AllDiff xs) agree = refl
  drops_local (Cumulative starts durations usages limit) agree = refl
