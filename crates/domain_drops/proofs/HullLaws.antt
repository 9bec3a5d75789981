-- Domains and mixes beside their hulls.
use Rattle.std.proofs.Common.{◌≡◌, ℕ, zero, suc, ◌≤◌, List, [], ◌∷◌, length, slice_index_or, ℤ, pos, ◌≤ℤ◌, refl, sym, ap, subst, arith}
use Rattle.std.specs.Prelude.{slice_index}
use Rattle.std.proofs.lemmas.Int.{ints}
use Rattle.std.proofs.lemmas.List.{length-map}
use Rattle.interval.specs.Limits.{IsBound, box_limit}
use Rattle.interval.specs.Boxes.{low_of, high_of, IsInRange}
use Rattle.guarded_tell.specs.Words.{AreVariables, IsProperIn, IsInsideIn}
use Rattle.bit_domain.specs.declared.dom.Dom.{Dom}
use Rattle.bit_domain.specs.Mixes.{Mix, dom_of, hull, hull_of, Has, IsDomInRange, IsInsideDom, IsMixInRange}
use Rattle.domain_drops.specs.Drops.{IsInsideMixIn}

-- the laws of domains
pub record Domains : Type 0 where
  pub within : (d : Dom) (z : ℤ) → IsDomInRange d → Has d z → ((hull_of d).0 ≤ℤ z) × (z ≤ℤ (hull_of d).1)
  pub ends : (d : Dom) → IsDomInRange d → (hull_of d).0 ≤ℤ (hull_of d).1 → Has d (hull_of d).0 × Has d (hull_of d).1
  pub bounds : (d : Dom) → IsDomInRange d → IsBound (hull_of d).0 × IsBound (hull_of d).1
  pub numbers : (inner outer : Dom) (z : ℤ) → IsInsideDom inner outer → Has inner z → Has outer z
  pub in_range : (inner outer : Dom) → IsDomInRange outer → IsInsideDom inner outer → (hull_of inner).0 ≤ℤ (hull_of inner).1 → IsDomInRange inner

-- ---- a mix and its hull, by variable

pub hull_at : (m : Mix) (v : ℕ) → slice_index_or (hull m) v (pos 0, pos 0) ≡ hull_of (dom_of m v)
hull_at [] v = refl
hull_at (d ∷ m) zero = refl
hull_at (d ∷ m) (suc v) = hull_at m v

pub low_at : (m : Mix) (v : ℕ) → low_of (hull m) v ≡ (hull_of (dom_of m v)).0
low_at m v = ap (λ (p : ℤ × ℤ). p.0) (hull_at m v)

pub high_at : (m : Mix) (v : ℕ) → high_of (hull m) v ≡ (hull_of (dom_of m v)).1
high_at m v = ap (λ (p : ℤ × ℤ). p.1) (hull_at m v)

pub length-hull : (m : Mix) → length (hull m) ≡ length m
length-hull m = length-map m hull_of

pub proper_at : (m : Mix) (v : ℕ) → low_of (hull m) v ≤ℤ high_of (hull m) v → (hull_of (dom_of m v)).0 ≤ℤ (hull_of (dom_of m v)).1
proper_at m v h = let e = low_at m v in let f = high_at m v in omega (arith, ints)

pub at_proper : (m : Mix) (v : ℕ) → (hull_of (dom_of m v)).0 ≤ℤ (hull_of (dom_of m v)).1 → low_of (hull m) v ≤ℤ high_of (hull m) v
at_proper m v h = let e = low_at m v in let f = high_at m v in omega (arith, ints)

module _ (o : Domains) where
  pub dom_hull_inside : (inner outer : Dom) → IsDomInRange outer → IsInsideDom inner outer → (hull_of inner).0 ≤ℤ (hull_of inner).1
      → ((hull_of outer).0 ≤ℤ (hull_of inner).0) × ((hull_of inner).1 ≤ℤ (hull_of outer).1)
  dom_hull_inside inner outer range inside proper =
      let ends = o.ends inner (o.in_range inner outer range inside proper) proper in (
        (o.within outer (hull_of inner).0 range (o.numbers inner outer (hull_of inner).0 inside ends.0)).0,
        (o.within outer (hull_of inner).1 range (o.numbers inner outer (hull_of inner).1 inside ends.1)).1,
      )

  pub hull_in_range : (m : Mix) → IsMixInRange m → IsInRange (hull m)
  hull_in_range m range = record {
    short = subst (λ (n : ℕ). n ≤ box_limit) (sym (length-hull m)) range.short;
    lows = λ v h. subst IsBound (sym (low_at m v)) (o.bounds (dom_of m v) (range.doms v (let e = length-hull m in omega arith))).0;
    highs = λ v h. subst IsBound (sym (high_at m v)) (o.bounds (dom_of m v) (range.doms v (let e = length-hull m in omega arith))).1;
  }

  pub inside_at : (inner outer : Mix) (v : ℕ) → IsDomInRange (dom_of outer v) → low_of (hull inner) v ≤ℤ high_of (hull inner) v → IsInsideDom (dom_of inner v) (dom_of outer v)
      → (low_of (hull outer) v ≤ℤ low_of (hull inner) v) × (high_of (hull inner) v ≤ℤ high_of (hull outer) v)
  inside_at inner outer v range proper inside =
      let both = dom_hull_inside (dom_of inner v) (dom_of outer v) range inside (proper_at inner v proper) in
      let low = both.0 in
      let high = both.1 in
      let e = low_at inner v in
      let f = high_at inner v in
      let p = low_at outer v in
      let q = high_at outer v in
      (omega (arith, ints), omega (arith, ints))

  pub hull_inside : (vars : List ℕ) (inner outer : Mix) → AreVariables (length outer) vars → IsMixInRange outer → IsProperIn vars (hull inner) → IsInsideMixIn vars inner outer → IsInsideIn vars (hull inner) (hull outer)
  hull_inside vars inner outer variables range proper inside = record {
    lows = λ i h. (inside_at inner outer (slice_index vars i) (range.doms (slice_index vars i) (variables.each i h)) (proper i h) (inside.doms i h)).0;
    highs = λ i h. (inside_at inner outer (slice_index vars i) (range.doms (slice_index vars i) (variables.each i h)) (proper i h) (inside.doms i h)).1;
  }
