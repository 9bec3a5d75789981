-- Mixes of points.
use Rattle.std.proofs.Common.{◌≡◌, ℕ, zero, suc, ◌<◌, ◌≤◌, List, [], ◌∷◌, length, slice_index_or, ℤ, pos, ◌≤ℤ◌, refl, arith}
use Rattle.std.specs.Prelude.{◌↔◌}
use Rattle.std.proofs.lemmas.List.{length-map}
use Rattle.interval.specs.Limits.{box_limit}
use Rattle.interval.specs.Boxes.{Bounds, IsInRange, IsInside}
use Rattle.bit_domain.specs.declared.dom.Dom.{Dom}
use Rattle.bit_domain.specs.Mixes.{Has, IsDomInRange, IsInsideDom, dom_between, Mix, dom_of, hull, mix_of, IsMixInRange, IsInsideMix}
use Rattle.decompose.specs.Program.{fixed_box}
use Rattle.domain_laws.proofs.Between.{between_in_range}
use Rattle.domain_laws.proofs.PointDoms.{point_dom, IsPointIn, PointsAreInside}

-- the domains of the same kinds that have these numbers alone
unfoldable pub point_mix : Mix → List ℤ → Mix
point_mix [] zs = []
point_mix (d ∷ m) [] = []
point_mix (d ∷ m) (z ∷ zs) = point_dom d z ∷ point_mix m zs

-- p is a mix that has these numbers alone, which lie in the box
pub record ArePoints (b : Bounds) (zs : List ℤ) (p : Mix) : Type 0 where
  pub inside : IsInsideMix p (mix_of b)
  pub hull : hull p ≡ fixed_box zs
  pub in_range : IsMixInRange p
  pub has : (v : ℕ) → v < length zs → Has (dom_of p v) (slice_index_or zs v (pos 0))

abbrev pub BoxesHavePoints : Type 0
BoxesHavePoints = (b : Bounds) (zs : List ℤ) → IsInRange b → IsInside (fixed_box zs) b → ArePoints b zs (point_mix (mix_of b) zs)

-- a box and a list without their first entries
box_rest : (p : ℤ × ℤ) (b : Bounds) → IsInRange (p ∷ b) → IsInRange b
box_rest p b r = record {
  short = (let s = r.short in omega arith);
  lows = λ v h. r.lows (suc v) (omega arith);
  highs = λ v h. r.highs (suc v) (omega arith);
}

inside_rest : (p : ℤ × ℤ) (b : Bounds) (z : ℤ) (zs : List ℤ) → IsInside (fixed_box (z ∷ zs)) (p ∷ b) → IsInside (fixed_box zs) b
inside_rest p b z zs h = record {
  same_length = (let s = h.same_length in omega arith);
  lows = λ v l. h.lows (suc v) (omega arith);
  highs = λ v l. h.highs (suc v) (omega arith);
}

module _
    (points : PointsAreInside)
    (numbers : (low high z : ℤ) → Has (dom_between low high) z ↔ ((low ≤ℤ z) × (z ≤ℤ high)))
  where
    first : (p : ℤ × ℤ) (b : Bounds) (z : ℤ) (zs : List ℤ) → IsInRange (p ∷ b) → IsInside (fixed_box (z ∷ zs)) (p ∷ b) → IsPointIn (dom_between p.0 p.1) z
    first p b z zs r h =
        points (dom_between p.0 p.1) z
        (between_in_range p.0 p.1 (r.lows 0 (omega arith)) (r.highs 0 (omega arith)))
        ((numbers p.0 p.1 z).1 (h.lows 0 (omega arith), h.highs 0 (omega arith)))

    pub box_points : BoxesHavePoints
    unfolding point_mix
    box_points [] [] r h = record {
      inside = record { same_length = refl; doms = λ v l. absurd (omega arith) };
      hull = refl;
      in_range = record { short = (let s = r.short in omega arith); doms = λ v l. absurd (omega arith) };
      has = λ v l. absurd (omega arith);
    }
    box_points [] (z ∷ zs) r h = absurd (let s = h.same_length in omega arith)
    box_points (p ∷ b) [] r h = absurd (let s = h.same_length in omega arith)
    box_points (p ∷ b) (z ∷ zs) r h =
        let one = first p b z zs r h in
        let others = box_points b zs (box_rest p b r) (inside_rest p b z zs h) in
        let d = point_dom (dom_between p.0 p.1) z in
        let m = point_mix (mix_of b) zs in
        let same_length = length-map b (λ p. dom_between p.0 p.1) in
        let also = others.inside.same_length in
        let short = r.short in
        record {
          inside = inside d m (dom_between p.0 p.1) (mix_of b) one.inside others.inside;
          hull = (λ i. one.hull i ∷ others.hull i);
          in_range = in_range d m (omega arith) one.in_range others.in_range;
          has = has d m z zs one.has others.has;
        }
      where
        inside : (d : Dom) (m : Mix) (e : Dom) (n : Mix) → IsInsideDom d e → IsInsideMix m n → IsInsideMix (d ∷ m) (e ∷ n)
        inside d m e n h k = record { same_length = (let l = k.same_length in omega arith); doms = doms }
          where
            doms : (v : ℕ) → v < length (e ∷ n) → IsInsideDom (dom_of (d ∷ m) v) (dom_of (e ∷ n) v)
            doms zero l = h
            doms (suc v) l = k.doms v (omega arith)

        in_range : (d : Dom) (m : Mix) → length (d ∷ m) ≤ box_limit → IsDomInRange d → IsMixInRange m → IsMixInRange (d ∷ m)
        in_range d m short h k = record { short = short; doms = doms }
          where
            doms : (v : ℕ) → v < length (d ∷ m) → IsDomInRange (dom_of (d ∷ m) v)
            doms zero l = h
            doms (suc v) l = k.doms v (omega arith)

        has : (d : Dom) (m : Mix) (z : ℤ) (zs : List ℤ) → Has d z
            → ((v : ℕ) → v < length zs → Has (dom_of m v) (slice_index_or zs v (pos 0)))
            → (v : ℕ) → v < length (z ∷ zs) → Has (dom_of (d ∷ m) v) (slice_index_or (z ∷ zs) v (pos 0))
        has d m z zs h k zero l = h
        has d m z zs h k (suc v) l = k v (omega arith)
