-- The hull of a mix of points is a point, and the one number of each variable is the value there.
use Rattle.std.proofs.Common.{◌≡◌, ◌<◌, ℕ, ℤ, ◌≤ℤ◌, false, [], length, slice_index_or, sym, subst, ◌∙◌, arith}
use Rattle.std.specs.Prelude.{slice_index}
use Rattle.std.proofs.lemmas.Int.{ints}
use Rattle.std.proofs.lemmas.List.{get_or_default}
use Rattle.interval.specs.Boxes.{low_of, IsPoint}
use Rattle.guarded_tell.specs.declared.kernel.Kernel.{Kernel}
use Rattle.guarded_tell.specs.Words.{AreVariables, point_of}
use Rattle.guarded_tell.specs.Kernels.{vars_of, Holds, IsKernel}
use Rattle.bit_domain.specs.Mixes.{Mix, dom_of, hull, IsMixInRange}
use Rattle.domain_drops.specs.Removals.{removals}
use Rattle.domain_drops.specs.Drops.{drops}
use Rattle.domain_drops.proofs.HullLaws.{Domains, hull_in_range, length-hull, low_at, high_at}
use Rattle.domain_drops.proofs.NamedLaws.{named}
use Rattle.domain_drops.proofs.PointLaws.{point_fails}
use Rattle.domain_drops.proofs.Removing.{Listed, nothing_dropped, nothing_dropped_of}
use Rattle.domain_drops.proofs.laws.law_drop_point.Goals as goal

the_low : (low z high : ℤ) → low ≤ℤ z → z ≤ℤ high → low ≡ high → z ≡ low
the_low low z high p q e = omega (arith, ints)

whole : Domains → Listed → (k : Kernel) (m : Mix) → IsKernel (length m) k → IsMixInRange m → IsPoint (hull m) → Holds k (point_of (hull m)) → drops k m ≡ []
unfolding drops
whole o listed k m kernel range point holds =
    let vars = vars_of k in
    let b = hull m in
    let variables : AreVariables (length b) vars = record { each = λ i h. subst (λ (n : ℕ). slice_index vars i < n) (sym (length-hull m)) (kernel.variables.each i h) } in
    nothing_dropped_of m (removals k b) (λ i d l.
    let r = slice_index_or (removals k b) i d in
    let fails = point_fails b point k kernel.numbers variables holds i d l in
    let (j, less, at) = named k b kernel.numbers i d l in
    let place = get_or_default vars j 0 r.var less ∙ at in
    let small : r.var < length m = subst (λ (v : ℕ). v < length m) place (kernel.variables.each j less) in
    let own = range.doms r.var small in
    nothing_dropped m r (λ z held.
    let within = o.within (dom_of m r.var) z own ((listed (dom_of m r.var) z own).0 held).1 in
    let one = point r.var (subst (λ (n : ℕ). r.var < n) (sym (length-hull m)) small) in
    let value : z ≡ low_of b r.var = the_low _ z _ within.0 within.1 (sym (low_at m r.var) ∙ one ∙ high_at m r.var) ∙ sym (low_at m r.var) in
    subst (λ (w : ℤ). r.test w ≡ false) (sym value) fails))

pub returns : goal.returns
returns c = λ k m kernel range point numbers.
    let o : Domains = record { within = c.law_hull.ensures.within; ends = c.law_hull.ensures.ends; bounds = c.law_hull.ensures.in_range; numbers = c.law_inside.ensures.numbers; in_range = c.law_inside.ensures.in_range } in
    let as_kernel : IsKernel (length (hull m)) k = subst (λ (n : ℕ). IsKernel n k) (sym (length-hull m)) kernel in
    let law = c.law_point.ensures k (hull m) as_kernel (hull_in_range o m range) point (λ v h. numbers v (subst (λ (n : ℕ). v < n) (length-hull m) h)) in (
      λ closed. law.0 closed.bounds,
      λ holds. record { bounds = law.1 holds; whole = whole o c.law_values.ensures k m kernel range point holds },
    )
