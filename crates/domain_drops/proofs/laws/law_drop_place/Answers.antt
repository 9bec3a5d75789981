-- A removal is of one of the kernel's variables, and drops numbers that this one has.
use Rattle.std.proofs.Common.{◌≡◌, ◌<◌, ℕ, ℤ, ◌≤ℤ◌, length, slice_index_or, subst, ◌∙◌, arith}
use Rattle.std.specs.Prelude.{slice_index}
use Rattle.std.proofs.lemmas.Int.{ints}
use Rattle.std.proofs.lemmas.List.{get_or_default}
use Rattle.std.specs.List.{Contains}
use Rattle.interval.specs.Limits.{IsBound, bound_limit}
use Rattle.guarded_tell.specs.Kernels.{vars_of}
use Rattle.bit_domain.specs.Mixes.{dom_of, hull, Has, IsBits}
use Rattle.domain_drops.specs.Hearing.{Drop}
use Rattle.domain_drops.specs.Removals.{removals}
use Rattle.domain_drops.specs.Drops.{drops}
use Rattle.domain_drops.proofs.NamedLaws.{named}
use Rattle.domain_drops.proofs.Removing.{dropped_all, drops_all}
use Rattle.domain_drops.proofs.laws.law_drop_place.Goals as goal

bound_within : (low z high : ℤ) → IsBound low → IsBound high → low ≤ℤ z → z ≤ℤ high → IsBound z
unfolding bound_limit
bound_within low z high f g h k = omega (arith, ints)

pub returns : goal.returns
unfolding drops
returns c = λ k m kernel range.
    let vars = vars_of k in
    let rs = removals k (hull m) in
    let P : Drop → Type 0 = λ d. Contains vars d.0 × (d.0 < length m) × IsBits (dom_of m d.0) × Has (dom_of m d.0) d.1 × IsBound d.1 in
    drops_all P m rs (λ i d l.
    let r = slice_index_or rs i d in
    let (j, less, at) = named k (hull m) kernel.numbers i d l in
    let place : slice_index vars j ≡ r.var = get_or_default vars j 0 r.var less ∙ at in
    let small : r.var < length m = subst (λ (v : ℕ). v < length m) place (kernel.variables.each j less) in
    let own = range.doms r.var small in
    dropped_all P m r (λ z held passed.
    let has = (c.law_values.ensures (dom_of m r.var) z own).0 held in
    let within = c.law_hull.ensures.within (dom_of m r.var) z own has.1 in
    let bounds = c.law_hull.ensures.in_range (dom_of m r.var) own in
    ((j, less, at), small, has.0, has.1, bound_within _ z _ bounds.0 bounds.1 within.0 within.1)))
