-- What a kernel removes on the outer hull it removes on the inner, where nothing is left to remove.
use Rattle.guarded_tell.specs.Kernels.{vars_of}
use Rattle.bit_domain.specs.Mixes.{hull}
use Rattle.domain_drops.specs.Removals.{removals}
use Rattle.domain_drops.specs.Drops.{drops}
use Rattle.domain_drops.proofs.HullLaws.{Domains, hull_inside}
use Rattle.domain_drops.proofs.FollowLaws.{follow}
use Rattle.domain_drops.proofs.NamedLaws.{named}
use Rattle.domain_drops.proofs.Removing.{kept_by_all}
use Rattle.domain_drops.proofs.laws.law_drop.Goals as goal

pub returns : goal.returns
unfolding drops
returns c = λ k outer inner kernel range closed inside.
    let o : Domains = record { within = c.law_hull.ensures.within; ends = c.law_hull.ensures.ends; bounds = c.law_hull.ensures.in_range; numbers = c.law_inside.ensures.numbers; in_range = c.law_inside.ensures.in_range } in
    let proper = closed.bounds.proper in
    kept_by_all o c.law_values.ensures (vars_of k) outer inner kernel.variables range proper inside
    (removals k (hull outer)) (removals k (hull inner))
    (follow (hull outer) (hull inner) k kernel.numbers proper (hull_inside o (vars_of k) inner outer kernel.variables range proper inside))
    (named k (hull outer) kernel.numbers) closed.whole
