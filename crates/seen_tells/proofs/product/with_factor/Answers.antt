-- One after the other.
use Rattle.seen_tells.proofs.NaturalLaws.{few_with_factor}
use Rattle.seen_tells.proofs.product.with_factor.Goals as goal

pub returns : goal.returns
returns c ts few =
    few_with_factor c.args.b.now c.args.x c.args.y c.args.z c.requires.natural ts _ (c.with_most.ensures _ (c.with_least-seen.ensures ts few))
