-- The product's, and then each factor's.
use Rattle.seen_tells.proofs.NaturalLaws.{swapped, few_of_all}
use Rattle.seen_tells.proofs.product.few_tells.Goals as goal

pub with_factor-requires-clause-natural : goal.with_factor-requires-clause-natural
with_factor-requires-clause-natural c = swapped c.args.b.now c.args.x c.args.y c.args.z c.requires.natural

pub returns : goal.returns
returns c = few_of_all c.args.b.now c.args.x c.args.y c.args.z _ (c.with_factor.ensures _ (c.with_factor-seen.ensures _ c.few_products-seen.ensures))
