-- Both factors and their product fit 64 bits.
use Rattle.seen_tells.proofs.NaturalLaws.{coded_product}
use Rattle.seen_tells.proofs.product.product.Goals as goal

pub returns : goal.returns
returns c = coded_product c.args.first c.args.second c.requires.first c.requires.second
