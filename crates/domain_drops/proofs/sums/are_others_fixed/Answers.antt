-- The two differences are exact.
use Rattle.std.proofs.Common.{◌∙◌}
use Rattle.sum_tells.specs.Equality.{is_same}
use Rattle.domain_drops.proofs.ProductLaws.{coded_difference}
use Rattle.domain_drops.proofs.sums.are_others_fixed.Goals as goal

pub returns : goal.returns
returns c =
    let least = coded_difference c.args.sum.least c.args.own.least c.requires.least_sum c.requires.least_term in
    let greatest = coded_difference c.args.sum.greatest c.args.own.greatest c.requires.greatest_sum c.requires.greatest_term in
    c.is_same.ensures ∙ (λ i. is_same (least i) (greatest i))
