-- The floor of one less than a divisor more.
use Rattle.std.proofs.Common.{FitsSigned, ◌∙◌, arith, rules}
use Rattle.std.proofs.lemmas.Int.{ints}
use mir.Syntax.{w64}
use Rattle.interval.specs.Limits.{bound_limit, largest_number}
use Rattle.seen_tells.specs.Natural.{factor_limit}
use Rattle.seen_tells.proofs.NaturalLaws.{read, ceiling_by_floor}
use Rattle.seen_tells.proofs.product.ceiling.Goals as goal

pub returns : goal.returns
unfolding factor_limit bound_limit largest_number
returns c =
    let fits : FitsSigned w64 c.floor.result = search rules in
    let divisor_fits : FitsSigned w64 c.args.divisor = search rules in
    let short = c.requires.short in
    let divisor = c.requires.divisor in
    read c.floor.result fits
    ∙ ceiling_by_floor c.law_quotient_order.ensures c.args.dividend c.args.divisor _ _ c.floor.result c.requires.divisor c.floor.ensures (read c.args.divisor divisor_fits) (omega (arith, ints))
