-- The two sums are exact.
use Rattle.std.proofs.Common.{FitsSigned, rules}
use Rattle.std.proofs.lemmas.Int.{to_z-of_z}
use mir.Syntax.{w64}
use Rattle.small_sums.proofs.SlightLaws.{coded_sum, least_fits, greatest_fits}
use Rattle.small_sums.proofs.slight.sums_of.Goals as goal

pub returns : goal.returns
returns c =
    let base : FitsSigned w64 c.args.reach.base = search rules in
    let down : FitsSigned w64 c.args.reach.down = search rules in
    let up : FitsSigned w64 c.args.reach.up = search rules in
    let widest : FitsSigned w64 c.args.reach.widest = search rules in
    (λ i. record {
      least = coded_sum c.args.reach.base c.args.reach.down base down (least_fits c.args.reach c.requires) i;
      greatest = coded_sum c.args.reach.base c.args.reach.up base up (greatest_fits c.args.reach c.requires) i;
      widest = to_z-of_z w64 c.args.reach.widest widest i;
    })
