-- The base alone moves.
use Rattle.std.proofs.Common.{FitsSigned, rules}
use Rattle.std.proofs.lemmas.Int.{to_z-of_z}
use mir.Syntax.{w64}
use Rattle.small_sums.proofs.SlightLaws.{coded_sum, short_fits_sum, moved_one}
use Rattle.small_sums.proofs.slight.reach_with_one.Goals as goal

pub returns : goal.returns
returns c =
    let base : FitsSigned w64 c.args.reach.base = search rules in
    let down : FitsSigned w64 c.args.reach.down = search rules in
    let up : FitsSigned w64 c.args.reach.up = search rules in
    let widest : FitsSigned w64 c.args.reach.widest = search rules in
    moved_one c.args.reach _ c.args.value
    (coded_sum c.args.reach.base c.args.value base c.ranges.value (short_fits_sum _ c.requires.base))
    (to_z-of_z w64 c.args.reach.down down)
    (to_z-of_z w64 c.args.reach.up up)
    (to_z-of_z w64 c.args.reach.widest widest)
    c.requires.above_zero
