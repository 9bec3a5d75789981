-- Each of the four quotients is exact, and so are the least and the greatest of them.
use Rattle.std.proofs.Common.{FitsSigned, rules}
use mir.Syntax.{w64}
use Rattle.interval.specs.Quotients.{floor_of, ceiling_of}
use Rattle.interval.specs.Corners.{least_ceiling, greatest_floor}
use Rattle.interval.proofs.CornerLaws.{same_least, same_greatest, same_pair}
use Rattle.interval.proofs.corners.corner_quotients.Goals as goal

pub returns-clause-least : goal.returns-clause-least
unfolding least_ceiling
returns-clause-least c =
    let z_low : FitsSigned w64 c.args.z.0 = search rules in
    let z_high : FitsSigned w64 c.args.z.1 = search rules in
    let y_low : FitsSigned w64 c.args.y.0 = search rules in
    let y_high : FitsSigned w64 c.args.y.1 = search rules in
    same_least c.least_of_four.result c.quotient-at_lows.result.ceiling c.quotient-at_low_high.result.ceiling c.quotient-at_high_low.result.ceiling c.quotient-at_highs.result.ceiling _ _ _ _ (search rules) (search rules) (search rules) (search rules) (search rules)
    (same_pair ceiling_of c.quotient-at_lows.result.ceiling c.args.z.0 c.args.y.0 z_low y_low c.quotient-at_lows.ensures.ceiling)
    (same_pair ceiling_of c.quotient-at_low_high.result.ceiling c.args.z.0 c.args.y.1 z_low y_high c.quotient-at_low_high.ensures.ceiling)
    (same_pair ceiling_of c.quotient-at_high_low.result.ceiling c.args.z.1 c.args.y.0 z_high y_low c.quotient-at_high_low.ensures.ceiling)
    (same_pair ceiling_of c.quotient-at_highs.result.ceiling c.args.z.1 c.args.y.1 z_high y_high c.quotient-at_highs.ensures.ceiling)
    c.least_of_four.ensures

pub returns-clause-greatest : goal.returns-clause-greatest
unfolding greatest_floor
returns-clause-greatest c =
    let z_low : FitsSigned w64 c.args.z.0 = search rules in
    let z_high : FitsSigned w64 c.args.z.1 = search rules in
    let y_low : FitsSigned w64 c.args.y.0 = search rules in
    let y_high : FitsSigned w64 c.args.y.1 = search rules in
    same_greatest c.greatest_of_four.result c.quotient-at_lows.result.floor c.quotient-at_low_high.result.floor c.quotient-at_high_low.result.floor c.quotient-at_highs.result.floor _ _ _ _ (search rules) (search rules) (search rules) (search rules) (search rules)
    (same_pair floor_of c.quotient-at_lows.result.floor c.args.z.0 c.args.y.0 z_low y_low c.quotient-at_lows.ensures.floor)
    (same_pair floor_of c.quotient-at_low_high.result.floor c.args.z.0 c.args.y.1 z_low y_high c.quotient-at_low_high.ensures.floor)
    (same_pair floor_of c.quotient-at_high_low.result.floor c.args.z.1 c.args.y.0 z_high y_low c.quotient-at_high_low.ensures.floor)
    (same_pair floor_of c.quotient-at_highs.result.floor c.args.z.1 c.args.y.1 z_high y_high c.quotient-at_highs.ensures.floor)
    c.greatest_of_four.ensures
