-- Each of the four quotients is exact, and so are the least and the greatest of them.
use Rattle.std.proofs.Common.{FitsSigned, rules}
use mir.Syntax.{w64}
use Rattle.arithmetic_tells.specs.Division.{quotient_of, least_quotient, greatest_quotient}
use Rattle.arithmetic_tells.proofs.DivisionCode.{same_least, same_greatest, same_pair}
use Rattle.arithmetic_tells.proofs.division.corner_truncations.Goals as goal

pub returns-clause-least : goal.returns-clause-least
unfolding least_quotient
returns-clause-least c =
    let x_low : FitsSigned w64 c.args.x.0 = search rules in
    let x_high : FitsSigned w64 c.args.x.1 = search rules in
    let y_low : FitsSigned w64 c.args.y.0 = search rules in
    let y_high : FitsSigned w64 c.args.y.1 = search rules in
    same_least c.least_of_four.result c.tdiv-at_lows.result c.tdiv-at_low_high.result c.tdiv-at_high_low.result c.tdiv-at_highs.result _ _ _ _ (search rules) (search rules) (search rules) (search rules) (search rules)
    (same_pair quotient_of c.tdiv-at_lows.result c.args.x.0 c.args.y.0 x_low y_low c.tdiv-at_lows.ensures)
    (same_pair quotient_of c.tdiv-at_low_high.result c.args.x.0 c.args.y.1 x_low y_high c.tdiv-at_low_high.ensures)
    (same_pair quotient_of c.tdiv-at_high_low.result c.args.x.1 c.args.y.0 x_high y_low c.tdiv-at_high_low.ensures)
    (same_pair quotient_of c.tdiv-at_highs.result c.args.x.1 c.args.y.1 x_high y_high c.tdiv-at_highs.ensures)
    c.least_of_four.ensures

pub returns-clause-greatest : goal.returns-clause-greatest
unfolding greatest_quotient
returns-clause-greatest c =
    let x_low : FitsSigned w64 c.args.x.0 = search rules in
    let x_high : FitsSigned w64 c.args.x.1 = search rules in
    let y_low : FitsSigned w64 c.args.y.0 = search rules in
    let y_high : FitsSigned w64 c.args.y.1 = search rules in
    same_greatest c.greatest_of_four.result c.tdiv-at_lows.result c.tdiv-at_low_high.result c.tdiv-at_high_low.result c.tdiv-at_highs.result _ _ _ _ (search rules) (search rules) (search rules) (search rules) (search rules)
    (same_pair quotient_of c.tdiv-at_lows.result c.args.x.0 c.args.y.0 x_low y_low c.tdiv-at_lows.ensures)
    (same_pair quotient_of c.tdiv-at_low_high.result c.args.x.0 c.args.y.1 x_low y_high c.tdiv-at_low_high.ensures)
    (same_pair quotient_of c.tdiv-at_high_low.result c.args.x.1 c.args.y.0 x_high y_low c.tdiv-at_high_low.ensures)
    (same_pair quotient_of c.tdiv-at_highs.result c.args.x.1 c.args.y.1 x_high y_high c.tdiv-at_highs.ensures)
    c.greatest_of_four.ensures
