-- Natural numbers are divided downward.
use Rattle.std.proofs.Common.{FitsSigned, rules}
use mir.Syntax.{w64}
use Rattle.seen_tells.proofs.NaturalLaws.{coded_floor}
use Rattle.seen_tells.proofs.product.floor.Goals as goal

pub returns : goal.returns
returns c =
    let dividend : FitsSigned w64 c.args.dividend = search rules in
    let divisor : FitsSigned w64 c.args.divisor = search rules in
    coded_floor c.args.dividend c.args.divisor dividend divisor c.requires.natural c.requires.divisor
