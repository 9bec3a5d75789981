use Rattle.std.proofs.Common.{arith}
use Rattle.std.proofs.lemmas.Int.{ints}
use Rattle.constraint_check.proofs.SumLaws.{quotient_coded, quotient_is}
use Rattle.constraint_check.proofs.comparing.quotient_of_two.Goals as goal

pub nonzero_div-result : goal.nonzero_div-result
nonzero_div-result c = let divisor = c.requires in (omega (arith, ints), quotient_coded c.args.x c.args.y c.ranges.x c.ranges.y)

pub returns : goal.returns
returns c = quotient_is c.args.x c.args.y c.ranges.x c.ranges.y
