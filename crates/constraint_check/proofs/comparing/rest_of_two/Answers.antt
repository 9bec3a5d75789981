use Rattle.std.proofs.Common.{arith}
use Rattle.std.proofs.lemmas.Int.{ints}
use Rattle.constraint_check.proofs.SumLaws.{coded_rest_is, quotient_coded}
use Rattle.constraint_check.proofs.comparing.rest_of_two.Goals as goal

pub nonzero_rem-result : goal.nonzero_rem-result
nonzero_rem-result c = let divisor = c.requires in (omega (arith, ints), quotient_coded c.args.x c.args.y c.ranges.x c.ranges.y)

pub returns : goal.returns
returns c = coded_rest_is c.args.x c.args.y c.ranges.x c.ranges.y
