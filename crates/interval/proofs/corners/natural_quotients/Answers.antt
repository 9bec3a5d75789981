-- Both quotients are exact, and are the corners.
use Rattle.std.proofs.Common.{rules}
use Rattle.interval.specs.Quotients.{floor_of, ceiling_of}
use Rattle.interval.specs.Corners.{least_ceiling, greatest_floor}
use Rattle.interval.proofs.NaturalCorners.{above_zero, natural_ceiling, natural_floor, same_wide}
use Rattle.interval.proofs.corners.natural_quotients.Goals as goal

pub returns-clause-least : goal.returns-clause-least
returns-clause-least c =
    same_wide ceiling_of c.quotient.result.ceiling c.args.z.0 c.args.y.1 (least_ceiling c.args.z c.args.y) (search rules) (search rules) (search rules) c.quotient.ensures.ceiling
    (natural_ceiling c.args.z c.args.y c.requires.z_above_zero c.requires.z_order (above_zero c.args.y.0 c.requires.low_divisor c.requires.y_above_zero) c.requires.y_order)

pub returns-clause-greatest : goal.returns-clause-greatest
returns-clause-greatest c =
    same_wide floor_of c.quotient-2.result.floor c.args.z.1 c.args.y.0 (greatest_floor c.args.z c.args.y) (search rules) (search rules) (search rules) c.quotient-2.ensures.floor
    (natural_floor c.args.z c.args.y c.requires.z_above_zero c.requires.z_order (above_zero c.args.y.0 c.requires.low_divisor c.requires.y_above_zero) c.requires.y_order)
