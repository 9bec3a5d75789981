-- The coefficient is 1, or else -1.
use Rattle.std.proofs.Common.{arith}
use Rattle.std.proofs.lemmas.Int.{ints, to_z-of_z}
use mir.Syntax.{w64}
use Rattle.kernel_visits.proofs.SoleLaws.{plain_bound, opposite_bound}
use Rattle.kernel_visits.proofs.sole.unit_term.Goals as goal

pub returns-then-coeff-gt0 : goal.returns-then-coeff-gt0
returns-then-coeff-gt0 c =
    plain_bound c.args.b.now c.args.var c.plain.result c.args.coeff c.requires.unit (omega (arith, ints, c.if-coeff-gt0.true, to_z-of_z w64 c.args.coeff c.ranges.coeff)) c.plain.ensures

pub returns-else-coeff-gt0 : goal.returns-else-coeff-gt0
returns-else-coeff-gt0 c =
    opposite_bound c.args.b.now c.args.var c.opposite.result c.args.coeff c.requires.unit (omega (arith, ints, c.if-coeff-gt0.false, to_z-of_z w64 c.args.coeff c.ranges.coeff)) c.opposite.ensures
