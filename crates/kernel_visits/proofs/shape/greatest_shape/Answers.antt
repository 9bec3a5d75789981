-- The greater of two is that of the variables at their places.
use Rattle.std.proofs.Common.{ap, arith}
use Rattle.guarded_tell.specs.declared.kernel.Kernel.TheVariants.{Max}
use Rattle.kernel_visits.specs.Shapes.{IsShapeOf}
use Rattle.kernel_visits.proofs.ShapeLaws.{two_places, other_greatest, any_is_other}
use Rattle.kernel_visits.proofs.shape.greatest_shape.Goals as goal

pub returns-then-xs-eq2-clause-shape : goal.returns-then-xs-eq2-clause-shape
unfolding IsShapeOf
returns-then-xs-eq2-clause-shape c = let two = c.if-xs-eq2.true in ap (Max c.args.m) (two_places c.args.xs.now (omega arith))

pub returns-else-xs-eq2-clause-shape : goal.returns-else-xs-eq2-clause-shape
returns-else-xs-eq2-clause-shape c = any_is_other (Max c.args.m c.args.xs.now)

pub returns-else-xs-eq2-clause-shortest : goal.returns-else-xs-eq2-clause-shortest
returns-else-xs-eq2-clause-shortest c s is same = other_greatest c.args.m c.args.xs.now (λ e. let n = c.if-xs-eq2.false in absurd (omega arith)) s is
