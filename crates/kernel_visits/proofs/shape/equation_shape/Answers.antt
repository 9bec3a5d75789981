-- Three terms make their shape; where there are none, slight coefficients say it.
use Rattle.std.proofs.Common.{refl, sym, inr}
use Rattle.std.proofs.lemmas.Int.{to_z-of_z}
use mir.Syntax.{w64}
use Rattle.guarded_tell.specs.declared.kernel.Kernel.TheVariants.{Eq}
use Rattle.kernel_visits.specs.Shapes.{IsShapeOf}
use Rattle.kernel_visits.proofs.ShapeLaws.{sum_made, sum_rough}
use Rattle.kernel_visits.proofs.shape.equation_shape.Goals as goal

pub returns-in-Some-clause-shape : goal.returns-in-Some-clause-shape
unfolding IsShapeOf
returns-in-Some-clause-shape c l =
    let terms = c.in-Some.ensures in
    let read = to_z-of_z w64 c.args.limit c.ranges.limit in
    (l, λ i. Eq l (terms.0 i) (terms.1 i) (sym read i))

pub returns-in-None-clause-shape : goal.returns-in-None-clause-shape
returns-in-None-clause-shape c l =
    sum_made (Eq l c.args.coeffs.now c.args.vars.now c.args.limit) c.are_slight_extended.result c.sum_shape.result
    (λ t. (l, c.args.coeffs.now, c.args.vars.now, c.args.limit, inr refl, c.are_slight_extended.ensures.0 t)) c.sum_shape.ensures

pub returns-in-None-clause-rough : goal.returns-in-None-clause-rough
returns-in-None-clause-rough c same slight =
    sum_rough c.args.coeffs.now c.are_slight_extended.result c.sum_shape.result (λ a. c.are_slight_extended.ensures.1 a) c.sum_shape.ensures same slight
