-- The coefficients of three terms are slight.
use Rattle.std.proofs.Common.{subst}
use Rattle.kernel_visits.specs.declared.shape.Shape.{Shape}
use Rattle.kernel_visits.specs.Shapes.{IsShapeOf}
use Rattle.kernel_visits.proofs.ShapeLaws.{slight_three}
use Rattle.kernel_visits.proofs.narrowing.visit_listed.Goals as goal

pub visit_slight-requires-clause-slight : goal.visit_slight-requires-clause-slight
visit_slight-requires-clause-slight g c = slight_three c.args.k.now c.in-Three.terms c.in-Three.limit (subst (λ (s : Shape). IsShapeOf c.args.k.now s) c.in-Three.is c.requires.shape)
