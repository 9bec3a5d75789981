-- The literal stands in the box.
use Rattle.std.proofs.Common.{subst}
use Rattle.kernel_visits.specs.declared.shape.Shape.{Shape}
use Rattle.kernel_visits.specs.Shapes.{IsShapeOf}
use Rattle.kernel_visits.proofs.ShapeQuiet.{at_most_places, same_places}
use Rattle.seen_tells.proofs.seen.seen_visit.Goals as goal

pub stands_true-requires-clause-variable : goal.stands_true-requires-clause-variable
stands_true-requires-clause-variable c = (at_most_places c.args.k.now c.args.b.now c.in-AtMost.lit c.in-AtMost.x c.in-AtMost.y c.in-AtMost.limit c.requires.kernel c.requires.proper (subst (λ (s : Shape). IsShapeOf c.args.k.now s) c.in-AtMost.is c.requires.shape)).literal

pub stands_true-requires-clause-proper : goal.stands_true-requires-clause-proper
stands_true-requires-clause-proper c = (at_most_places c.args.k.now c.args.b.now c.in-AtMost.lit c.in-AtMost.x c.in-AtMost.y c.in-AtMost.limit c.requires.kernel c.requires.proper (subst (λ (s : Shape). IsShapeOf c.args.k.now s) c.in-AtMost.is c.requires.shape)).literal_proper

pub stands_true-requires-in-Same-clause-variable : goal.stands_true-requires-in-Same-clause-variable
stands_true-requires-in-Same-clause-variable c = (same_places c.args.k.now c.args.b.now c.in-Same.lit c.in-Same.x c.in-Same.y c.in-Same.limit c.requires.kernel c.requires.proper (subst (λ (s : Shape). IsShapeOf c.args.k.now s) c.in-Same.is c.requires.shape)).literal

pub stands_true-requires-in-Same-clause-proper : goal.stands_true-requires-in-Same-clause-proper
stands_true-requires-in-Same-clause-proper c = (same_places c.args.k.now c.args.b.now c.in-Same.lit c.in-Same.x c.in-Same.y c.in-Same.limit c.requires.kernel c.requires.proper (subst (λ (s : Shape). IsShapeOf c.args.k.now s) c.in-Same.is c.requires.shape)).literal_proper
