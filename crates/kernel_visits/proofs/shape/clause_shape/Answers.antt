-- A clause of two literals or three is that of its literals at their places.
use Rattle.std.proofs.Common.{ap, arith}
use Rattle.guarded_tell.specs.declared.kernel.Kernel.TheVariants.{Clause}
use Rattle.kernel_visits.specs.Shapes.{IsShapeOf}
use Rattle.kernel_visits.proofs.ShapeLaws.{two_items, three_items, other_clause, any_is_other}
use Rattle.kernel_visits.proofs.shape.clause_shape.Goals as goal

pub returns-then-len-eq2-clause-shape : goal.returns-then-len-eq2-clause-shape
unfolding IsShapeOf
returns-then-len-eq2-clause-shape c =
    ap Clause (two_items c.args.lits.now c.at.result c.at-then-len-eq2.result (omega arith) c.at.ensures c.at-then-len-eq2.ensures)

pub returns-then-len-eq3-clause-shape : goal.returns-then-len-eq3-clause-shape
unfolding IsShapeOf
returns-then-len-eq3-clause-shape c =
    ap Clause (three_items c.args.lits.now c.at-then-len-eq3.result c.at-then-len-eq3-2.result c.at-then-len-eq3-3.result (omega arith) c.at-then-len-eq3.ensures c.at-then-len-eq3-2.ensures c.at-then-len-eq3-3.ensures)

pub returns-else-len-eq3-clause-shape : goal.returns-else-len-eq3-clause-shape
returns-else-len-eq3-clause-shape c = any_is_other (Clause c.args.lits.now)

pub returns-else-len-eq3-clause-shortest : goal.returns-else-len-eq3-clause-shortest
returns-else-len-eq3-clause-shortest c s is same = other_clause c.args.lits.now (λ e. let n = c.if-len-eq2.false in absurd (omega arith)) (λ e. let n = c.if-len-eq3.false in absurd (omega arith)) s is
