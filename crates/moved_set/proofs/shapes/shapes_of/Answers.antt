-- Each kernel's shape is put behind those of the kernels before it.
use Rattle.std.proofs.Common.{◌+◌, sym, subst, arith}
use Rattle.guarded_tell.specs.Kernels.{HasNumbers}
use Rattle.moved_set.proofs.ShapeRows.{AreFirstShapes, shapes_more}
use Rattle.moved_set.proofs.shapes.shapes_of.Goals as goal

pub shape_of-requires-in-loop-j : goal.shape_of-requires-in-loop-j
shape_of-requires-in-loop-j c = subst HasNumbers (sym c.index-kernels-j.is) (c.requires c.loop-j.j c.index-kernels-j.result (omega arith))

pub loop-j-preserved : goal.loop-j-preserved
loop-j-preserved c =
    subst (AreFirstShapes c.args.kernels.now (c.loop-j.j + 1)) (sym c.in_ok-push.ensures.items)
    (shapes_more c.args.kernels.now c.loop-j.j c.index-kernels-j.result c.loop-j.shapes.items c.shape_of.result (omega arith) c.index-kernels-j.is c.shape_of.ensures.shape c.shape_of.ensures.shortest c.loop-j.invariant)

pub returns-clause-shapes : goal.returns-clause-shapes
returns-clause-shapes c = record { same_length = omega (arith, c.loop-j.invariant.same_length); each = λ i k s h. c.loop-j.invariant.each i k s (omega arith) }

pub returns-clause-own : goal.returns-clause-own
returns-clause-own c = record { each = λ i k s t h. c.loop-j.invariant.own i k s t (omega arith) }
