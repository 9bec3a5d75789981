use Rattle.std.proofs.Common.{sym, subst}
use Rattle.interval.specs.Boxes.{Bounds}
use Rattle.moved_fixpoint.specs.declared.rests.Rests.{Rests}
use Rattle.moved_fixpoint.specs.Asked.{AreAtRest, AreDrawn}
use Rattle.moved_fixpoint.proofs.DrawnLaws.{drawn_rest}
use Rattle.moved_fixpoint.proofs.settle.settle_proper.Goals as goal

pub run_rounds-requires-clause-at_rest : goal.run_rounds-requires-clause-at_rest
run_rounds-requires-clause-at_rest c =
    subst (λ (r : Rests). AreAtRest c.draw.new.sets.asked r c.args.b.now.current c.args.kernels.now) (sym c.draw.ensures.rests)
    (drawn_rest c.law_inside_order.ensures c.args.kernels.now c.args.masks.now c.requires.masks.naming c.args.sets.now.moved c.args.sets.now.asking.asked c.draw.new.sets.asked c.args.sets.now.asking.rests
    c.args.b.now.current c.requires.proper c.requires.kernels c.requires.sets.asked_count c.requires.quiet c.requires.knows
    (subst (λ (b : Bounds). AreDrawn c.args.masks.now c.args.sets.now.moved c.args.sets.now.asking.rests b c.args.sets.now.asking.asked c.draw.new.sets.asked) c.current.ensures c.draw.ensures.drawn))
