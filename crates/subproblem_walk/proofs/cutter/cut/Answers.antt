use Rattle.std.proofs.Common.{List, sym, subst}
use Rattle.interval.specs.Boxes.{Bounds}
use Rattle.guarded_tell.specs.declared.kernel.Kernel.{Kernel}
use Rattle.fixpoint_laws.specs.Fixpoints.{IsGreatest}
use Rattle.moved_fixpoint.specs.Moved.{Set, AreMovedOrQuiet}
use Rattle.subproblem_walk.specs.Nodes.{IsKeptOrParted}
use Rattle.subproblem_walk.proofs.CutterLemmas.{ended_fixed, node_of_closed}
use Rattle.subproblem_walk.proofs.cutter.cut.Goals as goal

pub settle_proper-requires-clause-quiet : goal.settle_proper-requires-clause-quiet
settle_proper-requires-clause-quiet c =
    subst (λ (s : Set). AreMovedOrQuiet s c.args.sub.now.boxes.current c.as_slice-kernels.result.now) (sym c.wake_all.ensures.moved)
    (subst (λ (ks : List Kernel). AreMovedOrQuiet c.note.new.sets.moved c.args.sub.now.boxes.current ks) (sym c.as_slice-kernels.ensures)
    (c.note.ensures.quiet c.args.tree.now.program.now.kernels c.args.sub.now.boxes.current (sym c.requires.sets.fit.moved_count) c.requires.cut.fit c.requires.made))

pub returns-in-Fixed-clause-node : goal.returns-in-Fixed-clause-node
returns-in-Fixed-clause-node c =
    let greatest : IsGreatest c.settle_proper.new.b.current c.args.sub.now.boxes.current c.args.tree.now.program.now.kernels =
    subst (λ (ks : List Kernel). IsGreatest c.settle_proper.new.b.current c.args.sub.now.boxes.current ks) c.as_slice-kernels.ensures
    (ended_fixed c.as_slice-kernels.result.now c.args.sub.now.boxes.current c.settle_proper.new.b.current c.in_ok-settle_proper.field-0 c.in_ok-settle_proper.ensures.ends c.in-Fixed.rounds c.in-Fixed.is) in
    node_of_closed c.args.tree.now.model.now c.args.tree.now.program.now.kernels c.args.sub.now.boxes.current c.settle_proper.new.b.current greatest c.keep_or_part.result
    (subst (λ (x : Bounds). IsKeptOrParted c.args.tree.now.model.now x c.keep_or_part.result) c.current.ensures c.keep_or_part.ensures)
