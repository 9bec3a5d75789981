use Rattle.std.proofs.Common.{ℕ, length, ap, sym, subst}
use Rattle.interval.specs.Boxes.{Bounds}
use Rattle.trailed_box.specs.declared.trail.Part.{Part}
use Rattle.trailed_box.specs.Trailed.{IsPart}
use Rattle.fixpoint_tests.specs.Trees.{AreFor, IsPartOf}
use Rattle.fixpoint_tests.proofs.TreeLaws.{left_for, left_settled, lowest_part}
use Rattle.fixpoint_tests.proofs.trees.go_down.Goals as goal

pub returns-clause-can_settle : goal.returns-clause-can_settle
returns-clause-can_settle c = λ kernels masks fits settled.
    let same = c.in_ok-push.ensures.current in
    c.in_ok-put_inside.ensures.can_settle kernels masks
    (subst (λ (n : ℕ). AreFor kernels masks n c.leave.new.self) (ap length (sym same))
    (left_for kernels masks (length c.args.b.now.current) c.args.sets.now c.leave.new.self c.leave.ensures.moved c.leave.ensures.asked c.in_ok-leave.ensures.left fits))
    (left_settled kernels c.args.b.now.current c.push.new.self.current c.args.sets.now.asking.rests c.leave.new.self.asking.rests same c.in_ok-leave.ensures.left settled)
    (subst (λ (x : Bounds). IsPartOf x c.lowest-first.result) (sym same) (subst (λ (p : Part). IsPartOf c.args.b.now.current p) (sym c.lowest-first.ensures.is) (lowest_part c.args.b.now.current c.args.v c.requires.variable settled.closed.proper)))

pub put_inside-requires-clause-part : goal.put_inside-requires-clause-part
put_inside-requires-clause-part c = subst (λ (x : Bounds). IsPart (length x) c.lowest-first.result.var c.lowest-first.result.low c.lowest-first.result.high) (sym c.in_ok-push.ensures.current) c.lowest-first.ensures.part
