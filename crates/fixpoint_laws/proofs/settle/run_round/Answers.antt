use Rattle.std.proofs.Common.{◌+◌, Bool, sym, subst, arith}
use Rattle.std.proofs.lemmas.Bool.{OnTrue_from, OnFalse_from}
use Rattle.fixpoint_laws.proofs.Running.{Stands, stands_first, stands_last, stands_moved, stands_still}
use Rattle.fixpoint_laws.proofs.settle.run_round.Goals as goal
use Rattle.fixpoint_laws.proofs.settle.run_round.Goals.{then-run_kernel, else-run_kernel}

pub loop-kernel-init : goal.loop-kernel-init
loop-kernel-init c = record {
  spare_length = c.requires.length;
  stands = stands_first c.law_inside_order.ensures c.args.kernels.now c.args.b.now;
}

pub loop-kernel-preserved : goal.loop-kernel-preserved
loop-kernel-preserved c = let after = Stands c.args.kernels.now c.args.b.now (c.loop-kernel.kernel-index + 1) c.run_kernel.new.b in
    elim c.if-run_kernel.branch [
      | then-run_kernel w ↦ record {
        spare_length = omega (arith, c.run_kernel.ensures.length, c.loop-kernel.invariant.stands.run.inside.same_length);
        stands = subst (λ (m : Bool). after m) (sym w.moved-is)
            (stands_moved c.law_inside_order.ensures c.args.kernels.now c.args.b.now c.loop-kernel.b c.run_kernel.new.b c.loop-kernel.kernel-index
            c.kernel-item.result _ c.loop-kernel-test.true c.kernel-item.is c.loop-kernel.invariant.stands w.if-run_kernel.ensures.run w.if-run_kernel.ensures.moved);
      }
      | else-run_kernel w ↦ record {
        spare_length = omega (arith, c.run_kernel.ensures.length, c.loop-kernel.invariant.stands.run.inside.same_length);
        stands = subst (λ (m : Bool). after m) (sym w.moved-is)
            (stands_still c.law_inside_order.ensures c.args.kernels.now c.args.b.now c.loop-kernel.b c.run_kernel.new.b c.loop-kernel.kernel-index
            c.kernel-item.result _ c.loop-kernel-test.true c.kernel-item.is c.loop-kernel.invariant.stands w.if-run_kernel.ensures.run w.if-run_kernel.ensures.still w.if-run_kernel.ensures.closed);
      }
    ]

pub returns-clause-closed : goal.returns-clause-closed
returns-clause-closed c = OnFalse_from _ _ (stands_last c.args.kernels.now c.args.b.now _ _ _ c.loop-kernel.invariant.stands c.loop-kernel-test.false)

pub returns-clause-moved : goal.returns-clause-moved
returns-clause-moved c = OnTrue_from _ _ c.loop-kernel.invariant.stands.moves

pub returns-clause-still : goal.returns-clause-still
returns-clause-still c = OnFalse_from _ _ c.loop-kernel.invariant.stands.still
