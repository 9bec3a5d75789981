use Rattle.std.proofs.Common.{length, ap, ◌∙◌, arith}
use Rattle.interval.specs.Boxes.{Bounds}
use Rattle.fixpoint_tests.proofs.TreeLaws.{all_settle}
use Rattle.fixpoint_tests.proofs.trees.tree_from_start.Goals as goal

pub tree-requires : goal.tree-requires
tree-requires c = all_settle c.law_quiet_unless_moved.ensures c.law_known_unless_moved.ensures c.args.kernels.now c.in_ok-masks.masks c.in_ok-b.b.current 40 c.in_ok-sets.sets c.note_all.new.self
    (omega arith) (ap (λ (b : Bounds). length b) c.in_ok-b.ensures.current ∙ c.in_ok-first.ensures) c.requires
    (record { naming = c.in_ok-masks.ensures.naming; same_count = c.in_ok-masks.ensures.count; shapes = c.in_ok-masks.ensures.shapes }) c.in_ok-sets.ensures.fit c.in_ok-sets.ensures.fit_rests
    c.note_all.ensures.moved_count c.note_all.ensures.moved c.note_all.ensures.asked_count c.note_all.ensures.asked c.note_all.ensures.rests_count c.note_all.ensures.fresh
