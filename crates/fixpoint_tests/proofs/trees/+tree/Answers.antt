use Rattle.std.proofs.Common.{◌<◌, length, arith}
use Rattle.interval.specs.Boxes.{high_of}
use Rattle.trailed_box.specs.declared.trail.Part.{Part}
use Rattle.fixpoint_tests.proofs.TreeLaws.{highest_part, leaves_on, keeps_on}
use Rattle.fixpoint_tests.proofs.trees.+tree.Goals as goal

pub tree-requires : goal.tree-requires
tree-requires t c =
    let down = c.if-is_leaf.ensures in
    let some = down.1 in (
      omega (arith, some),
      c.in_ok-go_down.ensures.can_settle c.args.kernels.now c.args.masks.now c.in_ok-fixed.ensures.are_for (c.in_ok-fixed.ensures.settled down.0),
    )

pub tree-requires-2 : goal.tree-requires-2
tree-requires-2 t c =
    let down = c.if-is_leaf.ensures in
    let some = down.1 in
    let here = c.settle_here.new.b in
    let rests = c.settle_here.new.sets.asking.rests in
    let v = c.below-v.result in
    let part : Part = record { var = v; low = high_of here.current v; high = high_of here.current v } in
    let settled = c.in_ok-fixed.ensures.settled down.0 in
    let h : v < length here.current = let b = c.below-v.ensures in omega arith in (
      omega (arith, some),
      (c.in_ok-go_back.ensures c.args.kernels.now c.args.masks.now here rests part c.in_ok-tree.ensures.are_for
          (leaves_on part here c.go_down.new.b c.tree.new.b rests c.go_down.new.sets.asking.rests c.tree.new.sets.asking.rests c.in_ok-go_down.ensures.leaves c.in_ok-tree.ensures.keeps)
          settled (highest_part here.current v h settled.closed.proper)).0,
    )

pub returns-clause-keeps : goal.returns-clause-keeps
returns-clause-keeps t c =
    let down = c.if-is_leaf.ensures in
    let here = c.settle_here.new.b in
    let rests = c.settle_here.new.sets.asking.rests in
    let v = c.below-v.result in
    let part : Part = record { var = v; low = high_of here.current v; high = high_of here.current v } in
    let settled = c.in_ok-fixed.ensures.settled down.0 in
    let h : v < length here.current = let b = c.below-v.ensures in omega arith in
    let back = (c.in_ok-go_back.ensures c.args.kernels.now c.args.masks.now here rests part c.in_ok-tree.ensures.are_for
    (leaves_on part here c.go_down.new.b c.tree.new.b rests c.go_down.new.sets.asking.rests c.tree.new.sets.asking.rests c.in_ok-go_down.ensures.leaves c.in_ok-tree.ensures.keeps)
    settled (highest_part here.current v h settled.closed.proper)).1 in
    keeps_on c.args.b.now here _ _ rests _ c.in_ok-fixed.ensures.keeps (keeps_on here _ _ rests _ _ back c.in_ok-tree-2.ensures.keeps)
