use Rattle.std.proofs.Common.{rules, ◌≡◌}
use Rattle.interval.specs.Boxes.{put_of}
use Rattle.fixpoint_tests.proofs.TreeLaws.{put_settles}
use Rattle.fixpoint_tests.proofs.trees.put_inside.Goals as goal

pub returns-clause-can_settle : goal.returns-clause-can_settle
returns-clause-can_settle c = λ kernels masks fits settled part.
    let current : c.put.new.self.current ≡ put_of c.args.b.now.current c.args.part.var c.args.part.low c.args.part.high = search rules in
    put_settles c.law_quiet_unless_moved.ensures c.law_known_unless_moved.ensures c.law_tightens_one.ensures kernels masks c.args.b.now.current c.put.new.self.current c.args.part c.args.sets.now c.mark.new.self
    current c.mark.ensures fits settled part
