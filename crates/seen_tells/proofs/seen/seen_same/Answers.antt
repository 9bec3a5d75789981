-- The literal stands in the box.
use Rattle.kernel_visits.proofs.ShapeQuiet.{same_places}
use Rattle.seen_tells.proofs.seen.seen_same.Goals as goal

pub stands_false-requires-clause-variable : goal.stands_false-requires-clause-variable
stands_false-requires-clause-variable c = (same_places c.args.k.now c.args.b.now c.args.lit c.args.x c.args.y c.args.limit c.requires.kernel c.requires.proper c.requires.shape).literal

pub stands_false-requires-clause-proper : goal.stands_false-requires-clause-proper
stands_false-requires-clause-proper c = (same_places c.args.k.now c.args.b.now c.args.lit c.args.x c.args.y c.args.limit c.requires.kernel c.requires.proper c.requires.shape).literal_proper

pub stands_true-requires-clause-variable : goal.stands_true-requires-clause-variable
stands_true-requires-clause-variable c = (same_places c.args.k.now c.args.b.now c.args.lit c.args.x c.args.y c.args.limit c.requires.kernel c.requires.proper c.requires.shape).literal

pub stands_true-requires-clause-proper : goal.stands_true-requires-clause-proper
stands_true-requires-clause-proper c = (same_places c.args.k.now c.args.b.now c.args.lit c.args.x c.args.y c.args.limit c.requires.kernel c.requires.proper c.requires.shape).literal_proper
