-- What is seen of the greater of two is seen of its kernel.
use Rattle.std.proofs.Common.{arith}
use Rattle.seen_tells.proofs.FewLaws.{few_seen}
use Rattle.seen_tells.proofs.GreatestLaws.{greatest_places, kernel_kept, kernel_few}
use Rattle.seen_tells.proofs.greatest.seen_greatest.Goals as goal

pub is_greatest_kept-requires-clause-m : goal.is_greatest_kept-requires-clause-m
is_greatest_kept-requires-clause-m c = (greatest_places c.args.k.now c.args.b.now c.args.m c.args.x c.args.y c.requires.kernel c.requires.shape).each 0 (omega arith)

pub is_greatest_kept-requires-clause-x : goal.is_greatest_kept-requires-clause-x
is_greatest_kept-requires-clause-x c = (greatest_places c.args.k.now c.args.b.now c.args.m c.args.x c.args.y c.requires.kernel c.requires.shape).each 1 (omega arith)

pub is_greatest_kept-requires-clause-y : goal.is_greatest_kept-requires-clause-y
is_greatest_kept-requires-clause-y c = (greatest_places c.args.k.now c.args.b.now c.args.m c.args.x c.args.y c.requires.kernel c.requires.shape).each 2 (omega arith)

pub greatest_tells-requires-clause-m : goal.greatest_tells-requires-clause-m
greatest_tells-requires-clause-m c = (greatest_places c.args.k.now c.args.b.now c.args.m c.args.x c.args.y c.requires.kernel c.requires.shape).each 0 (omega arith)

pub greatest_tells-requires-clause-x : goal.greatest_tells-requires-clause-x
greatest_tells-requires-clause-x c = (greatest_places c.args.k.now c.args.b.now c.args.m c.args.x c.args.y c.requires.kernel c.requires.shape).each 1 (omega arith)

pub greatest_tells-requires-clause-y : goal.greatest_tells-requires-clause-y
greatest_tells-requires-clause-y c = (greatest_places c.args.k.now c.args.b.now c.args.m c.args.x c.args.y c.requires.kernel c.requires.shape).each 2 (omega arith)

pub returns-then-is_greatest_kept : goal.returns-then-is_greatest_kept
returns-then-is_greatest_kept c = record {
  kept = kernel_kept c.args.k.now c.args.b.now c.args.m c.args.x c.args.y c.requires.shape c.if-is_greatest_kept.ensures;
  rest = tt;
}

pub returns-else-is_greatest_kept : goal.returns-else-is_greatest_kept
returns-else-is_greatest_kept c =
    few_seen c.args.k.now c.args.b.now _ (kernel_few c.args.k.now c.args.b.now c.args.m c.args.x c.args.y c.greatest_tells.result c.requires.shape c.greatest_tells.ensures)
