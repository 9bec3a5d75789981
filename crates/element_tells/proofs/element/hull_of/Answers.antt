-- Each step adds the place, if x can be it; no place that is left out can be x.
use Rattle.std.proofs.Common.{suc, arith}
use Rattle.element_tells.proofs.ElementTells.{hull_start, hull_next, hull_whole}
use Rattle.element_tells.proofs.element.hull_of.Goals as goal

pub loop-i-init : goal.loop-i-init
loop-i-init c = hull_start c.args.x c.args.c c.args.b.now c.args.entries.now c.first_place-i.result c.first_place-i.ensures.bound c.first_place-i.ensures.below

pub loop-i-preserved : goal.loop-i-preserved
loop-i-preserved c = hull_next c.args.x c.args.c c.args.b.now c.args.entries.now c.loop-i.i c.loop-i.found c.next_hull-found.result (omega arith) c.next_hull-found.ensures c.loop-i.invariant

pub next_hull-found-requires-clause-y : goal.next_hull-found-requires-clause-y
next_hull-found-requires-clause-y c = c.requires.variables.each (suc (suc c.loop-i.i)) (omega arith)

pub next_hull-found-requires-clause-c : goal.next_hull-found-requires-clause-c
next_hull-found-requires-clause-c c = c.requires.variables.each 1 (omega arith)

pub returns : goal.returns
returns c = hull_whole c.args.x c.args.c c.args.b.now c.args.entries.now c.place_count-i-end.result c.loop-i.i c.loop-i.found c.place_count-i-end.ensures.above c.loop-i-test.false c.loop-i.invariant
