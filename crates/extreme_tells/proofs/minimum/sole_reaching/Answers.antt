-- The one that passes the test, or none where a second one comes.
use Rattle.std.proofs.Common.{suc, sym, ◌∙◌, arith}
use Rattle.extreme_tells.specs.Minimum.{min_reaches}
use Rattle.extreme_tells.proofs.ExtremeLaws.{sole_found, sole_none}
use Rattle.extreme_tells.proofs.minimum.sole_reaching.Goals as goal

pub reaches-requires-clause-x : goal.reaches-requires-clause-x
reaches-requires-clause-x c = c.requires.each (suc c.loop-i.i) (omega arith)

pub returns-then-is_some : goal.returns-then-is_some
returns-then-is_some c = sole_none (min_reaches c.args.m c.args.b.now) c.args.xs.now c.loop-i.i 0 c.loop-i.found c.loop-i-test.true c.loop-i.invariant (sym c.is_some.ensures ∙ c.if-is_some.true) (sym c.reaches.ensures ∙ c.if-reaches.true)

pub returns : goal.returns
returns c = sole_found (min_reaches c.args.m c.args.b.now) c.args.xs.now c.loop-i.i c.loop-i.found c.loop-i-test.false c.loop-i.invariant
