use Rattle.std.proofs.Common.{◌<ℤ◌, ◌≤ℤ◌, arith}
use Rattle.std.proofs.lemmas.Int.{ints}
use Rattle.interval.specs.Boxes.{high_of}
use Rattle.lattice_store.specs.Seats.{seen_of}
use Rattle.rounds.proofs.BoxLaws.{low_kept}
use Rattle.rounds.proofs.Stepping.{high_moved, high_still}
use Rattle.rounds.proofs.share.ask_high.Goals as goal

pub returns-then-high-before-clause-stepped : goal.returns-then-high-before-clause-stepped
returns-then-high-before-clause-stepped c =
    let less : c.ask_high-high.result <ℤ high_of (seen_of c.args.seat.now) c.args.v = omega (arith, ints) in
    high_moved c.args.seat.now c.ask_high-high.new.seat c.args.v c.ask_high-high.result c.args.moved.now c.ask_high-high.ensures.seat c.requires.variable c.ask_high-high.ensures.seen less

pub returns-else-high-before-clause-stepped : goal.returns-else-high-before-clause-stepped
returns-else-high-before-clause-stepped c =
    let most : high_of (seen_of c.args.seat.now) c.args.v ≤ℤ c.ask_high-high.result = omega (arith, ints) in
    high_still c.args.seat.now c.ask_high-high.new.seat c.args.v c.ask_high-high.result c.args.moved.now c.ask_high-high.ensures.seat c.requires.variable c.ask_high-high.ensures.seen c.ask_high-high.ensures.not_behind most

pub returns-then-high-before-clause-low : goal.returns-then-high-before-clause-low
returns-then-high-before-clause-low c = low_kept (seen_of c.args.seat.now) (seen_of c.ask_high-high.new.seat) c.args.v c.ask_high-high.result c.requires.variable c.ask_high-high.ensures.seen

pub returns-else-high-before-clause-low : goal.returns-else-high-before-clause-low
returns-else-high-before-clause-low c = low_kept (seen_of c.args.seat.now) (seen_of c.ask_high-high.new.seat) c.args.v c.ask_high-high.result c.requires.variable c.ask_high-high.ensures.seen
