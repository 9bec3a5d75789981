use Rattle.std.proofs.Common.{◌<ℤ◌, ◌≤ℤ◌, arith}
use Rattle.std.proofs.lemmas.Int.{ints}
use Rattle.interval.specs.Boxes.{low_of}
use Rattle.lattice_store.specs.Seats.{seen_of}
use Rattle.rounds.proofs.Stepping.{low_moved, low_still}
use Rattle.rounds.proofs.share.ask_low.Goals as goal

pub returns-then-before-low-clause-stepped : goal.returns-then-before-low-clause-stepped
returns-then-before-low-clause-stepped c =
    let less : low_of (seen_of c.args.seat.now) c.args.v <ℤ c.ask_low-low.result = omega (arith, ints) in
    low_moved c.args.seat.now c.ask_low-low.new.seat c.args.v c.ask_low-low.result c.args.moved.now c.ask_low-low.ensures.seat c.requires.variable c.ask_low-low.ensures.seen less

pub returns-else-before-low-clause-stepped : goal.returns-else-before-low-clause-stepped
returns-else-before-low-clause-stepped c =
    let most : c.ask_low-low.result ≤ℤ low_of (seen_of c.args.seat.now) c.args.v = omega (arith, ints) in
    low_still c.args.seat.now c.ask_low-low.new.seat c.args.v c.ask_low-low.result c.args.moved.now c.ask_low-low.ensures.seat c.requires.variable c.ask_low-low.ensures.seen c.ask_low-low.ensures.not_behind most
