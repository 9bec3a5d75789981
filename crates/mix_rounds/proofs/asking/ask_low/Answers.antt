use Rattle.std.proofs.Common.{◌≡◌, arith}
use Rattle.std.proofs.lemmas.Int.{ints}
use Rattle.mix_store.specs.Seats.{seen_of}
use Rattle.mix_rounds.specs.Steps.{low_bound_of}
use Rattle.mix_rounds.proofs.MixLaws.{low_put_same}
use Rattle.mix_rounds.proofs.Stepping.{still}
use Rattle.mix_rounds.proofs.asking.ask_low.Goals as goal

pub returns-else-before-low-clause-stepped : goal.returns-else-before-low-clause-stepped
returns-else-before-low-clause-stepped c =
    let e = c.ask_low-low.ensures in
    let same : c.ask_low-low.result ≡ low_bound_of (seen_of c.args.seat.now) c.args.v = omega (arith, ints, e.not_behind, c.requires.before) in
    still c.args.seat.now c.ask_low-low.new.seat c.args.moved.now e.seat e.inside (low_put_same (seen_of c.args.seat.now) (seen_of c.ask_low-low.new.seat) c.args.v c.ask_low-low.result e.seen same)
