use Rattle.std.proofs.Common.{◌∙◌, arith}
use Rattle.std.proofs.lemmas.Int.{ints}
use Rattle.lattice_store.specs.Seats.{seen_of}
use Rattle.rounds.proofs.BoxLaws.{looked, put_is}
use Rattle.rounds.proofs.Stepping.{stepped_more}
use Rattle.rounds.proofs.share.look.Goals as goal

pub returns-clause-stepped : goal.returns-clause-stepped
returns-clause-stepped c =
    stepped_more c.args.seat.now c.ask_low-low.new.seat c.ask_high-high.new.seat c.args.moved.now c.ask_low-low.new.moved c.ask_high-high.new.moved c.ask_low-low.ensures.stepped c.ask_high-high.ensures.stepped

pub returns-clause-snapshot : goal.returns-clause-snapshot
returns-clause-snapshot c = c.put.ensures ∙ put_is c.args.snapshot.now c.args.v _ _ _ _ (omega (arith, ints)) (omega (arith, ints))

pub returns-clause-seen : goal.returns-clause-seen
returns-clause-seen c =
    looked (seen_of c.args.seat.now) (seen_of c.ask_low-low.new.seat) (seen_of c.ask_high-high.new.seat) c.args.v c.ask_low-low.result c.ask_high-high.result
    c.requires.variable c.ask_low-low.ensures.seen c.ask_high-high.ensures.seen
