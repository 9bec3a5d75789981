use Rattle.std.proofs.Common.{◌∙◌, arith}
use Rattle.lattice_store.specs.Seats.{seen_of}
use Rattle.rounds.proofs.BoxLaws.{same_bounds}
use Rattle.rounds.proofs.settling.copy_seen.Goals as goal

pub returns : goal.returns
returns c = same_bounds c.loop-v.into (seen_of c.args.seat.now) (c.loop-v.invariant.same_length ∙ c.requires)
    (λ w h. let s = c.loop-v.invariant.copied w (omega (arith, c.loop-v.invariant.same_length, c.requires, c.len-v-end.ensures.value)) in (s.low, s.high))
