use Rattle.std.proofs.Common.{◌∙◌, arith}
use Rattle.mix_store.specs.Seats.{seen_of}
use Rattle.mix_rounds.proofs.MixLaws.{same_doms}
use Rattle.mix_rounds.proofs.propagate.copy_seen.Goals as goal

pub returns : goal.returns
returns c = same_doms c.loop-v.into (seen_of c.args.seat.now) (c.loop-v.invariant.same_length ∙ c.requires)
    (λ w h. c.loop-v.invariant.copied w (omega (arith, c.loop-v.invariant.same_length, c.requires, c.len-v-end.ensures.value)))
