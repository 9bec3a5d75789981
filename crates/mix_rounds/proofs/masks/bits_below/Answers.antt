use Rattle.mix_rounds.proofs.MaskLaws.{below_is}
use Rattle.mix_rounds.proofs.masks.bits_below.Goals as goal

pub returns : goal.returns
returns c = λ i h. below_is c.args.place i c.requires h
