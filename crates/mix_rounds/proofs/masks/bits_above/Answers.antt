use Rattle.mix_rounds.proofs.MaskLaws.{above_is}
use Rattle.mix_rounds.proofs.masks.bits_above.Goals as goal

pub returns : goal.returns
returns c = λ i h. above_is c.args.place i c.requires h
