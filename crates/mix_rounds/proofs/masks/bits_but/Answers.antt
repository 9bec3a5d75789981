use Rattle.mix_rounds.proofs.MaskLaws.{but_is}
use Rattle.mix_rounds.proofs.masks.bits_but.Goals as goal

pub returns : goal.returns
returns c = λ i h. but_is c.args.place i c.requires h
