use Rattle.mix_store.proofs.seat.MixSeat.law_floor.Goals as goal

pub returns : goal.returns
returns c = c.args.self.now.stands.floor
