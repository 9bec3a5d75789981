use Rattle.mix_store.proofs.Parting.{splits}
use Rattle.mix_store.proofs.store.MixStore.split.Goals as goal

pub split_seat-place-requires : goal.split_seat-place-requires
split_seat-place-requires c = (c.requires.table, c.args.self.now.spare, splits c.args.seat.now.place.id c.args.seat.now.place.me.0 c.args.seat.now.stands.live c.args.seat.now.stands.fresh)
