use Rattle.lattice_store.proofs.Seating.{is_ready}
use Rattle.lattice_store.proofs.Parting.{splits}
use Rattle.lattice_store.proofs.store.Store.split.Goals as goal

pub split_seat-place-requires : goal.split_seat-place-requires
split_seat-place-requires c = (c.requires, c.args.self.now.spare, splits c.args.seat.now.place.id c.args.seat.now.place.me.0 (is_ready _ _ _ _ _ c.args.seat.now.stands))
