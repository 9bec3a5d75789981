use Rattle.mix_store.proofs.Moves.{names}
use Rattle.mix_store.proofs.make.name_floor.Goals as goal

pub load-requires : goal.load-requires
load-requires g c = (c.requires.table, c.requires.words, names c.args.table.now.shared.table_id.slots c.args.place.now.id c.args.place.now.me g.N.Naming.floor c.requires.live c.requires.fresh c.requires.held)
