use Rattle.mix_store.proofs.Moves.{asks}
use Rattle.mix_store.proofs.steps.look.Goals as goal

pub load-requires : goal.load-requires
load-requires c = (c.requires.table, c.requires.inside, asks c.args.table.now.shared.table_id.slots c.args.place.now.id c.args.k c.args.place.now.me c.requires.ready)
