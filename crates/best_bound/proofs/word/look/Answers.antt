use Rattle.best_bound.proofs.Steps.{looks}
use Rattle.best_bound.proofs.word.look.Goals as goal

pub load-requires : goal.load-requires
load-requires g c = (c.requires.table, c.requires.words, looks g.L.Law.passes c.args.table.now.shared.table_id.slots c.args.place.now.id c.args.place.now.me c.requires.ready)
