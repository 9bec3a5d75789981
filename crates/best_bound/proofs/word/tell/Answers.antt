use Rattle.best_bound.proofs.Steps.{tells}
use Rattle.best_bound.proofs.word.tell.Goals as goal

pub fetch_min-requires : goal.fetch_min-requires
fetch_min-requires g c = (c.requires.table, c.requires.words, tells g.L.Law.passes c.args.table.now.shared.table_id.slots c.args.place.now.id c.args.word c.args.place.now.me c.requires.ready c.requires.word c.requires.passes)
