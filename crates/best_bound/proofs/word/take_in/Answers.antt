use Rattle.best_bound.proofs.Steps.{joins}
use Rattle.best_bound.proofs.word.take_in.Goals as goal

pub join_seat-requires : goal.join_seat-requires
join_seat-requires g c = (c.requires.table, c.requires.other_table, c.requires.other_ready.empty, c.requires.words, joins g.L.Law.passes c.args.place.now.id c.args.place.now.me.0 c.args.other.id c.args.other.me.0 c.requires.ready.live)
