use Rattle.best_bound.proofs.Steps.{splits}
use Rattle.best_bound.proofs.word.part.Goals as goal

pub split_seat-requires : goal.split_seat-requires
split_seat-requires g c = (c.requires.table, c.requires.words, splits g.L.Law.passes c.args.place.now.id c.args.place.now.me.0 c.requires.parts)
