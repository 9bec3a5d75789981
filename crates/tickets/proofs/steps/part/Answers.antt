use Rattle.std.proofs.Common.{arith}
use Rattle.tickets.proofs.Moves.{splits}
use Rattle.tickets.proofs.steps.part.Goals as goal

pub split_seat-requires : goal.split_seat-requires
split_seat-requires c = (c.requires.table, (let w = c.requires.words in omega arith), splits c.args.place.now.id c.args.place.now.me.0 c.requires.parts)
