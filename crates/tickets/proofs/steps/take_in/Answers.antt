use Rattle.std.proofs.Common.{arith}
use Rattle.tickets.proofs.Moves.{joins}
use Rattle.tickets.proofs.steps.take_in.Goals as goal

pub join_seat-requires : goal.join_seat-requires
join_seat-requires c = (c.requires.table, c.requires.other_table, c.requires.other_ready.empty, (let w = c.requires.words in omega arith), joins c.args.place.now.id c.args.place.now.me.0 c.args.other.id c.args.other.me.0 c.requires.ready.live c.requires.other_ready.live)
