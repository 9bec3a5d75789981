use Rattle.std.proofs.Common.{arith}
use Rattle.tickets.proofs.Moves.{hears}
use Rattle.tickets.proofs.steps.hear.Goals as goal

pub load-spare-requires : goal.load-spare-requires
load-spare-requires c = (c.requires.table, (let w = c.requires.words in omega arith), hears c.args.table.now.shared.table_id.slots c.args.place.now.id c.args.place.now.me c.requires.ready)
