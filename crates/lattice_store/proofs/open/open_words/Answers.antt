use Rattle.std.proofs.Common.{ap, ◌∙◌, sym, refl, arith}
use Rattle.atomic_table.specs.Seated.{TableId}
use Rattle.lattice_store.specs.Words.{epoch_of}
use Rattle.lattice_store.proofs.Openings.{begins}
use Rattle.lattice_store.proofs.Pairs.{began_opening}
use Rattle.lattice_store.proofs.open.open_words.Goals as goal

pub fetch_max-requires : goal.fetch_max-requires
fetch_max-requires g c = (c.requires.table, (let a = c.requires.length in let b = c.requires.words in omega arith), begins c.args.table.now.shared.table_id.slots c.args.place.now.id 0 c.args.place.now.me g.N.Naming.floor c.requires.ready c.requires.first)

pub loop-v-init : goal.loop-v-init
loop-v-init g c = record { table = refl; opening = began_opening c.args.place.now.table_id c.fetch_max.new.seat.table_id c.args.place.now.me c.fetch_max.new.seat.me c.args.seen.now.items c.args.start.now g.N.Naming.floor (epoch_of c.args.origin) c.requires.ready c.requires.first c.requires.empty c.requires.past c.requires.epoch c.requires.seen c.requires.length (c.requires.words ∙ ap (λ (z : TableId). z.words) (sym c.requires.table)) (ap (λ (z : TableId). z.slots) c.requires.table ∙ c.requires.slots) c.fetch_max.ensures.0 c.fetch_max.ensures.2.0 c.fetch_max.ensures.2.1 }
