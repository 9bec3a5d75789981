use Rattle.std.proofs.Common.{◌≡◌, ◌+◌, ◌*◌}
use Rattle.lattice_store.specs.Words.{epoch_of}
use Rattle.lattice_store.specs.Steps.{Opening}
use Rattle.lattice_store.proofs.open.open_words.Given as goal

abbrev pub invariant-loop-v : goal.invariant-loop-v
invariant-loop-v g l = record {
  table : l.place.table_id ≡ l.initial.place.table_id;
  opening : Opening l.place.table_id l.place.me l.seen.items l.start g.N.Naming.floor (epoch_of l.origin) (2 * l.v + 1);
}
