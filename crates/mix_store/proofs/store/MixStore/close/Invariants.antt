use Rattle.std.specs.Mem.Slots.{slots_items}
use Rattle.mix_store.proofs.Closing.{IsLast}
use Rattle.mix_store.proofs.store.MixStore.close.Given as goal

abbrev pub invariant-loop-v : goal.invariant-loop-v
invariant-loop-v l = record {
  last : IsLast (slots_items l.closed.words) l.seen l.into l.v;
}
