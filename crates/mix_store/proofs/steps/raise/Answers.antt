use Rattle.std.proofs.Common.{ap, subst}
use Rattle.std.specs.Prelude.{max}
use Rattle.mix_store.specs.declared.table.WordKind.{WordKind}
use Rattle.mix_store.specs.Order.{join_of}
use Rattle.mix_store.specs.Rule.{Notes}
use Rattle.mix_store.proofs.Moves.{tells}
use Rattle.mix_store.proofs.steps.raise.Goals as goal

pub fetch_max-requires : goal.fetch_max-requires
unfolding join_of
fetch_max-requires c =
    let me = c.args.place.now.me in
    let r = c.requires in
    (r.table, r.inside, tells c.args.table.now.shared.table_id.slots c.args.place.now.id c.args.k c.args.word me (λ n. max n c.args.word) r.ready r.word (λ n. ap (λ (kind : WordKind). join_of kind n c.args.word) r.kind))

pub returns-clause-seen : goal.returns-clause-seen
unfolding join_of
returns-clause-seen c = subst (λ (kind : WordKind). Notes c.args.place.now.me.0 c.args.k (join_of kind c.fetch_max.result c.args.word) c.fetch_max.new.seat.me.0) c.requires.kind c.fetch_max.ensures.2.1
