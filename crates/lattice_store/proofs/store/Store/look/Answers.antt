use Rattle.std.proofs.Common.{◌<◌, refl, ap, arith, length}
use Rattle.lattice_store.proofs.Telling.{asks}
use Rattle.lattice_store.proofs.Seating.{is_ready, still_stands, stands_at}
use Rattle.lattice_store.proofs.Moving.{moved}
use Rattle.lattice_store.proofs.store.Store.look.Goals as goal
use Rattle.lattice_store.proofs.store.Store.look.Goals.{Start, After-note}

pub load-word-requires : goal.load-word-requires
load-word-requires c =
    let s = c.args.seat.now.stands in
    let inside : c.args.k < length c.args.seat.now.place.me.0.seen = let e = ap length s.seen_is in let h = c.requires.inside in omega arith in
    (c.requires.store, (let l = s.length_is in let h = c.requires.inside in let z = ap (λ x. x.words) c.requires.store in omega arith), asks c.args.self.now.table.shared.table_id.slots c.args.seat.now.place.id c.args.k c.args.seat.now.place.me (is_ready _ _ _ _ _ s) c.requires.above inside)

pub invariant_of-seat : goal.invariant_of-seat
invariant_of-seat c =
    let s = c.args.seat.now.stands in
    let step = c.load-word.ensures.2 in record {
      in_range = c.args.seat.now.in_range;
      origin_is = c.args.seat.now.origin_is;
      stands = stands_at _ _ c.load-word.new.seat.me _ _ c.args.seat.now.epoch _ _ c.load-word.ensures.0 c.note.ensures.seen c.note.ensures.past (still_stands _ c.args.seat.now.place.me c.load-word.new.seat.me c.args.seat.now.seen.items c.args.seat.now.epoch c.args.seat.now.past c.args.k c.load-word.result s step.0 step.1 c.requires.above c.requires.inside);
    }

pub returns : goal.returns
returns c = moved c.args.seat.now _ c.args.k c.load-word.result c.load-word.ensures.0 refl c.load-word.ensures.2.1 c.note.ensures.seen c.note.ensures.past c.requires.inside
