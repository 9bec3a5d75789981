use Rattle.std.proofs.Common.{ℕ, ◌<◌, refl, sym, ap, subst, arith, length}
use Rattle.lattice_store.specs.Rule.{Notes}
use Rattle.lattice_store.proofs.Telling.{tells}
use Rattle.lattice_store.proofs.Seating.{is_ready, still_stands, stands_at}
use Rattle.lattice_store.proofs.Moving.{moved, heard}
use Rattle.lattice_store.proofs.store.Store.raise.Goals as goal

pub join-found-requires-clause-place : goal.join-found-requires-clause-place
join-found-requires-clause-place c =
    let l = c.args.seat.now.stands.length_is in let h = c.requires.inside in let z = ap (λ x. x.words) c.requires.store in omega arith

pub join-found-requires-clause-lawful : goal.join-found-requires-clause-lawful
join-found-requires-clause-lawful c =
    let s = c.args.seat.now.stands in
    let inside : c.args.k < length c.args.seat.now.place.me.0.seen = let e = ap length s.seen_is in let h = c.requires.inside in omega arith in
    tells c.args.self.now.table.shared.table_id.slots c.args.seat.now.place.id c.args.k c.args.word c.args.seat.now.place.me (is_ready _ _ _ _ _ s) c.requires.above inside c.requires.word

pub invariant_of-seat : goal.invariant_of-seat
invariant_of-seat c =
    let s = c.args.seat.now.stands in
    let step : Notes c.args.seat.now.place.me.0 c.args.k c.max.result c.join-found.new.place.me.0 = subst (λ (n : ℕ). Notes c.args.seat.now.place.me.0 c.args.k n c.join-found.new.place.me.0) (sym c.max.ensures) c.join-found.ensures.seen in record {
      in_range = c.args.seat.now.in_range;
      origin_is = c.args.seat.now.origin_is;
      stands = stands_at _ _ c.join-found.new.place.me _ _ c.args.seat.now.epoch _ _ c.join-found.ensures.table c.note.ensures.seen c.note.ensures.past (still_stands _ c.args.seat.now.place.me c.join-found.new.place.me c.args.seat.now.seen.items c.args.seat.now.epoch c.args.seat.now.past c.args.k c.max.result s c.join-found.ensures.slots step c.requires.above c.requires.inside);
    }

pub returns : goal.returns
returns c =
    let step : Notes c.args.seat.now.place.me.0 c.args.k c.max.result c.join-found.new.place.me.0 = subst (λ (n : ℕ). Notes c.args.seat.now.place.me.0 c.args.k n c.join-found.new.place.me.0) (sym c.max.ensures) c.join-found.ensures.seen in record {
      moved = moved c.args.seat.now _ c.args.k c.max.result c.join-found.ensures.table refl step c.note.ensures.seen c.note.ensures.past c.requires.inside;
      told = λ not. let e = heard c.args.seat.now c.note.new.seen.items c.note.new.past c.args.k c.max.result c.note.ensures.seen c.note.ensures.past c.requires.inside not in let m = c.max.ensures in omega arith;
    }
