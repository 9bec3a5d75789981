use Rattle.std.proofs.Common.{ℕ, ◌≡◌, true≢false, refl, sym, ap, ◌∙◌, subst, arith, length}
use Rattle.atomic_table.specs.Table.{Me}
use Rattle.atomic_table.specs.Seated.{TableId}
use Rattle.lattice_store.specs.declared.table.View.{View}
use Rattle.lattice_store.specs.Words.{box_of}
use Rattle.lattice_store.specs.Rule.{merged, IsOwn}
use Rattle.lattice_store.proofs.Seating.{is_ready, stands_at}
use Rattle.lattice_store.proofs.Openings.{learns}
use Rattle.lattice_store.proofs.Parting.{joins}
use Rattle.lattice_store.proofs.Joining.{joined_stands, box-greater, either_left, either_right}
use Rattle.lattice_store.proofs.store.Store.join_back.Goals as goal
use Rattle.lattice_store.proofs.store.Store.join_back.Goals.{After-one_of-seat}

pub join_seat-requires : goal.join_seat-requires
join_seat-requires c = (c.requires.store, c.requires.other_store, c.args.other.stands.empty, c.args.self.now.spare, joins c.args.seat.now.place.id c.args.seat.now.place.me.0 c.args.other.place.id c.args.other.place.me.0 (is_ready _ _ _ _ _ c.args.seat.now.stands) (is_ready _ _ _ _ _ c.args.other.stands) (c.args.seat.now.stands.epoch_is ∙ sym c.requires.epoch ∙ sym c.args.other.stands.epoch_is))

pub load-requires : goal.load-requires
load-requires c = (c.join_seat.ensures.0 ∙ c.requires.store, c.args.self.now.spare, learns c.args.self.now.table.shared.table_id.slots c.join_seat.new.seat.id c.join_seat.new.seat.me (ap (λ (m : Me ℕ View). m.0.live) c.join_seat.ensures.2 ∙ c.args.seat.now.stands.live))

view : (c : After-one_of-seat) → c.load.new.seat.me.0 ≡ merged c.args.seat.now.place.me.0 c.args.other.place.me.0
view c = c.load.ensures.2.1 ∙ ap (λ (m : Me ℕ View). m.0) c.join_seat.ensures.2

pub invariant_of-seat : goal.invariant_of-seat
invariant_of-seat c = record {
  in_range = c.args.seat.now.in_range;
  origin_is = c.args.seat.now.origin_is;
  stands = stands_at c.load.new.seat.table_id c.load.new.seat.table_id c.load.new.seat.me _ _ c.args.seat.now.epoch _ _ refl c.keep_greater.ensures c.one_of-seat.ensures
      (joined_stands c.load.new.seat.table_id c.args.seat.now.place.table_id c.args.other.place.table_id c.load.new.seat.me c.args.seat.now.place.me c.args.other.place.me c.args.seat.now.seen.items c.args.other.seen.items c.args.seat.now.epoch c.args.other.epoch c.args.seat.now.past c.args.other.past (c.load.ensures.0 ∙ c.join_seat.ensures.0) (c.requires.store ∙ sym c.requires.other_store) c.args.seat.now.stands c.args.other.stands (c.load.ensures.2.0 ∙ ap (λ (m : Me ℕ View). m.1) c.join_seat.ensures.2) (view c) (subst (λ (x : View). IsOwn x) (sym c.load.ensures.2.1) c.load.ensures.2.2));
}

pub returns-clause-seen : goal.returns-clause-seen
returns-clause-seen c =
    let s = c.args.seat.now.stands in
    let t = c.args.other.stands in
    let len : length c.args.other.seen.items ≡ length c.args.seat.now.seen.items = t.length_is ∙ ap (λ (x : TableId). x.words) (c.requires.other_store ∙ sym c.requires.store) ∙ sym s.length_is in
    ap box_of c.keep_greater.ensures ∙ box-greater c.args.seat.now.seen.items c.args.other.seen.items len (λ k one lt. (s.own k one lt).epoch_is ∙ sym c.requires.epoch ∙ sym (t.own k one (omega arith)).epoch_is)

pub returns-clause-never_past : goal.returns-clause-never_past
returns-clause-never_past c = λ first past.
    let own = c.load.ensures.2.2 in
    let joined : c.join_seat.new.seat.me.0 ≡ merged c.args.seat.now.place.me.0 c.args.other.place.me.0 = ap (λ (m : Me ℕ View). m.0) c.join_seat.ensures.2 in
    let not = own.first_is_not_past (ap (λ (x : View). x.first) joined ∙ first) in
    true≢false (sym (either_right c.args.seat.now.place.me.0.past c.args.other.place.me.0.past (c.args.other.stands.past_is ∙ past)) ∙ sym (ap (λ (x : View). x.past) joined) ∙ not)

pub returns-clause-same : goal.returns-clause-same
returns-clause-same c =
    let view : c.load.new.seat.me.0 ≡ merged c.args.seat.now.place.me.0 c.args.other.place.me.0 = c.load.ensures.2.1 ∙ ap (λ (m : Me ℕ View). m.0) c.join_seat.ensures.2 in record {
      store = c.load.ensures.0 ∙ c.join_seat.ensures.0;
      epoch = refl;
      floor = ap (λ (x : View). x.floor) view;
      first = ap (λ (x : View). x.first) view;
      past = λ p. c.one_of-seat.ensures ∙ either_left c.args.seat.now.past c.args.other.past p;
    }
