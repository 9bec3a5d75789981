use Rattle.std.proofs.Common.{ℕ, ◌≡◌, sym, ap, ◌∙◌, subst, length, arith}
use Rattle.atomic_table.specs.Table.{Me}
use Rattle.bit_domain.specs.Mixes.{Mix}
use Rattle.mix_store.specs.declared.table.View.{View}
use Rattle.mix_store.specs.Domains.{AreAlike}
use Rattle.mix_store.specs.Rule.{merged, IsOwn}
use Rattle.mix_store.specs.Standing.{Stands}
use Rattle.mix_store.proofs.MixLaws.{kinds-length, alike_itself}
use Rattle.mix_store.proofs.Moves.{learns}
use Rattle.mix_store.proofs.Parting.{joins}
use Rattle.mix_store.proofs.Seating.{kept_bits, kept_pairs}
use Rattle.mix_store.proofs.Joining.{alike_both, tighter_alike, joined_stands, tighter_within}
use Rattle.mix_store.proofs.store.MixStore.join_back.Goals as goal

pub join_seat-requires : goal.join_seat-requires
join_seat-requires c =
    let s = c.args.seat.now.stands in
    let t = c.args.other.stands in
    (c.requires.store.table, c.requires.other_store.table, t.empty, c.args.self.now.spare, joins c.args.seat.now.place.id c.args.seat.now.place.me.0 c.args.other.place.id c.args.other.place.me.0 s.live t.live s.fresh (let k = ap length s.kinds_is in let w = ap length s.seen_is in let l = kinds-length c.args.seat.now.seen in omega arith))

pub load-requires : goal.load-requires
load-requires c = (c.join_seat.ensures.0 ∙ c.requires.store.table, c.args.self.now.spare, learns c.args.self.now.table.shared.table_id.slots c.join_seat.new.seat.id c.join_seat.new.seat.me (ap (λ (m : Me ℕ View). m.0.live) c.join_seat.ensures.2 ∙ c.args.seat.now.stands.live))

pub keep_tighter-requires : goal.keep_tighter-requires
keep_tighter-requires c = (alike_both c.args.other.seen c.args.seat.now.seen c.args.self.now.table.shared.key c.requires.other_store.alike c.requires.store.alike).same_length

pub invariant_of-seat : goal.invariant_of-seat
invariant_of-seat c = record {
  stands = subst (λ (m : Mix). Stands c.load.new.seat.table_id c.load.new.seat.me m) (sym c.keep_tighter.ensures)
      (joined_stands c.load.new.seat.table_id c.args.seat.now.place.table_id c.args.other.place.table_id c.load.new.seat.me c.args.seat.now.place.me c.args.other.place.me c.args.seat.now.seen c.args.other.seen (c.load.ensures.0 ∙ c.join_seat.ensures.0) (c.load.ensures.2.0 ∙ ap (λ (m : Me ℕ View). m.1) c.join_seat.ensures.2) (c.load.ensures.2.1 ∙ ap (λ (m : Me ℕ View). m.0) c.join_seat.ensures.2) c.args.seat.now.stands c.args.other.stands (alike_both c.args.other.seen c.args.seat.now.seen c.args.self.now.table.shared.key c.requires.other_store.alike c.requires.store.alike) (subst (λ (x : View). IsOwn x) (sym c.load.ensures.2.1) c.load.ensures.2.2));
}

both : (c : goal.After-drop-seen-inside) → AreAlike c.args.other.seen c.args.seat.now.seen
both c = alike_both c.args.other.seen c.args.seat.now.seen c.args.self.now.table.shared.key c.requires.other_store.alike c.requires.store.alike

view : (c : goal.After-drop-seen-inside) → c.load.new.seat.me.0 ≡ merged c.args.seat.now.place.me.0 c.args.other.place.me.0
view c = c.load.ensures.2.1 ∙ ap (λ (m : Me ℕ View). m.0) c.join_seat.ensures.2

same : (c : goal.After-drop-seen-inside) → AreAlike c.keep_tighter.new.seen c.args.seat.now.seen
same c = subst (λ (x : Mix). AreAlike x c.args.seat.now.seen) (sym c.keep_tighter.ensures) (tighter_alike c.args.seat.now.seen c.args.other.seen c.args.seat.now.seen (both c).same_length (alike_itself c.args.seat.now.seen))

pub returns-clause-inside : goal.returns-clause-inside
returns-clause-inside c = (tighter_within c.args.seat.now.seen c.args.other.seen c.keep_tighter.new.seen (both c) c.keep_tighter.ensures).0

pub returns-clause-inside_other : goal.returns-clause-inside_other
returns-clause-inside_other c = (tighter_within c.args.seat.now.seen c.args.other.seen c.keep_tighter.new.seen (both c) c.keep_tighter.ensures).1

pub returns-clause-same : goal.returns-clause-same
returns-clause-same c = record {
  store = λ m s. record { table = c.load.ensures.0 ∙ c.join_seat.ensures.0 ∙ s.table; alike = subst (λ (x : Mix). AreAlike x m.table.shared.key) (sym c.keep_tighter.ensures) (tighter_alike c.args.seat.now.seen c.args.other.seen m.table.shared.key (both c).same_length s.alike) };
  floor = ap (λ (x : View). x.floor) (view c);
  same_length = (same c).same_length;
  bits = kept_bits c.keep_tighter.new.seen c.args.seat.now.seen (same c);
  pairs = kept_pairs c.keep_tighter.new.seen c.args.seat.now.seen (same c);
}
