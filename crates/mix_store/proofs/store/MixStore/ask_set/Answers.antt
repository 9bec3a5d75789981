use Rattle.std.proofs.Common.{◌≡◌, sym, ap, ◌∙◌, subst}
use Rattle.bit_domain.specs.Mixes.{Mix}
use Rattle.mix_store.specs.declared.table.View.{View}
use Rattle.mix_store.specs.Domains.{set_of, set_put, AreAlike}
use Rattle.mix_store.specs.Standing.{Stands}
use Rattle.mix_store.proofs.MixLaws.{alike_itself}
use Rattle.mix_store.proofs.Seating.{SetStep, kept_bits, kept_pairs}
use Rattle.mix_store.proofs.Stepping.{has_place, set_place, ready_at, set_seen, set_read, set_alike, set_within}
use Rattle.mix_store.proofs.store.MixStore.ask_set.Goals as goal

pub place-k-requires : goal.place-k-requires
place-k-requires c = has_place c.args.self.now c.args.seat.now c.args.v c.requires.store c.requires.variable.0

pub look-set-requires-clause-table : goal.look-set-requires-clause-table
look-set-requires-clause-table c = c.requires.store.table

pub look-set-requires-clause-inside : goal.look-set-requires-clause-inside
look-set-requires-clause-inside c = (ready_at c.args.self.now c.args.seat.now c.place-k.result c.requires.store (set_place c.args.self.now c.args.seat.now c.args.v c.place-k.result c.requires.store c.requires.variable c.place-k.ensures.value)).0

pub look-set-requires-clause-ready : goal.look-set-requires-clause-ready
look-set-requires-clause-ready c = (ready_at c.args.self.now c.args.seat.now c.place-k.result c.requires.store (set_place c.args.self.now c.args.seat.now c.args.v c.place-k.result c.requires.store c.requires.variable c.place-k.ensures.value)).1

pub put_set-requires-clause-subset : goal.put_set-requires-clause-subset
put_set-requires-clause-subset c = (set_seen c.args.self.now c.args.seat.now c.args.v c.place-k.result c.look-set.result c.look-set.new.place.table_id c.look-set.new.place.me c.requires.store c.requires.variable c.place-k.ensures.value c.look-set.ensures.table c.look-set.ensures.slots c.look-set.ensures.seen).subset

pub invariant_of-seat : goal.invariant_of-seat
invariant_of-seat c = record { stands = subst (λ (m : Mix). Stands c.look-set.new.place.table_id c.look-set.new.place.me m) (sym (c.put_set.ensures)) (set_seen c.args.self.now c.args.seat.now c.args.v c.place-k.result c.look-set.result c.look-set.new.place.table_id c.look-set.new.place.me c.requires.store c.requires.variable c.place-k.ensures.value c.look-set.ensures.table c.look-set.ensures.slots c.look-set.ensures.seen).stands }

-- the step, as the seat sees it
step : (c : goal.After-seat-1) → SetStep c.look-set.new.place.table_id c.look-set.new.place.me c.args.seat.now.seen c.args.v c.look-set.result
step c = set_seen c.args.self.now c.args.seat.now c.args.v c.place-k.result c.look-set.result c.look-set.new.place.table_id c.look-set.new.place.me c.requires.store c.requires.variable c.place-k.ensures.value c.look-set.ensures.table c.look-set.ensures.slots c.look-set.ensures.seen

-- what is then seen
put : (c : goal.After-seat-1) → c.put_set.new.seen ≡ set_put c.args.seat.now.seen c.args.v c.look-set.result
put c = c.put_set.ensures

now : (c : goal.After-seat-1) → set_of c.put_set.new.seen c.args.v ≡ c.look-set.result
now c = set_read c.args.seat.now.seen c.args.v c.look-set.result c.put_set.new.seen c.requires.variable (put c)

same : (c : goal.After-seat-1) → AreAlike c.put_set.new.seen c.args.seat.now.seen
same c = set_alike c.args.seat.now.seen c.args.v c.look-set.result c.put_set.new.seen c.args.seat.now.seen c.requires.variable.0 (put c) (alike_itself c.args.seat.now.seen)

pub returns-clause-inside : goal.returns-clause-inside
returns-clause-inside c = set_within c.args.seat.now.seen c.args.v c.look-set.result c.put_set.new.seen c.requires.variable.0 (put c) (step c).subset

pub returns-clause-value : goal.returns-clause-value
returns-clause-value c = sym (now c)

pub returns-clause-not_behind : goal.returns-clause-not_behind
returns-clause-not_behind c = (step c).subset

pub returns-clause-floor : goal.returns-clause-floor
returns-clause-floor c = (step c).floor

pub returns-clause-seat : goal.returns-clause-seat
returns-clause-seat c = record {
  store = λ m s. record { table = c.look-set.ensures.table ∙ s.table; alike = set_alike c.args.seat.now.seen c.args.v c.look-set.result c.put_set.new.seen m.table.shared.key c.requires.variable.0 (put c) s.alike };
  floor = ap (λ (x : View). x.floor) c.look-set.ensures.seen.view;
  same_length = (same c).same_length;
  bits = kept_bits c.put_set.new.seen c.args.seat.now.seen (same c);
  pairs = kept_pairs c.put_set.new.seen c.args.seat.now.seen (same c);
}
