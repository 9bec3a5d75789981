use Rattle.std.proofs.Common.{ℕ, ◌≡◌, sym, ap, ◌∙◌, subst, arith}
use Rattle.std.specs.Prelude.{bit_and, IfSome}
use Rattle.std.proofs.lemmas.Nat.Bits.{bit_at_and}
use Rattle.bit_domain.specs.Bits.{IsSubset}
use Rattle.bit_domain.specs.Mixes.{Mix}
use Rattle.mix_store.specs.declared.table.View.{View}
use Rattle.mix_store.specs.Domains.{set_of, set_put, AreAlike}
use Rattle.mix_store.specs.Standing.{Stands}
use Rattle.mix_store.proofs.MixLaws.{alike_itself}
use Rattle.mix_store.proofs.Seating.{SetStep, may_set, kept_bits, kept_pairs}
use Rattle.mix_store.proofs.Stepping.{has_place, place_is, set_place, ready_at, set_seen, set_read, set_rests, set_alike, set_within, differ, alike}
use Rattle.mix_store.proofs.store.MixStore.keep_set.Goals as goal

pub place-k-requires : goal.place-k-requires
place-k-requires c = has_place c.args.self.now c.args.seat.now c.args.v c.requires.store c.requires.variable.0

pub keep-found-requires-clause-table : goal.keep-found-requires-clause-table
keep-found-requires-clause-table c = c.requires.store.table

pub keep-found-requires-clause-inside : goal.keep-found-requires-clause-inside
keep-found-requires-clause-inside c = (ready_at c.args.self.now c.args.seat.now c.place-k.result c.requires.store (set_place c.args.self.now c.args.seat.now c.args.v c.place-k.result c.requires.store c.requires.variable c.place-k.ensures.value)).0

pub keep-found-requires-clause-ready : goal.keep-found-requires-clause-ready
keep-found-requires-clause-ready c = (ready_at c.args.self.now c.args.seat.now c.place-k.result c.requires.store (set_place c.args.self.now c.args.seat.now c.args.v c.place-k.result c.requires.store c.requires.variable c.place-k.ensures.value)).1

pub keep-found-requires-clause-kind : goal.keep-found-requires-clause-kind
keep-found-requires-clause-kind c = (may_set c.args.seat.now.place.table_id c.args.seat.now.place.me c.args.seat.now.seen c.args.v c.place-k.result c.args.set c.args.seat.now.stands (c.place-k.ensures.value ∙ place_is c.args.self.now c.args.seat.now c.args.v c.requires.store c.requires.variable.0) c.requires.variable c.requires.floor).0

pub keep-found-requires-clause-word : goal.keep-found-requires-clause-word
keep-found-requires-clause-word c = (may_set c.args.seat.now.place.table_id c.args.seat.now.place.me c.args.seat.now.seen c.args.v c.place-k.result c.args.set c.args.seat.now.stands (c.place-k.ensures.value ∙ place_is c.args.self.now c.args.seat.now c.args.v c.requires.store c.requires.variable.0) c.requires.variable c.requires.floor).1

pub put_set-requires-clause-subset : goal.put_set-requires-clause-subset
put_set-requires-clause-subset c = (set_seen c.args.self.now c.args.seat.now c.args.v c.place-k.result (bit_and c.keep-found.result c.args.set) c.keep-found.new.place.table_id c.keep-found.new.place.me c.requires.store c.requires.variable c.place-k.ensures.value c.keep-found.ensures.table c.keep-found.ensures.slots c.keep-found.ensures.seen).subset

pub invariant_of-seat : goal.invariant_of-seat
invariant_of-seat c = record { stands = subst (λ (m : Mix). Stands c.keep-found.new.place.table_id c.keep-found.new.place.me m) (sym (c.put_set.ensures)) (set_seen c.args.self.now c.args.seat.now c.args.v c.place-k.result (bit_and c.keep-found.result c.args.set) c.keep-found.new.place.table_id c.keep-found.new.place.me c.requires.store c.requires.variable c.place-k.ensures.value c.keep-found.ensures.table c.keep-found.ensures.slots c.keep-found.ensures.seen).stands }

-- the step, as the seat sees it
step : (c : goal.After-seat-1) → SetStep c.keep-found.new.place.table_id c.keep-found.new.place.me c.args.seat.now.seen c.args.v (bit_and c.keep-found.result c.args.set)
step c = set_seen c.args.self.now c.args.seat.now c.args.v c.place-k.result (bit_and c.keep-found.result c.args.set) c.keep-found.new.place.table_id c.keep-found.new.place.me c.requires.store c.requires.variable c.place-k.ensures.value c.keep-found.ensures.table c.keep-found.ensures.slots c.keep-found.ensures.seen

-- what is then seen
put : (c : goal.After-seat-1) → c.put_set.new.seen ≡ set_put c.args.seat.now.seen c.args.v (bit_and c.keep-found.result c.args.set)
put c = c.put_set.ensures

now : (c : goal.After-seat-1) → set_of c.put_set.new.seen c.args.v ≡ (bit_and c.keep-found.result c.args.set)
now c = set_read c.args.seat.now.seen c.args.v (bit_and c.keep-found.result c.args.set) c.put_set.new.seen c.requires.variable (put c)

same : (c : goal.After-seat-1) → AreAlike c.put_set.new.seen c.args.seat.now.seen
same c = set_alike c.args.seat.now.seen c.args.v (bit_and c.keep-found.result c.args.set) c.put_set.new.seen c.args.seat.now.seen c.requires.variable.0 (put c) (alike_itself c.args.seat.now.seen)

pub returns-clause-inside : goal.returns-clause-inside
returns-clause-inside c = set_within c.args.seat.now.seen c.args.v (bit_and c.keep-found.result c.args.set) c.put_set.new.seen c.requires.variable.0 (put c) (step c).subset

pub returns-clause-seen : goal.returns-clause-seen
returns-clause-seen c = put c ∙ ap (set_put c.args.seat.now.seen c.args.v) (sym (now c))

pub returns-clause-not_behind : goal.returns-clause-not_behind
returns-clause-not_behind c = subst (λ (n : ℕ). IsSubset n (set_of c.args.seat.now.seen c.args.v)) (sym (now c)) (step c).subset

pub returns-clause-changed : goal.returns-clause-changed
returns-clause-changed c = λ t e. differ (bit_and c.keep-found.result c.args.set) c.set_at-before.result t (sym (now c) ∙ e ∙ sym c.set_at-before.ensures)

pub returns-clause-unchanged : goal.returns-clause-unchanged
returns-clause-unchanged c = λ t. set_rests c.args.seat.now.seen c.args.v (bit_and c.keep-found.result c.args.set) c.put_set.new.seen (put c) (alike (bit_and c.keep-found.result c.args.set) c.set_at-before.result t ∙ c.set_at-before.ensures)

pub returns-clause-told : goal.returns-clause-told
returns-clause-told c = subst (λ (n : ℕ). IsSubset n c.args.set) (sym (now c)) (λ i. let e = bit_at_and c.keep-found.result c.args.set i in omega arith)

pub returns-clause-floor : goal.returns-clause-floor
returns-clause-floor c = subst (λ (n : ℕ). IfSome c.keep-found.new.place.me.0.floor (λ f. IsSubset (set_of f c.args.v) n)) (sym (now c)) (step c).floor

pub returns-clause-seat : goal.returns-clause-seat
returns-clause-seat c = record {
  store = λ m s. record { table = c.keep-found.ensures.table ∙ s.table; alike = set_alike c.args.seat.now.seen c.args.v (bit_and c.keep-found.result c.args.set) c.put_set.new.seen m.table.shared.key c.requires.variable.0 (put c) s.alike };
  floor = ap (λ (x : View). x.floor) c.keep-found.ensures.seen.view;
  same_length = (same c).same_length;
  bits = kept_bits c.put_set.new.seen c.args.seat.now.seen (same c);
  pairs = kept_pairs c.put_set.new.seen c.args.seat.now.seen (same c);
}
