use Rattle.std.proofs.Common.{ℤ, ◌≡◌, ◌+◌, ◌≤ℤ◌, sym, ap, ◌∙◌, subst, arith}
use Rattle.std.specs.Prelude.{IfSome}
use mir.Val.{to_z, of_z}
use mir.Syntax.{w64}
use Rattle.interval.specs.Limits.{IsBound}
use Rattle.bit_domain.specs.Mixes.{Mix}
use Rattle.mix_store.specs.declared.table.View.{View}
use Rattle.mix_store.specs.Words.{bound_at}
use Rattle.mix_store.specs.Domains.{high_of, high_put, AreAlike}
use Rattle.mix_store.specs.Standing.{Stands}
use Rattle.mix_store.proofs.DistanceLaws.{cast_bound}
use Rattle.mix_store.proofs.MixLaws.{alike_itself}
use Rattle.mix_store.proofs.Seating.{HighStep, kept_bits, kept_pairs}
use Rattle.mix_store.proofs.Stepping.{has_place, high_place, ready_at, high_seen, high_read, high_alike, high_within}
use Rattle.mix_store.proofs.store.MixStore.ask_high.Goals as goal

pub place-k-requires : goal.place-k-requires
place-k-requires c = has_place c.args.self.now c.args.seat.now c.args.v c.requires.store c.requires.variable.0

pub look-word-requires-clause-table : goal.look-word-requires-clause-table
look-word-requires-clause-table c = c.requires.store.table

pub look-word-requires-clause-inside : goal.look-word-requires-clause-inside
look-word-requires-clause-inside c = (ready_at c.args.self.now c.args.seat.now (c.place-k.result + 1) c.requires.store (high_place c.args.self.now c.args.seat.now c.args.v c.place-k.result c.requires.store c.requires.variable c.place-k.ensures.value)).0

pub look-word-requires-clause-ready : goal.look-word-requires-clause-ready
look-word-requires-clause-ready c = (ready_at c.args.self.now c.args.seat.now (c.place-k.result + 1) c.requires.store (high_place c.args.self.now c.args.seat.now c.args.v c.place-k.result c.requires.store c.requires.variable c.place-k.ensures.value)).1

pub overflow_add-k : goal.overflow_add-k
overflow_add-k c = let s = c.place-k.ensures.short in grind arith

pub bound_of-high-requires : goal.bound_of-high-requires
bound_of-high-requires c = (high_seen c.args.self.now c.args.seat.now c.args.v c.place-k.result c.look-word.result c.look-word.new.place.table_id c.look-word.new.place.me c.requires.store c.requires.variable c.place-k.ensures.value c.look-word.ensures.table c.look-word.ensures.slots c.look-word.ensures.seen).word

pub invariant_of-seat : goal.invariant_of-seat
invariant_of-seat c = record { stands = subst (λ (m : Mix). Stands c.look-word.new.place.table_id c.look-word.new.place.me m) (sym (c.put_high.ensures ∙ ap (λ (z : ℤ). high_put c.args.seat.now.seen c.args.v z) (cast_bound c.bound_of-high.result c.bound_of-high.ensures.in_range ∙ c.bound_of-high.ensures.value))) (high_seen c.args.self.now c.args.seat.now c.args.v c.place-k.result c.look-word.result c.look-word.new.place.table_id c.look-word.new.place.me c.requires.store c.requires.variable c.place-k.ensures.value c.look-word.ensures.table c.look-word.ensures.slots c.look-word.ensures.seen).stands }

-- the bound that is then seen
answer : (c : goal.After-seat-1) → to_z w64 (of_z w64 c.bound_of-high.result) ≡ (bound_at c.look-word.result)
answer c = cast_bound c.bound_of-high.result c.bound_of-high.ensures.in_range ∙ c.bound_of-high.ensures.value

-- the step, as the seat sees it
step : (c : goal.After-seat-1) → HighStep c.look-word.new.place.table_id c.look-word.new.place.me c.args.seat.now.seen c.args.v c.look-word.result
step c = high_seen c.args.self.now c.args.seat.now c.args.v c.place-k.result c.look-word.result c.look-word.new.place.table_id c.look-word.new.place.me c.requires.store c.requires.variable c.place-k.ensures.value c.look-word.ensures.table c.look-word.ensures.slots c.look-word.ensures.seen

-- what is then seen
put : (c : goal.After-seat-1) → c.put_high.new.seen ≡ high_put c.args.seat.now.seen c.args.v (bound_at c.look-word.result)
put c = c.put_high.ensures ∙ ap (λ (z : ℤ). high_put c.args.seat.now.seen c.args.v z) (answer c)

now : (c : goal.After-seat-1) → high_of c.put_high.new.seen c.args.v ≡ (bound_at c.look-word.result)
now c = high_read c.args.seat.now.seen c.args.v (bound_at c.look-word.result) c.put_high.new.seen c.requires.variable (put c)

same : (c : goal.After-seat-1) → AreAlike c.put_high.new.seen c.args.seat.now.seen
same c = high_alike c.args.seat.now.seen c.args.v (bound_at c.look-word.result) c.put_high.new.seen c.args.seat.now.seen c.requires.variable.0 (put c) (alike_itself c.args.seat.now.seen)

pub returns-clause-inside : goal.returns-clause-inside
returns-clause-inside c = high_within c.args.seat.now.seen c.args.v (bound_at c.look-word.result) c.put_high.new.seen c.requires.variable.0 (put c) (step c).not_behind

pub returns-clause-value : goal.returns-clause-value
returns-clause-value c = answer c ∙ sym (now c)

pub returns-clause-not_behind : goal.returns-clause-not_behind
returns-clause-not_behind c = subst (λ (z : ℤ). z ≤ℤ high_of c.args.seat.now.seen c.args.v) (sym (answer c)) (step c).not_behind

pub returns-clause-floor : goal.returns-clause-floor
returns-clause-floor c = subst (λ (z : ℤ). IfSome c.look-word.new.place.me.0.floor (λ f. high_of f c.args.v ≤ℤ z)) (sym (answer c)) (step c).floor

pub returns-clause-in_range : goal.returns-clause-in_range
returns-clause-in_range c = subst IsBound (sym (cast_bound c.bound_of-high.result c.bound_of-high.ensures.in_range)) c.bound_of-high.ensures.in_range

pub returns-clause-seat : goal.returns-clause-seat
returns-clause-seat c = record {
  store = λ m s. record { table = c.look-word.ensures.table ∙ s.table; alike = high_alike c.args.seat.now.seen c.args.v (bound_at c.look-word.result) c.put_high.new.seen m.table.shared.key c.requires.variable.0 (put c) s.alike };
  floor = ap (λ (x : View). x.floor) c.look-word.ensures.seen.view;
  same_length = (same c).same_length;
  bits = kept_bits c.put_high.new.seen c.args.seat.now.seen (same c);
  pairs = kept_pairs c.put_high.new.seen c.args.seat.now.seen (same c);
}
