use Rattle.std.proofs.Common.{ℕ, ℤ, ◌≡◌, ◌+◌, ◌*◌, ◌≤◌, ◌≤ℤ◌, min, sym, ap, ◌∙◌, subst, arith}
use Rattle.std.specs.Prelude.{IfSome}
use mir.Val.{to_z, of_z}
use mir.Syntax.{w64}
use Rattle.interval.specs.Limits.{IsBound, bound_limit}
use Rattle.bit_domain.specs.Mixes.{Mix, dom_of}
use Rattle.mix_store.specs.declared.table.View.{View}
use Rattle.mix_store.specs.Words.{distance, bound_at}
use Rattle.mix_store.specs.Domains.{high_of, high_put, AreAlike}
use Rattle.mix_store.specs.Standing.{Stands}
use Rattle.mix_store.proofs.DistanceLaws.{cast_bound, over_min}
use Rattle.mix_store.proofs.MixLaws.{alike_itself}
use Rattle.mix_store.proofs.Seating.{HighStep, may_high, kept_bits, kept_pairs, lawful_bounds}
use Rattle.mix_store.proofs.Stepping.{has_place, place_is, high_place, ready_at, high_seen, high_read, high_rests, high_alike, high_within, stays_back}
use Rattle.mix_store.proofs.store.MixStore.tell_high.Goals as goal

pub place-k-requires : goal.place-k-requires
place-k-requires c = has_place c.args.self.now c.args.seat.now c.args.v c.requires.store c.requires.variable.0

pub lower-found-requires-clause-table : goal.lower-found-requires-clause-table
lower-found-requires-clause-table c = c.requires.store.table

pub lower-found-requires-clause-inside : goal.lower-found-requires-clause-inside
lower-found-requires-clause-inside c = (ready_at c.args.self.now c.args.seat.now (c.place-k.result + 1) c.requires.store (high_place c.args.self.now c.args.seat.now c.args.v c.place-k.result c.requires.store c.requires.variable c.place-k.ensures.value)).0

pub lower-found-requires-clause-ready : goal.lower-found-requires-clause-ready
lower-found-requires-clause-ready c = (ready_at c.args.self.now c.args.seat.now (c.place-k.result + 1) c.requires.store (high_place c.args.self.now c.args.seat.now c.args.v c.place-k.result c.requires.store c.requires.variable c.place-k.ensures.value)).1

pub overflow_add-k : goal.overflow_add-k
overflow_add-k c = let s = c.place-k.ensures.short in grind arith

pub lower-found-requires-clause-kind : goal.lower-found-requires-clause-kind
lower-found-requires-clause-kind c = (may_high c.args.seat.now.place.table_id c.args.seat.now.place.me c.args.seat.now.seen c.args.v (c.place-k.result + 1) c.distance_of-word.result c.args.value c.args.seat.now.stands (let e = c.place-k.ensures.value in let p = place_is c.args.self.now c.args.seat.now c.args.v c.requires.store c.requires.variable.0 in omega arith) c.requires.variable c.requires.in_range (c.distance_of-word.ensures.value ∙ ap distance (cast_bound c.args.value c.requires.in_range)) c.requires.floor).0

pub lower-found-requires-clause-word : goal.lower-found-requires-clause-word
lower-found-requires-clause-word c = (may_high c.args.seat.now.place.table_id c.args.seat.now.place.me c.args.seat.now.seen c.args.v (c.place-k.result + 1) c.distance_of-word.result c.args.value c.args.seat.now.stands (let e = c.place-k.ensures.value in let p = place_is c.args.self.now c.args.seat.now c.args.v c.requires.store c.requires.variable.0 in omega arith) c.requires.variable c.requires.in_range (c.distance_of-word.ensures.value ∙ ap distance (cast_bound c.args.value c.requires.in_range)) c.requires.floor).1

pub bound_of-high-requires : goal.bound_of-high-requires
bound_of-high-requires c = subst (λ (n : ℕ). n ≤ 2 * bound_limit) (sym c.min.ensures) (high_seen c.args.self.now c.args.seat.now c.args.v c.place-k.result (min c.lower-found.result c.distance_of-word.result) c.lower-found.new.place.table_id c.lower-found.new.place.me c.requires.store c.requires.variable c.place-k.ensures.value c.lower-found.ensures.table c.lower-found.ensures.slots c.lower-found.ensures.seen).word

pub invariant_of-seat : goal.invariant_of-seat
invariant_of-seat c = record { stands = subst (λ (m : Mix). Stands c.lower-found.new.place.table_id c.lower-found.new.place.me m) (sym (c.put_high.ensures ∙ ap (λ (z : ℤ). high_put c.args.seat.now.seen c.args.v z) (cast_bound c.bound_of-high.result c.bound_of-high.ensures.in_range ∙ c.bound_of-high.ensures.value ∙ ap bound_at c.min.ensures))) (high_seen c.args.self.now c.args.seat.now c.args.v c.place-k.result (min c.lower-found.result c.distance_of-word.result) c.lower-found.new.place.table_id c.lower-found.new.place.me c.requires.store c.requires.variable c.place-k.ensures.value c.lower-found.ensures.table c.lower-found.ensures.slots c.lower-found.ensures.seen).stands }

-- the bound that is then seen
answer : (c : goal.After-seat-1) → to_z w64 (of_z w64 c.bound_of-high.result) ≡ (bound_at (min c.lower-found.result c.distance_of-word.result))
answer c = cast_bound c.bound_of-high.result c.bound_of-high.ensures.in_range ∙ c.bound_of-high.ensures.value ∙ ap bound_at c.min.ensures

-- the step, as the seat sees it
step : (c : goal.After-seat-1) → HighStep c.lower-found.new.place.table_id c.lower-found.new.place.me c.args.seat.now.seen c.args.v (min c.lower-found.result c.distance_of-word.result)
step c = high_seen c.args.self.now c.args.seat.now c.args.v c.place-k.result (min c.lower-found.result c.distance_of-word.result) c.lower-found.new.place.table_id c.lower-found.new.place.me c.requires.store c.requires.variable c.place-k.ensures.value c.lower-found.ensures.table c.lower-found.ensures.slots c.lower-found.ensures.seen

-- what is then seen
put : (c : goal.After-seat-1) → c.put_high.new.seen ≡ high_put c.args.seat.now.seen c.args.v (bound_at (min c.lower-found.result c.distance_of-word.result))
put c = c.put_high.ensures ∙ ap (λ (z : ℤ). high_put c.args.seat.now.seen c.args.v z) (answer c)

now : (c : goal.After-seat-1) → high_of c.put_high.new.seen c.args.v ≡ (bound_at (min c.lower-found.result c.distance_of-word.result))
now c = high_read c.args.seat.now.seen c.args.v (bound_at (min c.lower-found.result c.distance_of-word.result)) c.put_high.new.seen c.requires.variable (put c)

same : (c : goal.After-seat-1) → AreAlike c.put_high.new.seen c.args.seat.now.seen
same c = high_alike c.args.seat.now.seen c.args.v (bound_at (min c.lower-found.result c.distance_of-word.result)) c.put_high.new.seen c.args.seat.now.seen c.requires.variable.0 (put c) (alike_itself c.args.seat.now.seen)

-- the bound that was seen before
was : (c : goal.After-seat-1) → to_z w64 (of_z w64 c.high_at-before.result) ≡ high_of c.args.seat.now.seen c.args.v
was c = cast_bound c.high_at-before.result (subst IsBound (sym c.high_at-before.ensures) (lawful_bounds (dom_of c.args.seat.now.seen c.args.v) (c.args.seat.now.stands.lawful.doms c.args.v c.requires.variable.0) c.requires.variable.1).1) ∙ c.high_at-before.ensures

pub returns-clause-inside : goal.returns-clause-inside
returns-clause-inside c = high_within c.args.seat.now.seen c.args.v (bound_at (min c.lower-found.result c.distance_of-word.result)) c.put_high.new.seen c.requires.variable.0 (put c) (step c).not_behind

pub returns-clause-seen : goal.returns-clause-seen
returns-clause-seen c = put c ∙ ap (λ (z : ℤ). high_put c.args.seat.now.seen c.args.v z) (sym (now c))

pub returns-clause-unchanged : goal.returns-clause-unchanged
returns-clause-unchanged c = λ t. high_rests c.args.seat.now.seen c.args.v (bound_at (min c.lower-found.result c.distance_of-word.result)) c.put_high.new.seen (put c) (stays_back _ _ (bound_at (min c.lower-found.result c.distance_of-word.result)) (high_of c.args.seat.now.seen c.args.v) (answer c) (was c) t (step c).not_behind)

pub returns-clause-told : goal.returns-clause-told
returns-clause-told c = subst (λ (z : ℤ). z ≤ℤ c.args.value) (sym (now c)) (over_min c.args.value (min c.lower-found.result c.distance_of-word.result) c.requires.in_range (let e = (c.distance_of-word.ensures.value ∙ ap distance (cast_bound c.args.value c.requires.in_range)) in omega arith))

pub returns-clause-floor : goal.returns-clause-floor
returns-clause-floor c = subst (λ (z : ℤ). IfSome c.lower-found.new.place.me.0.floor (λ f. high_of f c.args.v ≤ℤ z)) (sym (now c)) (step c).floor

pub returns-clause-seat : goal.returns-clause-seat
returns-clause-seat c = record {
  store = λ m s. record { table = c.lower-found.ensures.table ∙ s.table; alike = high_alike c.args.seat.now.seen c.args.v (bound_at (min c.lower-found.result c.distance_of-word.result)) c.put_high.new.seen m.table.shared.key c.requires.variable.0 (put c) s.alike };
  floor = ap (λ (x : View). x.floor) c.lower-found.ensures.seen.view;
  same_length = (same c).same_length;
  bits = kept_bits c.put_high.new.seen c.args.seat.now.seen (same c);
  pairs = kept_pairs c.put_high.new.seen c.args.seat.now.seen (same c);
}
