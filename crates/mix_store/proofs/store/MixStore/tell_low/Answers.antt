use Rattle.std.proofs.Common.{ℕ, ℤ, ◌≡◌, ◌*◌, ◌≤◌, ◌≤ℤ◌, max, sym, ap, ◌∙◌, subst, arith}
use Rattle.std.specs.Prelude.{IfSome}
use mir.Val.{to_z, of_z}
use mir.Syntax.{w64}
use Rattle.interval.specs.Limits.{IsBound, bound_limit}
use Rattle.bit_domain.specs.Mixes.{Mix, dom_of}
use Rattle.mix_store.specs.declared.table.View.{View}
use Rattle.mix_store.specs.Words.{distance, bound_at}
use Rattle.mix_store.specs.Domains.{low_of, low_put, AreAlike}
use Rattle.mix_store.specs.Standing.{Stands}
use Rattle.mix_store.proofs.DistanceLaws.{cast_bound, under}
use Rattle.mix_store.proofs.MixLaws.{alike_itself}
use Rattle.mix_store.proofs.Seating.{LowStep, may_low, kept_bits, kept_pairs, lawful_bounds}
use Rattle.mix_store.proofs.Stepping.{has_place, place_is, low_place, ready_at, low_seen, low_read, low_rests, low_alike, low_within, stays}
use Rattle.mix_store.proofs.store.MixStore.tell_low.Goals as goal

pub place-k-requires : goal.place-k-requires
place-k-requires c = has_place c.args.self.now c.args.seat.now c.args.v c.requires.store c.requires.variable.0

pub raise-found-requires-clause-table : goal.raise-found-requires-clause-table
raise-found-requires-clause-table c = c.requires.store.table

pub raise-found-requires-clause-inside : goal.raise-found-requires-clause-inside
raise-found-requires-clause-inside c = (ready_at c.args.self.now c.args.seat.now c.place-k.result c.requires.store (low_place c.args.self.now c.args.seat.now c.args.v c.place-k.result c.requires.store c.requires.variable c.place-k.ensures.value)).0

pub raise-found-requires-clause-ready : goal.raise-found-requires-clause-ready
raise-found-requires-clause-ready c = (ready_at c.args.self.now c.args.seat.now c.place-k.result c.requires.store (low_place c.args.self.now c.args.seat.now c.args.v c.place-k.result c.requires.store c.requires.variable c.place-k.ensures.value)).1

pub raise-found-requires-clause-kind : goal.raise-found-requires-clause-kind
raise-found-requires-clause-kind c = (may_low c.args.seat.now.place.table_id c.args.seat.now.place.me c.args.seat.now.seen c.args.v c.place-k.result c.distance_of-word.result c.args.value c.args.seat.now.stands (c.place-k.ensures.value ∙ place_is c.args.self.now c.args.seat.now c.args.v c.requires.store c.requires.variable.0) c.requires.variable c.requires.in_range (c.distance_of-word.ensures.value ∙ ap distance (cast_bound c.args.value c.requires.in_range)) c.requires.floor).0

pub raise-found-requires-clause-word : goal.raise-found-requires-clause-word
raise-found-requires-clause-word c = (may_low c.args.seat.now.place.table_id c.args.seat.now.place.me c.args.seat.now.seen c.args.v c.place-k.result c.distance_of-word.result c.args.value c.args.seat.now.stands (c.place-k.ensures.value ∙ place_is c.args.self.now c.args.seat.now c.args.v c.requires.store c.requires.variable.0) c.requires.variable c.requires.in_range (c.distance_of-word.ensures.value ∙ ap distance (cast_bound c.args.value c.requires.in_range)) c.requires.floor).1

pub bound_of-low-requires : goal.bound_of-low-requires
bound_of-low-requires c = subst (λ (n : ℕ). n ≤ 2 * bound_limit) (sym c.max.ensures) (low_seen c.args.self.now c.args.seat.now c.args.v c.place-k.result (max c.raise-found.result c.distance_of-word.result) c.raise-found.new.place.table_id c.raise-found.new.place.me c.requires.store c.requires.variable c.place-k.ensures.value c.raise-found.ensures.table c.raise-found.ensures.slots c.raise-found.ensures.seen).word

pub invariant_of-seat : goal.invariant_of-seat
invariant_of-seat c = record { stands = subst (λ (m : Mix). Stands c.raise-found.new.place.table_id c.raise-found.new.place.me m) (sym (c.put_low.ensures ∙ ap (λ (z : ℤ). low_put c.args.seat.now.seen c.args.v z) (cast_bound c.bound_of-low.result c.bound_of-low.ensures.in_range ∙ c.bound_of-low.ensures.value ∙ ap bound_at c.max.ensures))) (low_seen c.args.self.now c.args.seat.now c.args.v c.place-k.result (max c.raise-found.result c.distance_of-word.result) c.raise-found.new.place.table_id c.raise-found.new.place.me c.requires.store c.requires.variable c.place-k.ensures.value c.raise-found.ensures.table c.raise-found.ensures.slots c.raise-found.ensures.seen).stands }

-- the bound that is then seen
answer : (c : goal.After-seat-1) → to_z w64 (of_z w64 c.bound_of-low.result) ≡ (bound_at (max c.raise-found.result c.distance_of-word.result))
answer c = cast_bound c.bound_of-low.result c.bound_of-low.ensures.in_range ∙ c.bound_of-low.ensures.value ∙ ap bound_at c.max.ensures

-- the step, as the seat sees it
step : (c : goal.After-seat-1) → LowStep c.raise-found.new.place.table_id c.raise-found.new.place.me c.args.seat.now.seen c.args.v (max c.raise-found.result c.distance_of-word.result)
step c = low_seen c.args.self.now c.args.seat.now c.args.v c.place-k.result (max c.raise-found.result c.distance_of-word.result) c.raise-found.new.place.table_id c.raise-found.new.place.me c.requires.store c.requires.variable c.place-k.ensures.value c.raise-found.ensures.table c.raise-found.ensures.slots c.raise-found.ensures.seen

-- what is then seen
put : (c : goal.After-seat-1) → c.put_low.new.seen ≡ low_put c.args.seat.now.seen c.args.v (bound_at (max c.raise-found.result c.distance_of-word.result))
put c = c.put_low.ensures ∙ ap (λ (z : ℤ). low_put c.args.seat.now.seen c.args.v z) (answer c)

now : (c : goal.After-seat-1) → low_of c.put_low.new.seen c.args.v ≡ (bound_at (max c.raise-found.result c.distance_of-word.result))
now c = low_read c.args.seat.now.seen c.args.v (bound_at (max c.raise-found.result c.distance_of-word.result)) c.put_low.new.seen c.requires.variable (put c)

same : (c : goal.After-seat-1) → AreAlike c.put_low.new.seen c.args.seat.now.seen
same c = low_alike c.args.seat.now.seen c.args.v (bound_at (max c.raise-found.result c.distance_of-word.result)) c.put_low.new.seen c.args.seat.now.seen c.requires.variable.0 (put c) (alike_itself c.args.seat.now.seen)

-- the bound that was seen before
was : (c : goal.After-seat-1) → to_z w64 (of_z w64 c.low_at-before.result) ≡ low_of c.args.seat.now.seen c.args.v
was c = cast_bound c.low_at-before.result (subst IsBound (sym c.low_at-before.ensures) (lawful_bounds (dom_of c.args.seat.now.seen c.args.v) (c.args.seat.now.stands.lawful.doms c.args.v c.requires.variable.0) c.requires.variable.1).0) ∙ c.low_at-before.ensures

pub returns-clause-inside : goal.returns-clause-inside
returns-clause-inside c = low_within c.args.seat.now.seen c.args.v (bound_at (max c.raise-found.result c.distance_of-word.result)) c.put_low.new.seen c.requires.variable.0 (put c) (step c).not_behind

pub returns-clause-seen : goal.returns-clause-seen
returns-clause-seen c = put c ∙ ap (λ (z : ℤ). low_put c.args.seat.now.seen c.args.v z) (sym (now c))

pub returns-clause-unchanged : goal.returns-clause-unchanged
returns-clause-unchanged c = λ t. low_rests c.args.seat.now.seen c.args.v (bound_at (max c.raise-found.result c.distance_of-word.result)) c.put_low.new.seen (put c) (stays _ _ (low_of c.args.seat.now.seen c.args.v) (bound_at (max c.raise-found.result c.distance_of-word.result)) (was c) (answer c) t (step c).not_behind)

pub returns-clause-told : goal.returns-clause-told
returns-clause-told c = subst (λ (z : ℤ). c.args.value ≤ℤ z) (sym (now c)) (under c.args.value (max c.raise-found.result c.distance_of-word.result) (let e = (c.distance_of-word.ensures.value ∙ ap distance (cast_bound c.args.value c.requires.in_range)) in omega arith))

pub returns-clause-floor : goal.returns-clause-floor
returns-clause-floor c = subst (λ (z : ℤ). IfSome c.raise-found.new.place.me.0.floor (λ f. z ≤ℤ low_of f c.args.v)) (sym (now c)) (step c).floor

pub returns-clause-seat : goal.returns-clause-seat
returns-clause-seat c = record {
  store = λ m s. record { table = c.raise-found.ensures.table ∙ s.table; alike = low_alike c.args.seat.now.seen c.args.v (bound_at (max c.raise-found.result c.distance_of-word.result)) c.put_low.new.seen m.table.shared.key c.requires.variable.0 (put c) s.alike };
  floor = ap (λ (x : View). x.floor) c.raise-found.ensures.seen.view;
  same_length = (same c).same_length;
  bits = kept_bits c.put_low.new.seen c.args.seat.now.seen (same c);
  pairs = kept_pairs c.put_low.new.seen c.args.seat.now.seen (same c);
}
