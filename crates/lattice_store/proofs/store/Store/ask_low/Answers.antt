use Rattle.std.proofs.Common.{ℤ, ◌≡◌, ◌≤ℤ◌, sym, ap, ◌∙◌, subst}
use Rattle.std.specs.Prelude.{slice_index, IfSome}
use mir.Val.{to_z, of_z}
use mir.Syntax.{w64}
use Rattle.interval.specs.Limits.{IsBound}
use Rattle.interval.specs.Boxes.{low_of, high_of, put_of}
use Rattle.lattice_store.specs.Words.{code_of, low_value}
use Rattle.lattice_store.specs.Seats.{seen_of, floor_of}
use Rattle.lattice_store.proofs.Showing.{Low, low_moved, answered}
use Rattle.lattice_store.proofs.store.Store.ask_low.Goals as goal
use Rattle.lattice_store.proofs.store.Store.ask_low.Goals.{After-low_bound, After-at}

moved : (c : After-low_bound) → Low c.args.seat.now c.look.new.seat c.args.v c.low_place-k.result
moved c = low_moved c.args.seat.now c.look.new.seat c.args.v c.low_place-k.result c.low_place-k.ensures c.requires.variable c.look.ensures

answer : (c : After-low_bound) → to_z w64 (of_z w64 c.low_bound.result) ≡ low_value (code_of (slice_index c.look.new.seat.seen.items c.low_place-k.result))
answer c = answered c.low_bound.result _ (c.low_bound.ensures ∙ ap (λ w. low_value (code_of w)) c.at.ensures) (moved c).in_range

pub returns-clause-value : goal.returns-clause-value
returns-clause-value c = answer c ∙ (moved c).value

pub returns-clause-seen : goal.returns-clause-seen
returns-clause-seen c = (moved c).seen ∙ ap (λ (z : ℤ). put_of (seen_of c.args.seat.now) c.args.v z (high_of (seen_of c.args.seat.now) c.args.v)) (sym (answer c))

pub returns-clause-not_behind : goal.returns-clause-not_behind
returns-clause-not_behind c = subst (λ (z : ℤ). low_of (seen_of c.args.seat.now) c.args.v ≤ℤ z) (sym (answer c)) (moved c).not_behind

pub returns-clause-floor : goal.returns-clause-floor
returns-clause-floor c = subst (λ (z : ℤ). IfSome (floor_of c.look.new.seat) (λ f. z ≤ℤ low_of f c.args.v)) (sym (answer c)) (moved c).floor

pub returns-clause-in_range : goal.returns-clause-in_range
returns-clause-in_range c = subst IsBound (sym (answer c)) (moved c).in_range
