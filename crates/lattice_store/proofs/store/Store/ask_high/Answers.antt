use Rattle.std.proofs.Common.{ℤ, ◌≡◌, ◌≤ℤ◌, sym, ap, ◌∙◌, subst}
use Rattle.std.specs.Prelude.{slice_index, IfSome}
use mir.Val.{to_z, of_z}
use mir.Syntax.{w64}
use Rattle.interval.specs.Limits.{IsBound}
use Rattle.interval.specs.Boxes.{low_of, high_of, put_of}
use Rattle.lattice_store.specs.Words.{code_of, high_value}
use Rattle.lattice_store.specs.Seats.{seen_of, floor_of}
use Rattle.lattice_store.proofs.Showing.{High, high_moved, answered}
use Rattle.lattice_store.proofs.store.Store.ask_high.Goals as goal
use Rattle.lattice_store.proofs.store.Store.ask_high.Goals.{After-high_bound, After-at}

moved : (c : After-high_bound) → High c.args.seat.now c.look.new.seat c.args.v c.high_place-k.result
moved c = high_moved c.args.seat.now c.look.new.seat c.args.v c.high_place-k.result c.high_place-k.ensures c.requires.variable c.look.ensures

answer : (c : After-high_bound) → to_z w64 (of_z w64 c.high_bound.result) ≡ high_value (code_of (slice_index c.look.new.seat.seen.items c.high_place-k.result))
answer c = answered c.high_bound.result _ (c.high_bound.ensures ∙ ap (λ w. high_value (code_of w)) c.at.ensures) (moved c).in_range

pub returns-clause-value : goal.returns-clause-value
returns-clause-value c = answer c ∙ (moved c).value

pub returns-clause-seen : goal.returns-clause-seen
returns-clause-seen c = (moved c).seen ∙ ap (λ (z : ℤ). put_of (seen_of c.args.seat.now) c.args.v (low_of (seen_of c.args.seat.now) c.args.v) z) (sym (answer c))

pub returns-clause-not_behind : goal.returns-clause-not_behind
returns-clause-not_behind c = subst (λ (z : ℤ). z ≤ℤ high_of (seen_of c.args.seat.now) c.args.v) (sym (answer c)) (moved c).not_behind

pub returns-clause-floor : goal.returns-clause-floor
returns-clause-floor c = subst (λ (z : ℤ). IfSome (floor_of c.look.new.seat) (λ f. high_of f c.args.v ≤ℤ z)) (sym (answer c)) (moved c).floor

pub returns-clause-in_range : goal.returns-clause-in_range
returns-clause-in_range c = subst IsBound (sym (answer c)) (moved c).in_range
