use Rattle.std.proofs.Common.{ℕ, ℤ, ◌≤ℤ◌, ◌<ℤ◌, sym, ap, ◌∙◌, subst, arith}
use Rattle.std.specs.Prelude.{slice_index, IfSome}
use Rattle.interval.specs.Boxes.{low_of, high_of, put_of}
use Rattle.lattice_store.specs.Words.{word_of, low_code}
use Rattle.lattice_store.specs.Seats.{seen_of, floor_of}
use Rattle.lattice_store.proofs.WordLaws.{origin-own}
use Rattle.lattice_store.proofs.Showing.{Low, low_moved, low_heard, may_tell_low, told_low, differ, alike, alike_back, not_past}
use Rattle.lattice_store.proofs.store.Store.tell_low.Goals as goal
use Rattle.lattice_store.proofs.store.Store.tell_low.Goals.{After-at}

moved : (c : After-at) → Low c.args.seat.now c.raise.new.seat c.args.v c.low_place-k.result
moved c = low_moved c.args.seat.now c.raise.new.seat c.args.v c.low_place-k.result c.low_place-k.ensures c.requires.variable c.raise.ensures.moved

pub low_word-word-requires-clause-origin : goal.low_word-word-requires-clause-origin
low_word-word-requires-clause-origin c = origin-own c.args.seat.now.epoch c.args.seat.now.origin c.args.seat.now.origin_is

pub raise-requires-clause-word : goal.raise-requires-clause-word
raise-requires-clause-word c = may_tell_low c.args.seat.now c.args.v c.low_place-k.result c.low_word-word.result c.args.value c.low_place-k.ensures c.requires.variable c.requires.in_range c.requires.floor (told_low c.args.seat.now.epoch c.args.seat.now.origin c.low_word-word.result c.args.value c.args.seat.now.origin_is c.requires.in_range c.low_word-word.ensures)

pub returns-clause-seen : goal.returns-clause-seen
returns-clause-seen c = (moved c).seen ∙ ap (λ (z : ℤ). put_of (seen_of c.args.seat.now) c.args.v z (high_of (seen_of c.args.seat.now) c.args.v)) (moved c).value

pub returns-clause-changed : goal.returns-clause-changed
returns-clause-changed c = λ t. subst (λ (z : ℤ). low_of (seen_of c.args.seat.now) c.args.v <ℤ z) (moved c).value ((moved c).climbs (λ e. differ c.at.result c.at-before.result t (c.at.ensures ∙ e ∙ sym c.at-before.ensures)))

pub returns-clause-unchanged : goal.returns-clause-unchanged
returns-clause-unchanged c = λ t. (moved c).rests (sym c.at.ensures ∙ alike c.at.result c.at-before.result t ∙ c.at-before.ensures)

pub returns-clause-told : goal.returns-clause-told
returns-clause-told c = λ n. subst (λ (z : ℤ). c.args.value ≤ℤ z) (moved c).value (low_heard c.raise.new.seat c.low_place-k.result c.low_word-word.result c.args.value (let k = c.low_place-k.ensures in omega arith) (moved c).inside c.requires.in_range (told_low c.args.seat.now.epoch c.args.seat.now.origin c.low_word-word.result c.args.value c.args.seat.now.origin_is c.requires.in_range c.low_word-word.ensures ∙ ap (λ (e : ℕ). word_of e (low_code c.args.value)) (sym c.raise.ensures.moved.same.epoch)) (c.raise.ensures.told (not_past c.raise.new.seat n)))

pub returns-clause-floor : goal.returns-clause-floor
returns-clause-floor c = subst (λ (z : ℤ). IfSome (floor_of c.raise.new.seat) (λ f. z ≤ℤ low_of f c.args.v)) (moved c).value (moved c).floor

pub returns-clause-past : goal.returns-clause-past
returns-clause-past c = λ p. alike_back c.at.result c.at-before.result (c.at.ensures ∙ ap (λ l. slice_index l c.low_place-k.result) (c.raise.ensures.moved.frozen p) ∙ sym c.at-before.ensures)
