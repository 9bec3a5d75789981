use Rattle.std.proofs.Common.{ℕ, ℤ, ◌≤ℤ◌, ◌<ℤ◌, sym, ap, ◌∙◌, subst, arith}
use Rattle.std.specs.Prelude.{slice_index, IfSome}
use Rattle.interval.specs.Boxes.{low_of, high_of, put_of}
use Rattle.lattice_store.specs.Words.{word_of, high_code}
use Rattle.lattice_store.specs.Seats.{seen_of, floor_of}
use Rattle.lattice_store.proofs.WordLaws.{origin-own}
use Rattle.lattice_store.proofs.Showing.{High, high_moved, high_heard, may_tell_high, told_high, differ, alike, alike_back, not_past}
use Rattle.lattice_store.proofs.store.Store.tell_high.Goals as goal
use Rattle.lattice_store.proofs.store.Store.tell_high.Goals.{After-at}

moved : (c : After-at) → High c.args.seat.now c.raise.new.seat c.args.v c.high_place-k.result
moved c = high_moved c.args.seat.now c.raise.new.seat c.args.v c.high_place-k.result c.high_place-k.ensures c.requires.variable c.raise.ensures.moved

pub high_word-word-requires-clause-origin : goal.high_word-word-requires-clause-origin
high_word-word-requires-clause-origin c = origin-own c.args.seat.now.epoch c.args.seat.now.origin c.args.seat.now.origin_is

pub raise-requires-clause-word : goal.raise-requires-clause-word
raise-requires-clause-word c = may_tell_high c.args.seat.now c.args.v c.high_place-k.result c.high_word-word.result c.args.value c.high_place-k.ensures c.requires.variable c.requires.in_range c.requires.floor (told_high c.args.seat.now.epoch c.args.seat.now.origin c.high_word-word.result c.args.value c.args.seat.now.origin_is c.requires.in_range c.high_word-word.ensures)

pub returns-clause-seen : goal.returns-clause-seen
returns-clause-seen c = (moved c).seen ∙ ap (λ (z : ℤ). put_of (seen_of c.args.seat.now) c.args.v (low_of (seen_of c.args.seat.now) c.args.v) z) (moved c).value

pub returns-clause-changed : goal.returns-clause-changed
returns-clause-changed c = λ t. subst (λ (z : ℤ). z <ℤ high_of (seen_of c.args.seat.now) c.args.v) (moved c).value ((moved c).drops (λ e. differ c.at.result c.at-old.result t (c.at.ensures ∙ e ∙ sym c.at-old.ensures)))

pub returns-clause-unchanged : goal.returns-clause-unchanged
returns-clause-unchanged c = λ t. (moved c).rests (sym c.at.ensures ∙ alike c.at.result c.at-old.result t ∙ c.at-old.ensures)

pub returns-clause-told : goal.returns-clause-told
returns-clause-told c = λ n. subst (λ (z : ℤ). z ≤ℤ c.args.value) (moved c).value (high_heard c.raise.new.seat c.high_place-k.result c.high_word-word.result c.args.value (let k = c.high_place-k.ensures in omega arith) (moved c).inside c.requires.in_range (told_high c.args.seat.now.epoch c.args.seat.now.origin c.high_word-word.result c.args.value c.args.seat.now.origin_is c.requires.in_range c.high_word-word.ensures ∙ ap (λ (e : ℕ). word_of e (high_code c.args.value)) (sym c.raise.ensures.moved.same.epoch)) (c.raise.ensures.told (not_past c.raise.new.seat n)))

pub returns-clause-floor : goal.returns-clause-floor
returns-clause-floor c = subst (λ (z : ℤ). IfSome (floor_of c.raise.new.seat) (λ f. high_of f c.args.v ≤ℤ z)) (moved c).value (moved c).floor

pub returns-clause-past : goal.returns-clause-past
returns-clause-past c = λ p. alike_back c.at.result c.at-old.result (c.at.ensures ∙ ap (λ l. slice_index l c.high_place-k.result) (c.raise.ensures.moved.frozen p) ∙ sym c.at-old.ensures)
