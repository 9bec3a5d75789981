use Rattle.std.proofs.Common.{ℕ, ◌≢◌, ◌+◌, ◌*◌, ◌≤◌, length, refl, sym, subst, true≢false, arith}
use Rattle.interval.specs.Limits.{bound_limit, largest_number}
use Rattle.lattice_store.specs.Words.{last_epoch, span, middle, doubled_to}
use Rattle.lattice_store.specs.Steps.{Opening}
use Rattle.lattice_store.proofs.WordLaws.{origin-epoch, origin-own}
use Rattle.lattice_store.proofs.Starting.{start_box}
use Rattle.lattice_store.proofs.Pairs.{opened_stands, words_opened}
use Rattle.lattice_store.proofs.store.Store.open.Goals as goal

pub returns-then-last-clause-full : goal.returns-then-last-clause-full
unfolding last_epoch span middle doubled_to bound_limit largest_number
returns-then-last-clause-full g c = (λ _. c.if-last.true, λ _. refl)

pub returns-clause-full : goal.returns-clause-full
unfolding last_epoch span middle doubled_to bound_limit largest_number
returns-clause-full g c = (λ e. absurd (true≢false (sym e)), λ e. absurd (c.if-last.false e))

next_fits : (e : ℕ) → e ≤ last_epoch → e ≢ last_epoch → e + 1 ≤ last_epoch
unfolding last_epoch span middle doubled_to bound_limit largest_number
next_fits e h ne = omega arith

pub overflow_add-epoch : goal.overflow_add-epoch
unfolding last_epoch span middle doubled_to bound_limit largest_number
overflow_add-epoch g c = let fits = c.args.first.now.in_range in omega arith

pub origin_word-origin-requires : goal.origin_word-origin-requires
unfolding last_epoch span middle doubled_to bound_limit largest_number
origin_word-origin-requires g c = next_fits _ c.args.first.now.in_range c.if-last.false

pub open_words-requires-clause-origin : goal.open_words-requires-clause-origin
open_words-requires-clause-origin g c = origin-own _ _ c.origin_word-origin.ensures

pub open_words-requires-clause-epoch : goal.open_words-requires-clause-epoch
open_words-requires-clause-epoch g c = let s = c.args.first.now.stands.epoch_is in let e = origin-epoch _ _ c.origin_word-origin.ensures in omega arith

pub invariant_of-first : goal.invariant_of-first
unfolding last_epoch span middle doubled_to bound_limit largest_number
invariant_of-first g c = record { in_range = next_fits _ c.args.first.now.in_range c.if-last.false; origin_is = c.origin_word-origin.ensures; stands = opened_stands _ _ _ c.args.start.now g.floor _ _ (subst (λ (e : ℕ). Opening c.open_words.new.place.table_id c.open_words.new.place.me c.open_words.new.seen.items c.args.start.now g.floor e (2 * length c.args.start.now + 1)) (origin-epoch _ _ c.origin_word-origin.ensures) c.open_words.ensures.opening) c.open_words.ensures.in_range c.requires.1.1.1 (c.args.first.now.stands.first_is_not_past c.requires.1.0) }

pub returns-clause-seen : goal.returns-clause-seen
returns-clause-seen g c = start_box _ c.args.start.now c.open_words.new.seen.items c.open_words.ensures.in_range (words_opened _ _ _ c.args.start.now g.floor _ c.open_words.ensures.opening)
