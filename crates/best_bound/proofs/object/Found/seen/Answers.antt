use Rattle.std.proofs.Common.{ℕ, ◌≡◌, ◌≢◌, arith}
use Rattle.best_bound.specs.Codes.{none_word}
use Rattle.best_bound.proofs.Showing.{none_kept, none_seen, none_posted, one_seen, is_among}
use Rattle.best_bound.proofs.object.Found.seen.Goals as goal

is_none : (n : ℕ) → n ≡ 18446744073709551615 → n ≡ none_word
unfolding none_word
is_none n e = e

not_none : (n : ℕ) → n ≢ 18446744073709551615 → n ≢ none_word
unfolding none_word
not_none n ne = ne

pub overflow_cast-result : goal.overflow_cast-result
overflow_cast-result g c = let l = c.look-word.ensures.looked in let s = (l.hears.seen c.look-word.result (is_among _ _ _ _ l (not_none _ (let h = c.if-word.false in omega arith)))).2 in let z = s.short in omega arith

pub returns-then-word-clause-seen : goal.returns-then-word-clause-seen
returns-then-word-clause-seen g c = none_kept _ _ _ _ c.look-word.ensures.looked (is_none _ (let h = c.if-word.true in omega arith))

pub returns-then-word-clause-least : goal.returns-then-word-clause-least
returns-then-word-clause-least g c = none_seen _ _ _ _ c.look-word.ensures.looked (is_none _ (let h = c.if-word.true in omega arith))

pub returns-else-word-clause-seen : goal.returns-else-word-clause-seen
returns-else-word-clause-seen g c = one_seen _ _ _ _ c.look-word.ensures.looked (not_none _ (let h = c.if-word.false in omega arith))

pub returns-else-word-clause-least : goal.returns-else-word-clause-least
returns-else-word-clause-least g c = let l = c.look-word.ensures.looked in (is_among _ _ _ _ l (not_none _ (let h = c.if-word.false in omega arith)), λ n h. (l.hears.seen n h).0)

pub returns-then-word-clause-not_above : goal.returns-then-word-clause-not_above
returns-then-word-clause-not_above g c = none_posted _ _ _ c.look-word.ensures.looked.hears (is_none _ (let h = c.if-word.true in omega arith))

pub returns-else-word-clause-not_above : goal.returns-else-word-clause-not_above
returns-else-word-clause-not_above g c = λ n h. (c.look-word.ensures.looked.hears.posts n h).0
