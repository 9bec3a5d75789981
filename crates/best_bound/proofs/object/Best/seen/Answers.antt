use Rattle.std.proofs.Common.{ℕ, ◌≡◌, ◌≢◌, ap, map, arith}
use Rattle.best_bound.specs.Codes.{none_word, cost_of}
use Rattle.best_bound.proofs.Showing.{none_kept, none_seen, costs_pass, posts_pass, none_posted, cost_below, costs_all, cost_seen, cost_least}
use Rattle.best_bound.proofs.object.Best.seen.Goals as goal

is_none : (n : ℕ) → n ≡ 18446744073709551615 → n ≡ none_word
unfolding none_word
is_none n e = e

not_none : (n : ℕ) → n ≢ 18446744073709551615 → n ≢ none_word
unfolding none_word
not_none n ne = ne

pub returns-then-word-clause-seen : goal.returns-then-word-clause-seen
returns-then-word-clause-seen g c = ap (map cost_of) (none_kept _ _ _ _ c.look-word.ensures.looked (is_none _ (let h = c.if-word.true in omega arith)))

pub returns-then-word-clause-least : goal.returns-then-word-clause-least
returns-then-word-clause-least g c = ap (map cost_of) (none_seen _ _ _ _ c.look-word.ensures.looked (is_none _ (let h = c.if-word.true in omega arith)))

pub returns-then-word-clause-passes : goal.returns-then-word-clause-passes
returns-then-word-clause-passes g c = costs_pass g.C.Costs.is_cost _ _ c.look-word.ensures.looked.hears

pub returns-then-word-clause-all : goal.returns-then-word-clause-all
returns-then-word-clause-all g c = costs_all _ _ _ c.look-word.ensures.looked.hears

pub returns-else-word-clause-seen : goal.returns-else-word-clause-seen
returns-else-word-clause-seen g c = cost_seen _ _ _ _ _ c.look-word.ensures.looked (not_none _ (let h = c.if-word.false in omega arith)) c.word_cost.ensures

pub returns-else-word-clause-least : goal.returns-else-word-clause-least
returns-else-word-clause-least g c = cost_least _ _ _ _ _ c.look-word.ensures.looked (not_none _ (let h = c.if-word.false in omega arith)) c.word_cost.ensures

pub returns-else-word-clause-passes : goal.returns-else-word-clause-passes
returns-else-word-clause-passes g c = costs_pass g.C.Costs.is_cost _ _ c.look-word.ensures.looked.hears

pub returns-else-word-clause-all : goal.returns-else-word-clause-all
returns-else-word-clause-all g c = costs_all _ _ _ c.look-word.ensures.looked.hears

pub returns-then-word-clause-posts_pass : goal.returns-then-word-clause-posts_pass
returns-then-word-clause-posts_pass g c = posts_pass g.C.Costs.is_cost _ _ c.look-word.ensures.looked.hears

pub returns-else-word-clause-posts_pass : goal.returns-else-word-clause-posts_pass
returns-else-word-clause-posts_pass g c = posts_pass g.C.Costs.is_cost _ _ c.look-word.ensures.looked.hears

pub returns-then-word-clause-not_above : goal.returns-then-word-clause-not_above
returns-then-word-clause-not_above g c = ap (map cost_of) (none_posted _ _ _ c.look-word.ensures.looked.hears (is_none _ (let h = c.if-word.true in omega arith)))

pub returns-else-word-clause-not_above : goal.returns-else-word-clause-not_above
returns-else-word-clause-not_above g c = cost_below _ _ _ _ _ c.look-word.ensures.looked (not_none _ (let h = c.if-word.false in omega arith)) c.word_cost.ensures
