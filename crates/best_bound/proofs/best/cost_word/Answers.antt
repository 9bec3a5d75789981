use Rattle.std.proofs.Common.{arith}
use Rattle.std.proofs.lemmas.Int.{ints}
use Rattle.best_bound.specs.Codes.{none_word, middle, word_of, cost_of}
use Rattle.best_bound.proofs.best.cost_word.Goals as goal

pub returns-then-cost-ge0-clause-word : goal.returns-then-cost-ge0-clause-word
unfolding none_word middle word_of cost_of
returns-then-cost-ge0-clause-word c = grind (arith, ints)

pub returns-then-cost-ge0-clause-cost : goal.returns-then-cost-ge0-clause-cost
unfolding none_word middle word_of cost_of
returns-then-cost-ge0-clause-cost c = grind (arith, ints)

pub returns-then-cost-ge0-clause-below : goal.returns-then-cost-ge0-clause-below
unfolding none_word middle word_of cost_of
returns-then-cost-ge0-clause-below c = grind (arith, ints)

pub returns-else-cost-ge0-clause-word : goal.returns-else-cost-ge0-clause-word
unfolding none_word middle word_of cost_of
returns-else-cost-ge0-clause-word c = grind (arith, ints)

pub returns-else-cost-ge0-clause-cost : goal.returns-else-cost-ge0-clause-cost
unfolding none_word middle word_of cost_of
returns-else-cost-ge0-clause-cost c = grind (arith, ints)

pub returns-else-cost-ge0-clause-below : goal.returns-else-cost-ge0-clause-below
unfolding none_word middle word_of cost_of
returns-else-cost-ge0-clause-below c = grind (arith, ints)
