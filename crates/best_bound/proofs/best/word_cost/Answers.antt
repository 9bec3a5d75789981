use Rattle.std.proofs.Common.{arith}
use Rattle.std.proofs.lemmas.Int.{ints}
use Rattle.best_bound.specs.Codes.{none_word, middle, word_of, cost_of}
use Rattle.best_bound.proofs.best.word_cost.Goals as goal

pub returns-then-word-ge-MIDDLE : goal.returns-then-word-ge-MIDDLE
unfolding none_word middle word_of cost_of
returns-then-word-ge-MIDDLE c = grind (arith, ints)

pub returns-else-word-ge-MIDDLE : goal.returns-else-word-ge-MIDDLE
unfolding none_word middle word_of cost_of
returns-else-word-ge-MIDDLE c = grind (arith, ints)
