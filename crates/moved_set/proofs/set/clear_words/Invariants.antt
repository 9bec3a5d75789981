-- The variables that were passed are in no word any more, and no number has come in.
use Rattle.std.proofs.Common.{◌≡◌, ◌<◌, ℕ, length, get_or, false}
use Rattle.moved_set.specs.Words.{has}
use Rattle.moved_set.proofs.set.clear_words.Given as goal

abbrev pub invariant-loop-i : goal.invariant-loop-i
invariant-loop-i l =
    (length l.words ≡ length l.initial.words)
    × ((k : ℕ) → k < l.i → has l.words (get_or l.variables k 0) ≡ false)
    × ((v : ℕ) → has l.initial.words v ≡ false → has l.words v ≡ false)
