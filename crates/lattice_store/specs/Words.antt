-- How a bound is kept in a word. A word is an epoch and a code. Both kinds of bound are coded so that a tighter
-- bound has the greater code, and a word of a later epoch is greater than every word of an earlier one. So one
-- join, the maximum, serves both kinds, and a word only grows.
use Rattle.std.specs.Prelude.{ℕ, ℤ, pos, negsuc, zero, suc, ◌+◌, ◌-◌, ◌*◌, ◌/◌, ◌%◌, ◌^◌, ◌<◌, ◌≤◌, ◌≡◌, ◌+ℤ◌, ◌-ℤ◌, List, [], ◌∷◌, slice_index, cond, Option, None, Some}
use Rattle.std.specs.Prelude.{nat_le}
use Rattle.interval.specs.Limits.{bound_limit}
use Rattle.interval.specs.Boxes.{Bounds}

-- one more than the greatest bound
unfoldable pub middle : ℕ
middle = bound_limit + 1

-- m, doubled until it is n or more, at most so many times
unfoldable pub doubled_to : ℕ → ℕ → ℕ → ℕ
doubled_to n m zero = m
doubled_to n m (suc times) = cond (nat_le n m) m (doubled_to n (2 * m) times)

-- how many codes an epoch has room for: the least power of two that is enough
unfoldable pub span : ℕ
span = doubled_to (2 * middle) 1 63

-- the last epoch that a word of 64 bits has room for
unfoldable pub last_epoch : ℕ
last_epoch = 2 ^ 64 / span - 1

unfoldable pub word_of : ℕ → ℕ → ℕ
word_of epoch code = epoch * span + code

unfoldable pub epoch_of : ℕ → ℕ
epoch_of word = word / span

unfoldable pub code_of : ℕ → ℕ
code_of word = word % span

-- the word of the bound 0, lower or upper, at an epoch
abbrev pub IsOriginOf : ℕ → ℕ → Type 0
IsOriginOf epoch word = word ≡ word_of epoch middle

-- the number, or 0 where it is below 0
abbrev pub from_zero : ℤ → ℕ
from_zero (pos n) = n
from_zero (negsuc n) = 0

-- the code of a lower bound, and of an upper one
unfoldable pub low_code : ℤ → ℕ
low_code bound = from_zero (bound +ℤ pos middle)

unfoldable pub high_code : ℤ → ℕ
high_code bound = from_zero (pos middle -ℤ bound)

-- the lower bound that a code stands for, and the upper one
unfoldable pub low_value : ℕ → ℤ
low_value code = pos code -ℤ pos middle

unfoldable pub high_value : ℕ → ℤ
high_value code = pos middle -ℤ pos code

-- the word's code is that of a bound
pub record IsCode (word : ℕ) : Type 0 where
  pub above_zero : 1 ≤ code_of word
  pub below_end : code_of word < 2 * middle

-- The codes of a box in the order of the words: a spare 0, then the lower and the upper bound of each variable
unfoldable pub pair_codes : Bounds → List ℕ
pair_codes [] = []
pair_codes (p ∷ b) = low_code p.0 ∷ high_code p.1 ∷ pair_codes b

abbrev pub codes_of : Bounds → List ℕ
codes_of b = 0 ∷ pair_codes b

-- The greatest code that the word k may have where the floor is to stay inside the box
unfoldable pub ceiling : Option Bounds → ℕ → ℕ
ceiling None k = 2 * middle - 1
ceiling (Some floor) k = slice_index (codes_of floor) k

-- The box of the words that follow the spare one
unfoldable pub pairs_of : List ℕ → Bounds
pairs_of [] = []
pairs_of (x ∷ []) = []
pairs_of (x ∷ y ∷ ws) = (low_value (code_of x), high_value (code_of y)) ∷ pairs_of ws

-- The box of the words
unfoldable pub box_of : List ℕ → Bounds
box_of [] = []
box_of (x ∷ ws) = pairs_of ws
