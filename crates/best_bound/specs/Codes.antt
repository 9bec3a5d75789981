-- How a cost or a number is kept in a word: a lesser one has the lesser word, and the greatest word stands for none.
-- A number is its own word.
use Rattle.std.specs.Prelude.{ℕ, ℤ, pos, negsuc, ◌<◌, ◌+ℤ◌, ◌-ℤ◌}

-- the word of no value
unfoldable pub none_word : ℕ
none_word = 18446744073709551615

-- the word of cost 0
unfoldable pub middle : ℕ
middle = 9223372036854775808

-- the number, or 0 where it is below 0
abbrev pub from_zero : ℤ → ℕ
from_zero (pos n) = n
from_zero (negsuc n) = 0

-- the word of a cost
unfoldable pub word_of : ℤ → ℕ
word_of cost = from_zero (cost +ℤ pos middle)

-- the cost of a word
unfoldable pub cost_of : ℕ → ℤ
cost_of word = pos word -ℤ pos middle

-- the word of a number that passes the test
pub record IsNumberWord (Passes : ℕ → Type 0) (word : ℕ) : Type 0 where
  pub short : word < 4294967296
  pub passes : Passes word
