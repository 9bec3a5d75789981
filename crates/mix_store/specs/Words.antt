-- How a mix is kept in words. A set of bits is one word; a pair is two, its lower bound and then its upper one, each as
-- its distance from the least bound, so that none is negative. A spare word comes before all: a seat can step there
-- where there is no variable.
use Rattle.std.specs.Prelude.{ℕ, ℤ, pos, negsuc, ◌+ℤ◌, ◌-ℤ◌, List, [], ◌∷◌, length, take, flat_map}
use Rattle.interval.specs.Limits.{bound_limit}
use Rattle.bit_domain.specs.declared.dom.Dom.{Dom}
use Rattle.bit_domain.specs.declared.dom.Dom.TheVariants.{Bits, Pair}
use Rattle.bit_domain.specs.Mixes.{Mix}
use Rattle.mix_store.specs.declared.table.WordKind.{WordKind}
use Rattle.mix_store.specs.declared.table.WordKind.TheVariants.{Set, Low, High}

-- the number, or 0 where it is below 0
abbrev pub from_zero : ℤ → ℕ
from_zero (pos n) = n
from_zero (negsuc n) = 0

-- how far a bound lies above the least one
unfoldable pub distance : ℤ → ℕ
distance bound = from_zero (bound +ℤ pos bound_limit)

-- the bound that lies so far above the least one
unfoldable pub bound_at : ℕ → ℤ
bound_at n = pos n -ℤ pos bound_limit

abbrev pub words_in : Dom → List ℕ
words_in (Bits base set) = set ∷ []
words_in (Pair low high) = distance low ∷ distance high ∷ []

abbrev pub kinds_in : Dom → List WordKind
kinds_in (Bits base set) = Set ∷ []
kinds_in (Pair low high) = Low ∷ High ∷ []

abbrev pub words_of : Mix → List ℕ
words_of m = 0 ∷ flat_map words_in m

abbrev pub kinds_of : Mix → List WordKind
kinds_of m = Set ∷ flat_map kinds_in m

-- where the words of variable v begin: behind those of the variables before it
abbrev pub place_of : Mix → ℕ → ℕ
place_of m v = length (words_of (take v m))

-- the domain like this one of its words
abbrev pub read_of : Dom → ℕ → ℕ → Dom
read_of (Bits base set) word next = Bits base word
read_of (Pair low high) word next = Pair (bound_at word) (bound_at next)
