-- Epochs and codes of words, and the codes of bounds.
use Rattle.std.proofs.Common.{ℕ, ℤ, ◌≡◌, ◌⊎◌, ◌*◌, ◌<◌, ◌≤◌, ◌≤ℤ◌, ◌<ℤ◌, max, sym, subst, arith}
use Rattle.std.proofs.lemmas.Int.{ints}
use Rattle.lattice_store.specs.Words.{middle, span, word_of, epoch_of, code_of, IsOriginOf, low_code, high_code, low_value, high_value, doubled_to}
use Rattle.interval.specs.Limits.{bound_limit, largest_number, IsBound}

pub epoch-word : (e c : ℕ) → c < 2 * middle → epoch_of (word_of e c) ≡ e
unfolding epoch_of word_of span middle doubled_to bound_limit largest_number
epoch-word e c h = omega arith

pub code-word : (e c : ℕ) → c < 2 * middle → code_of (word_of e c) ≡ c
unfolding code_of word_of span middle doubled_to bound_limit largest_number
code-word e c h = omega arith

pub word-parts : (w : ℕ) → w ≡ word_of (epoch_of w) (code_of w)
unfolding code_of epoch_of word_of span middle doubled_to bound_limit largest_number
word-parts w = omega arith

pub origin-epoch : (e w : ℕ) → IsOriginOf e w → epoch_of w ≡ e
unfolding epoch_of word_of span middle doubled_to bound_limit largest_number
origin-epoch e w h = omega (arith, h)

-- a word of the bound 0 is that of its own epoch
pub origin-own : (e w : ℕ) → IsOriginOf e w → IsOriginOf (epoch_of w) w
origin-own e w h = subst (λ (x : ℕ). IsOriginOf x w) (sym (origin-epoch e w h)) h

-- a word of the bound 0 is that of the epoch of a word of the same epoch
pub origin-for : (e z w : ℕ) → IsOriginOf e z → epoch_of w ≡ e → IsOriginOf (epoch_of w) z
origin-for e z w h same = subst (λ (x : ℕ). IsOriginOf x z) (sym same) h

pub rises : (a b : ℕ) → a ≤ b → epoch_of a ≤ epoch_of b
unfolding epoch_of span middle doubled_to bound_limit largest_number
rises a b h = omega arith

pub code-rises : (a b : ℕ) → a ≤ b → epoch_of a ≡ epoch_of b → code_of a ≤ code_of b
unfolding epoch_of code_of span middle doubled_to bound_limit largest_number
code-rises a b h e = omega arith

pub words-rise : (a b : ℕ) → epoch_of a ≡ epoch_of b → code_of a ≤ code_of b → a ≤ b
unfolding epoch_of code_of span middle doubled_to bound_limit largest_number
words-rise a b e h = omega arith

pub later : (a b : ℕ) → epoch_of a < epoch_of b → a < b
unfolding epoch_of span middle doubled_to bound_limit largest_number
later a b h = omega arith

pub same_word : (a b : ℕ) → epoch_of a ≡ epoch_of b → code_of a ≡ code_of b → a ≡ b
unfolding epoch_of code_of span middle doubled_to bound_limit largest_number
same_word a b e h = omega arith

pub max_is : (a b : ℕ) → ((max a b ≡ a) × (b ≤ a)) ⊎ ((max a b ≡ b) × (a ≤ b))
max_is a b = grind arith

pub low-code : (z : ℤ) → IsBound z → (1 ≤ low_code z) × (low_code z < 2 * middle) × (low_value (low_code z) ≡ z)
unfolding low_code low_value middle bound_limit largest_number
low-code z h = (grind (arith, ints), grind (arith, ints), grind (arith, ints))

pub high-code : (z : ℤ) → IsBound z → (1 ≤ high_code z) × (high_code z < 2 * middle) × (high_value (high_code z) ≡ z)
unfolding high_code high_value middle bound_limit largest_number
high-code z h = (grind (arith, ints), grind (arith, ints), grind (arith, ints))

pub low-bound : (c : ℕ) → 1 ≤ c → c < 2 * middle → IsBound (low_value c)
unfolding low_value middle bound_limit largest_number
low-bound c h k = grind (arith, ints)

pub high-bound : (c : ℕ) → 1 ≤ c → c < 2 * middle → IsBound (high_value c)
unfolding high_value middle bound_limit largest_number
high-bound c h k = grind (arith, ints)

pub low-rises : (c d : ℕ) → c ≤ d → low_value c ≤ℤ low_value d
unfolding low_value
low-rises c d h = omega (arith, ints)

pub low-climbs : (c d : ℕ) → c < d → low_value c <ℤ low_value d
unfolding low_value
low-climbs c d h = omega (arith, ints)

pub high-falls : (c d : ℕ) → c ≤ d → high_value d ≤ℤ high_value c
unfolding high_value
high-falls c d h = omega (arith, ints)

pub high-drops : (c d : ℕ) → c < d → high_value d <ℤ high_value c
unfolding high_value
high-drops c d h = omega (arith, ints)

-- a code is at most that of a bound where its own bound is at most that one
pub low-under : (c : ℕ) (z : ℤ) → 1 ≤ c → c ≤ low_code z → low_value c ≤ℤ z
unfolding low_value low_code
low-under c z h k = grind (arith, ints)

pub low-within : (y z : ℤ) → y ≤ℤ z → low_code y ≤ low_code z
unfolding low_code
low-within y z h = grind (arith, ints)

pub high-under : (c : ℕ) (z : ℤ) → 1 ≤ c → c ≤ high_code z → z ≤ℤ high_value c
unfolding high_value high_code
high-under c z h k = grind (arith, ints)

pub high-within : (y z : ℤ) → z ≤ℤ y → high_code y ≤ high_code z
unfolding high_code
high-within y z h = grind (arith, ints)

-- what was told is seen
pub low-told : (c : ℕ) (z : ℤ) → IsBound z → low_code z ≤ c → z ≤ℤ low_value c
unfolding low_value low_code middle bound_limit largest_number
low-told c z b k = grind (arith, ints)

pub high-told : (c : ℕ) (z : ℤ) → IsBound z → high_code z ≤ c → high_value c ≤ℤ z
unfolding high_value high_code middle bound_limit largest_number
high-told c z b k = grind (arith, ints)
