-- Sums of terms that are small enough to be formed in 64 bits, and what such sums say of the tells.
use Rattle.std.specs.Prelude.{◌≡◌, ◌≢◌, ℕ, ℤ, pos, true, false, ◌+ℤ◌, ◌-ℤ◌, ◌≤ℤ◌, ◌<ℤ◌, ◌*◌, ◌<◌, ◌≤◌, List, length, slice_index, slice_index_or, unsigned_abs}
use Rattle.std.specs.Int.{int_max}
use Rattle.std.specs.List.{zip}
use Rattle.interval.specs.Limits.{IsBound}
use Rattle.interval.specs.Boxes.{Bounds, low_of, high_of}
use Rattle.tells.specs.declared.tell.Lit.{Lit}
use Rattle.small_sums.specs.declared.short.Sums.{Sums}
use Rattle.small_sums.specs.declared.short.SmallTerm.{SmallTerm}
use Rattle.small_sums.specs.declared.pairs.Pair.{Pair}
use Rattle.tells.specs.Words.{is_sure, is_out}
use Rattle.sum_tells.specs.Linear.{sum_over, least_of, greatest_of}

-- a slight coefficient lies between this and its opposite: its product with any bound is small
unfoldable pub slight_limit : ℕ
slight_limit = 32767

-- a small coefficient, and a small bound, lie between this and its opposite
unfoldable pub small_limit : ℕ
small_limit = 2147483647

-- a small product, as one of two small numbers, lies between this and its opposite
unfoldable pub small_product_limit : ℕ
small_product_limit = small_limit * small_limit

-- a sum that is formed in 64 bits lies between this and its opposite
unfoldable pub short_sum_limit : ℕ
short_sum_limit = 4611686018427387903

-- the low and the high of the variable are bounds
pub record HasBounds (b : Bounds) (var : ℕ) : Type 0 where
  pub low : IsBound (low_of b var)
  pub high : IsBound (high_of b var)

-- a term's least and greatest value are small
pub record IsSmallTerm (t : SmallTerm) : Type 0 where
  pub least : unsigned_abs t.least ≤ small_product_limit
  pub greatest : unsigned_abs t.greatest ≤ small_product_limit

-- what a small term is at least and at most
pub record IsTermOf (b : Bounds) (coeff : ℤ) (var : ℕ) (t : SmallTerm) : Type 0 where
  pub bounds : HasBounds b var
  pub least : t.least ≡ least_of b (coeff, var)
  pub greatest : t.greatest ≡ greatest_of b (coeff, var)
  pub small : IsSmallTerm t

-- the sums with one more term
pub record HasOneMore (before : Sums) (t : SmallTerm) (s : Sums) : Type 0 where
  pub least : s.least ≡ (before.least +ℤ t.least)
  pub greatest : s.greatest ≡ (before.greatest +ℤ t.greatest)
  pub least_in_range : unsigned_abs s.least ≤ short_sum_limit
  pub greatest_in_range : unsigned_abs s.greatest ≤ short_sum_limit
  pub wider : before.widest ≤ℤ s.widest
  pub within : (t.greatest -ℤ t.least) ≤ℤ s.widest

-- by how much a term can grow
abbrev pub growth_of : Bounds → ℤ → ℕ → ℤ
growth_of b coeff var = greatest_of b (coeff, var) -ℤ least_of b (coeff, var)

-- what a term of a sum grows by fits 64 bits
unfoldable pub growth_limit : ℕ
growth_limit = 9223372036854775807

pub record IsShortGrowth (b : Bounds) (coeff : ℤ) (var : ℕ) : Type 0 where
  pub bounds : HasBounds b var
  pub short : growth_of b coeff var ≤ℤ pos growth_limit

pub record AreShortGrowths (b : Bounds) (coeffs : List ℤ) (vars : List ℕ) : Type 0 where
  pub each : (i : ℕ) → i < length coeffs → IsShortGrowth b (slice_index_or coeffs i (pos 0)) (slice_index vars i)

-- the sums of all least and of all greatest values of some terms, none of which grows by more than `widest`
pub record AreSums (b : Bounds) (coeffs : List ℤ) (vars : List ℕ) (s : Sums) : Type 0 where
  pub least : s.least ≡ sum_over (least_of b) (zip coeffs vars)
  pub greatest : s.greatest ≡ sum_over (greatest_of b) (zip coeffs vars)
  pub above_zero : pos 0 ≤ℤ s.widest
  pub bounds : (i : ℕ) → i < length coeffs → HasBounds b (slice_index vars i)
  pub within : (i : ℕ) → i < length coeffs → growth_of b (slice_index_or coeffs i (pos 0)) (slice_index vars i) ≤ℤ s.widest

-- such sums in 64 bits
pub record AreShortSums (b : Bounds) (coeffs : List ℤ) (vars : List ℕ) (s : Sums) : Type 0 where
  pub sums : AreSums b coeffs vars s
  pub least_in_range : unsigned_abs s.least ≤ short_sum_limit
  pub greatest_in_range : unsigned_abs s.greatest ≤ short_sum_limit

-- the sums of two terms
abbrev pub sums_of_two : SmallTerm → SmallTerm → Sums
sums_of_two t u = record {
  least = t.least +ℤ u.least;
  greatest = t.greatest +ℤ u.greatest;
  widest = int_max (t.greatest -ℤ t.least) (u.greatest -ℤ u.least);
}

-- the two terms of a sum
pub record IsPairOf (b : Bounds) (coeffs : List ℤ) (vars : List ℕ) (p : Pair) : Type 0 where
  pub first : IsTermOf b (slice_index_or coeffs 0 (pos 0)) (slice_index vars 0) p.first
  pub second : IsTermOf b (slice_index_or coeffs 1 (pos 0)) (slice_index vars 1) p.second

-- the sums leave more room to the limit than a term can grow by, so that the inequality narrows nothing
pub record IsAtMostQuiet (b : Bounds) (l : Lit) (limit : ℤ) (s : Sums) : Type 0 where
  pub sure : is_sure l b ≡ true → s.widest ≤ℤ (limit -ℤ s.least)
  pub out : is_sure l b ≡ false → is_out l b ≡ true → s.widest <ℤ (s.greatest -ℤ limit)
  pub open_low : is_sure l b ≡ false → is_out l b ≡ false → s.least ≤ℤ limit
  pub open_high : is_sure l b ≡ false → is_out l b ≡ false → limit <ℤ s.greatest

-- where one term may make the whole difference of the sums, the limit is neither of them. So it isn't the sum at a bound
-- of that term's variable, the others being fixed
pub record IsUnequalQuiet (limit : ℤ) (s : Sums) : Type 0 where
  pub low : (s.greatest -ℤ s.least) ≤ℤ s.widest → limit ≢ s.least
  pub high : (s.greatest -ℤ s.least) ≤ℤ s.widest → limit ≢ s.greatest

-- the sums leave room to the limit on both sides, or no bound is what the equation must not have, so that it narrows
-- nothing
pub record IsEquationQuiet (b : Bounds) (l : Lit) (limit : ℤ) (s : Sums) : Type 0 where
  pub sure_low : is_sure l b ≡ true → s.widest ≤ℤ (limit -ℤ s.least)
  pub sure_high : is_sure l b ≡ true → s.widest ≤ℤ (s.greatest -ℤ limit)
  pub out : is_sure l b ≡ false → is_out l b ≡ true → IsUnequalQuiet limit s
  pub open_low : is_sure l b ≡ false → is_out l b ≡ false → s.least ≤ℤ limit
  pub open_high : is_sure l b ≡ false → is_out l b ≡ false → limit ≤ℤ s.greatest
  pub open_wide : is_sure l b ≡ false → is_out l b ≡ false → s.least <ℤ s.greatest

-- ---- the same for two terms: each at its greatest or least, with the other at its least or greatest

pub record IsPairAtMostQuiet (b : Bounds) (l : Lit) (limit : ℤ) (p : Pair) : Type 0 where
  pub sure_first : is_sure l b ≡ true → (p.first.greatest +ℤ p.second.least) ≤ℤ limit
  pub sure_second : is_sure l b ≡ true → (p.first.least +ℤ p.second.greatest) ≤ℤ limit
  pub out_first : is_sure l b ≡ false → is_out l b ≡ true → limit <ℤ (p.first.greatest +ℤ p.second.least)
  pub out_second : is_sure l b ≡ false → is_out l b ≡ true → limit <ℤ (p.first.least +ℤ p.second.greatest)
  pub open_low : is_sure l b ≡ false → is_out l b ≡ false → (p.first.least +ℤ p.second.least) ≤ℤ limit
  pub open_high : is_sure l b ≡ false → is_out l b ≡ false → limit <ℤ (p.first.greatest +ℤ p.second.greatest)

-- where a term is fixed, the limit is neither sum
pub record IsPairUnequalQuiet (limit : ℤ) (p : Pair) : Type 0 where
  pub first_low : p.first.greatest ≤ℤ p.first.least → limit ≢ (p.first.least +ℤ p.second.least)
  pub first_high : p.first.greatest ≤ℤ p.first.least → limit ≢ (p.first.greatest +ℤ p.second.greatest)
  pub second_low : p.second.greatest ≤ℤ p.second.least → limit ≢ (p.first.least +ℤ p.second.least)
  pub second_high : p.second.greatest ≤ℤ p.second.least → limit ≢ (p.first.greatest +ℤ p.second.greatest)

pub record IsPairEquationQuiet (b : Bounds) (l : Lit) (limit : ℤ) (p : Pair) : Type 0 where
  pub sure_first : is_sure l b ≡ true → limit ≡ (p.first.greatest +ℤ p.second.least)
  pub sure_second : is_sure l b ≡ true → limit ≡ (p.first.least +ℤ p.second.greatest)
  pub out : is_sure l b ≡ false → is_out l b ≡ true → IsPairUnequalQuiet limit p
  pub open_low : is_sure l b ≡ false → is_out l b ≡ false → (p.first.least +ℤ p.second.least) ≤ℤ limit
  pub open_high : is_sure l b ≡ false → is_out l b ≡ false → limit ≤ℤ (p.first.greatest +ℤ p.second.greatest)
  pub open_wide : is_sure l b ≡ false → is_out l b ≡ false → (p.first.least +ℤ p.second.least) <ℤ (p.first.greatest +ℤ p.second.greatest)
