-- The sums of the front of a list, with its last term, are those of the whole.
use Rattle.std.proofs.Common.{◌≡◌, ℕ, ◌≤ℤ◌, Option, None, Some, MatchOption, List, [], ◌∷◌, ◌++◌, length, ℤ, arith}
use Rattle.std.proofs.lemmas.Int.{ints}
use Rattle.small_sums.specs.declared.short.Sums.{Sums}
use Rattle.small_sums.specs.declared.short.SmallTerm.{SmallTerm}
use Rattle.interval.specs.Boxes.{Bounds}
use Rattle.sum_tells.specs.Linear.{least_of, greatest_of}
use Rattle.small_sums.specs.Short.{HasBounds, IsTermOf, HasOneMore, growth_of, AreShortSums}
use Rattle.sum_tells.proofs.PartedLaws.{sum_over-parted, each-last}

pub parted_sums : (b : Bounds) (coeffs : List ℤ) (vars : List ℕ) (a : ℤ) (x : ℕ) (before s : Sums) (t : SmallTerm) → length coeffs ≡ length vars
    → AreShortSums b coeffs vars before → IsTermOf b a x t → HasOneMore before t s → AreShortSums b (coeffs ++ a ∷ []) (vars ++ x ∷ []) s
parted_sums b coeffs vars a x before s t same front term more =
    let least_step = sum_over-parted (least_of b) coeffs vars a x same in
    let greatest_step = sum_over-parted (greatest_of b) coeffs vars a x same in
    let B : ℤ → ℕ → Type 0 = λ c y. HasBounds b y in
    let W : ℤ → ℕ → Type 0 = λ c y. growth_of b c y ≤ℤ s.widest in
    record {
      sums = record {
        least = omega (arith, ints, more.least, term.least, front.sums.least);
        greatest = omega (arith, ints, more.greatest, term.greatest, front.sums.greatest);
        above_zero = omega (arith, ints, more.wider, front.sums.above_zero);
        bounds = each-last B coeffs vars a x same front.sums.bounds term.bounds;
        within = each-last W coeffs vars a x same (λ k h. omega (arith, ints, more.wider, front.sums.within k h)) (omega (arith, ints, more.within, term.least, term.greatest));
      };
      least_in_range = more.least_in_range;
      greatest_in_range = more.greatest_in_range;
    }

-- they are so where one more term gives sums at all
pub parted_option : (b : Bounds) (coeffs : List ℤ) (vars : List ℕ) (a : ℤ) (x : ℕ) (before : Sums) (t : SmallTerm) (o : Option Sums) → length coeffs ≡ length vars
    → AreShortSums b coeffs vars before → IsTermOf b a x t → MatchOption o (Unit {0}) (λ s. HasOneMore before t s)
    → MatchOption o (Unit {0}) (λ s. AreShortSums b (coeffs ++ a ∷ []) (vars ++ x ∷ []) s)
parted_option b coeffs vars a x before t None same front term more = more
parted_option b coeffs vars a x before t (Some s) same front term more = parted_sums b coeffs vars a x before s t same front term more
