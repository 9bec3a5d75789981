-- Lists of numbers, compared by what they hold. Whatever each number weighs, the weights of all numbers of a list add up to the
-- same for two lists exactly where both hold the same numbers, each as often.
use Rattle.std.specs.Prelude.{ℕ, zero, suc, ◌≡◌, ◌≤◌, ◌%◌, ◌==◌, List, [], ◌∷◌, ◌++◌, sum_by, filter}
use Rattle.tickets.specs.Counting.{times}

-- both lists hold the same numbers, each as often, in any order
pub record AreSameNumbers (xs ys : List ℕ) : Type 0 where
  pub weight : (w : ℕ → ℕ) → sum_by w xs ≡ sum_by w ys

-- each number stands in the first list at most as often as in the second
pub record IsPart (xs ys : List ℕ) : Type 0 where
  pub weight : (w : ℕ → ℕ) → sum_by w xs ≤ sum_by w ys

-- each number below n stands in the list at most once, and nothing else stands there
pub record IsOnceAtMost (n : ℕ) (xs : List ℕ) : Type 0 where
  pub once : (k : ℕ) → times k xs ≤ 1
  pub no_other : (k : ℕ) → n ≤ k → times k xs ≡ 0

-- 0 to n - 1
abbrev pub numbers_below : ℕ → List ℕ
numbers_below zero = []
numbers_below (suc n) = numbers_below n ++ n ∷ []

-- the numbers below n that leave this rest by the number of workers, rising
abbrev pub share : ℕ → ℕ → ℕ → List ℕ
share n workers rest = filter (λ k. k % workers == rest) (numbers_below n)
