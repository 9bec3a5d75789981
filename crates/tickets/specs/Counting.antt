-- How often a number stands in a list, and the laws of it.
use Rattle.std.specs.Prelude.{ℕ, ◌≡◌, ◌≢◌, ◌+◌, ◌<◌, ◌≤◌, ◌==◌, List, ◌∷◌, ◌++◌, length, count_by, slice_index}

-- how often the number stands in the list
abbrev pub times : ℕ → List ℕ → ℕ
times k xs = count_by (λ x. x == k) xs

-- each number below n stands once in the list, and nothing else stands there
pub record IsEachOnce (n : ℕ) (xs : List ℕ) : Type 0 where
  pub once : (k : ℕ) → k < n → times k xs ≡ 1
  pub no_other : (k : ℕ) → n ≤ k → times k xs ≡ 0

-- What the 1024 parts tell of a seat that has so many of them: of the numbers below count it has passed those below next,
-- and drew these. It drew none twice, and with all parts it drew all that it passed.
pub record IsTally (parts count next : ℕ) (drawn : List ℕ) : Type 0 where
  pub parts_bound : parts ≤ 1024
  pub next_bound : next ≤ count
  pub once : (k : ℕ) → times k drawn ≤ 1
  pub passed : (k : ℕ) → next ≤ k → times k drawn ≡ 0
  pub all : parts ≡ 1024 → IsEachOnce next drawn

-- the laws of counting
pub record CountingLaws : Type 0 where
  pub append : (k : ℕ) (xs ys : List ℕ) → times k (xs ++ ys) ≡ times k xs + times k ys
  pub same : (k x : ℕ) (xs : List ℕ) → x ≡ k → times k (x ∷ xs) ≡ times k xs + 1
  pub other : (k x : ℕ) (xs : List ℕ) → x ≢ k → times k (x ∷ xs) ≡ times k xs
  -- what stands at a place is counted, at two places twice; and what is counted stands at a place
  pub stands : (k i : ℕ) (xs : List ℕ) → i < length xs → slice_index xs i ≡ k → 1 ≤ times k xs
  pub twice : (k i j : ℕ) (xs : List ℕ) → i < j → j < length xs → slice_index xs i ≡ k → slice_index xs j ≡ k → 2 ≤ times k xs
  pub place : (k : ℕ) (xs : List ℕ) → 1 ≤ times k xs → (i : ℕ) × (i < length xs) × (slice_index xs i ≡ k)
  -- as many numbers stand in the list as there are
  pub all : (n : ℕ) (xs : List ℕ) → IsEachOnce n xs → length xs ≡ n
