-- What a search over the places of a list finds.
use Rattle.std.specs.Prelude.{◌≡◌, ◌⊎◌, ℕ, ◌<◌, ◌≤◌, Bool, true, false, List, length, slice_index_or}
use Rattle.interval.specs.Boxes.{Bounds}
use Rattle.tells.specs.declared.tell.Lit.{Lit}
use Rattle.guarded_tell.specs.Words.{is_out}
use Rattle.guarded_tell.specs.declared.kernel.Kernel.{Kernel}
use Rattle.guarded_tell.specs.declared.kernel.Kernel.TheVariants.{Clause}
use Rattle.kernel_visits.specs.declared.quiet.Left.{Left}
use Rattle.kernel_visits.specs.declared.quiet.Left.TheVariants.{None, One, Two}

-- a clause has a literal at the place, and it isn't out
abbrev pub IsLeftAt : Bounds → List Lit → ℕ → Type 0
IsLeftAt b lits n = (n < length lits) × ((d : Lit) → is_out (slice_index_or lits n d) b ≡ false)

-- at most one place counts
abbrev pub IsNoneOrOne : (ℕ → Type 0) → Type 0
IsNoneOrOne Counts = (m n : ℕ) → Counts m → Counts n → m ≡ n

-- the whole of a clause was searched, and at most one of its literals isn't out
abbrev pub IsSearched : Kernel → Bounds → Type 0
IsSearched k b = (lits : List Lit) → k ≡ Clause lits → IsNoneOrOne (IsLeftAt b lits)

-- what is found: no place seen counts or is enough; one seen place counts, no other does, and none is enough; or two different
-- places count, or one twice is enough by itself
unfoldable pub AreFound : (ℕ → Type 0) → (ℕ → Type 0) → (ℕ → Type 0) → Left → Type 0
AreFound Counts IsEnough IsSeen None = (n : ℕ) → IsSeen n → (Counts n ⊎ IsEnough n) → ⊥
AreFound Counts IsEnough IsSeen (One p) =
    IsSeen p × Counts p × ((n : ℕ) → IsSeen n → (Counts n → n ≡ p) × (IsEnough n → ⊥))
AreFound Counts IsEnough IsSeen (Two p q) = ((p ≡ q) × IsEnough p) ⊎ ((p ≡ q → ⊥) × Counts p × Counts q)

-- the same of all places from one on
abbrev pub AreFoundFrom : (ℕ → Type 0) → (ℕ → Type 0) → ℕ → Left → Type 0
AreFoundFrom Counts IsEnough from = AreFound Counts IsEnough (λ n. from ≤ n)

-- what is found with one more place
unfoldable pub with_place : Left → ℕ → Left
with_place None p = One p
with_place (One q) p = Two q p
with_place (Two q r) p = Two q r

-- two places, or one twice, are found
unfoldable pub is_two : Left → Bool
is_two None = false
is_two (One p) = false
is_two (Two p q) = true
