-- A list of the variables of a set.
use Rattle.std.specs.Prelude.{◌≡◌, ℕ, ◌≤◌, ◌<◌, ◌↔◌, ◌⊎◌, ◌++◌, [], ◌∷◌, Bool, true, false, cond, List, length, replicate, sum_by, Contains}
use Rattle.moved_set.specs.Sets.{IsIn}

-- some variables, and whether they are all that there are to be listed
pub record Listed : Type 0 where
  pub variables : List ℕ
  pub whole : Bool

-- the listed variables are in the set; where the list is whole, they are all of it
pub record IsListing (listed : Listed) (set : List Bool) : Type 0 where
  pub inside : (v : ℕ) → Contains listed.variables v → IsIn set v
  pub all : listed.whole ≡ true → (v : ℕ) → IsIn set v → Contains listed.variables v

-- the variables are those of the set
abbrev pub AreAllOf : List Bool → List ℕ → Type 0
AreAllOf set variables = (v : ℕ) → Contains variables v ↔ IsIn set v

-- so many variables are listed at most
abbrev pub most_listed : ℕ
most_listed = 64

-- how many variables are in the set
abbrev pub size_of : List Bool → ℕ
size_of set = sum_by (λ b. cond b 1 0) set

-- the set has more variables than are listed, or all that there are
abbrev pub AreMany : List Bool → Type 0
AreMany set = (most_listed < size_of set) ⊎ (set ≡ replicate (length set) true)

-- a whole list has no variable twice, so that it is no longer than the set is large; another is of a set of many
pub record IsWorthwhile (listed : Listed) (set : List Bool) : Type 0 where
  pub short : listed.whole ≡ true → length listed.variables ≤ size_of set
  pub many : listed.whole ≡ false → AreMany set

-- one more variable is listed, or the list is full and gives up
abbrev pub HasListed : ℕ → Listed → Listed → Type 0
HasListed v old new =
    ((new.variables ≡ old.variables ++ v ∷ []) × (new.whole ≡ old.whole))
    ⊎ ((new.variables ≡ old.variables) × (new.whole ≡ false) × (length old.variables ≡ most_listed))

-- the variable is listed, unless it is known to be in the set
abbrev pub HasPut : ℕ → Bool → Listed → Listed → Type 0
HasPut v is_known old new = ((is_known ≡ true) × (new ≡ old)) ⊎ ((is_known ≡ false) × HasListed v old new)
