-- Values in a list.
use Rattle.std.specs.Prelude.{ℕ, ℤ, ◌≡◌, ◌≤◌, ◌≤ℤ◌, ◌⊎◌, List, [], ◌∷◌, Option, None, Some}

-- the value stands somewhere in the list
abbrev pub Among : {A : Type 0} → List A → A → Type 0
Among [] x = ⊥
Among (y ∷ ys) x = (y ≡ x) ⊎ Among ys x

-- the list with the answer of a look before it, where it is a value
abbrev pub with_seen : {A : Type 0} → Option A → List A → List A
with_seen None xs = xs
with_seen (Some x) xs = x ∷ xs

-- the least cost of the list, or none where the list is empty
abbrev pub IsLeastCost : List ℤ → Option ℤ → Type 0
IsLeastCost costs None = costs ≡ []
IsLeastCost costs (Some cost) = Among costs cost × ((c : ℤ) → Among costs c → cost ≤ℤ c)

-- the answer is at or below all costs of the list, or none where the list is empty
abbrev pub IsCostBelow : List ℤ → Option ℤ → Type 0
IsCostBelow costs None = costs ≡ []
IsCostBelow costs (Some cost) = (c : ℤ) → Among costs c → cost ≤ℤ c

-- the least number of the list, or none where the list is empty
abbrev pub IsLeastNumber : List ℕ → Option ℕ → Type 0
IsLeastNumber numbers None = numbers ≡ []
IsLeastNumber numbers (Some number) = Among numbers number × ((n : ℕ) → Among numbers n → number ≤ n)

-- the answer is at or below all numbers of the list, or none where the list is empty
abbrev pub IsNumberBelow : List ℕ → Option ℕ → Type 0
IsNumberBelow numbers None = numbers ≡ []
IsNumberBelow numbers (Some number) = (n : ℕ) → Among numbers n → number ≤ n
