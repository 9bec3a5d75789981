-- The first true answer of a test along a range is at the first place that fails.
use Rattle.std.proofs.Common.{◌≡◌, ◌+◌, ◌<◌, ◌≤◌, ◌^◌, ◌⊎◌, ◌-◌, ℕ, zero, suc, Bool, true, false, List, [], ◌∷◌, Option, Some, None, min, arith, ⊎_elim, subst, sym, IfSome}
use Rattle.std.specs.Option.{option_map}
use Rattle.std.specs.List.{AllZip, range_with_len}
use Rattle.std.proofs.lemmas.Bool.{cases_lt}
use Rattle.rayon.specs.Lists.{first_true}
use Rattle.fzn_check.specs.Wrong.{IsFirstFailing}

-- a found place, counted from a, is the first of n at which the fact fails
abbrev pub FirstFrom : (ℕ → Type 0) → ℕ → ℕ → Option ℕ → Type 0
FirstFrom holds a n None = (j : ℕ) → a ≤ j → j < a + n → holds j
FirstFrom holds a n (Some k) = (k < n) × (¬ holds (a + k)) × ((j : ℕ) → a ≤ j → j < a + k → holds j)

from_next : (holds : ℕ → Type 0) (a j : ℕ) → holds a → (a + 1 ≤ j → holds j) → a ≤ j → holds j
from_next holds a j here later le =
    ⊎_elim (λ less. later (omega arith)) (λ more. (let e : a ≡ j = omega arith in subst holds e here)) (cases_lt a j)

one_later : (holds : ℕ → Type 0) (a n : ℕ) (o : Option ℕ) → n + 1 < 2 ^ 64 → holds a → FirstFrom holds (a + 1) n o
    → FirstFrom holds a (suc n) (option_map (λ k. min (k + 1) (2 ^ 64 - 1)) o)
one_later holds a n None short here rest = λ j le lt. from_next holds a j here (λ more. rest j more (omega arith)) le
one_later holds a n (Some k) short here rest =
    let inside = rest.0 in
    let e : min (k + 1) (2 ^ 64 - 1) ≡ k + 1 = omega arith in
    let at : a + 1 + k ≡ a + (k + 1) = omega arith in
    subst (λ m. (m < suc n) × (¬ holds (a + m)) × ((j : ℕ) → a ≤ j → j < a + m → holds j)) (sym e)
    (omega arith, subst (λ m. ¬ holds m) at rest.1, λ j le lt. from_next holds a j here (λ more. rest.2 j more (omega arith)) le)

pub first_from : (holds : ℕ → Type 0) (R : ℕ → Bool → Type 0) → ((i : ℕ) → R i true → ¬ holds i) → ((i : ℕ) → R i false → holds i)
    → (a n : ℕ) (bs : List Bool) → n < 2 ^ 64 → AllZip R (range_with_len a n) bs → FirstFrom holds a n (first_true bs)
first_from holds R wrong right a zero [] short h = λ j le lt. absurd (omega arith)
first_from holds R wrong right a zero (b ∷ bs) short h = absurd h
first_from holds R wrong right a (suc n) [] short h = absurd h
first_from holds R wrong right a (suc n) (true ∷ bs) short h =
    let e : a ≡ a + 0 = omega arith in
    (omega arith, subst (λ m. ¬ holds m) e (wrong a h.0), λ j le lt. absurd (omega arith))
first_from holds R wrong right a (suc n) (false ∷ bs) short h =
    one_later holds a n (first_true bs) (omega arith) (right a h.0) (first_from holds R wrong right (a + 1) n bs (omega arith) h.1)

-- counted from the start
zero_add : (k : ℕ) → 0 + k ≡ k
zero_add k = omega arith

pub from_start : (holds : ℕ → Type 0) (n : ℕ) (o : Option ℕ) → FirstFrom holds 0 n o → IsFirstFailing holds n o
from_start holds n None h = λ j lt. h j (omega arith) (omega arith)
from_start holds n (Some k) h = record { inside = h.0; fails = subst (λ m. ¬ holds m) (zero_add k) h.1; before = λ j lt. h.2 j (omega arith) (omega arith) }

pub short_place : (holds : ℕ → Type 0) (n : ℕ) (o : Option ℕ) → n < 2 ^ 64 → FirstFrom holds 0 n o → IfSome o (λ place. place + 1 < 2 ^ 64)
short_place holds n None short h = tt
short_place holds n (Some k) short h = let inside = h.0 in omega arith
