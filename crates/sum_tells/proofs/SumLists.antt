-- Sums over lists of terms.
use Rattle.std.proofs.Common.{◌≡◌, ℕ, zero, suc, ◌<◌, List, [], ◌∷◌, length, get_or, ℤ, ◌+ℤ◌, ◌-ℤ◌, ◌≤ℤ◌, refl, arith}
use Rattle.std.proofs.lemmas.Int.{ints}
use Rattle.sum_tells.specs.Linear.{Term, sum_over}

pub sum_rises : (f g : Term → ℤ) (ts : List Term) (e : Term) → ((i : ℕ) → i < length ts → f (get_or ts i e) ≤ℤ g (get_or ts i e)) → sum_over f ts ≤ℤ sum_over g ts
unfolding sum_over
sum_rises f g [] e h = omega (arith, ints)
sum_rises f g (t ∷ ts) e h =
    let first = h 0 (omega arith) in
    let rest = sum_rises f g ts e (λ i l. h (suc i) (omega arith)) in
    omega (arith, ints)

-- the sums without one term
pub sum_rises_without : (f g : Term → ℤ) (ts : List Term) (e : Term) (k : ℕ) → k < length ts → ((i : ℕ) → i < length ts → f (get_or ts i e) ≤ℤ g (get_or ts i e))
    → (sum_over f ts -ℤ f (get_or ts k e)) ≤ℤ (sum_over g ts -ℤ g (get_or ts k e))
unfolding sum_over
sum_rises_without f g [] e k l h = absurd (omega arith)
sum_rises_without f g (t ∷ ts) e zero l h =
    let rest = sum_rises f g ts e (λ i l. h (suc i) (omega arith)) in
    omega (arith, ints)
sum_rises_without f g (t ∷ ts) e (suc k) l h =
    let first = h 0 (omega arith) in
    let rest = sum_rises_without f g ts e k (omega arith) (λ i l. h (suc i) (omega arith)) in
    omega (arith, ints)

pub sum_same : (f g : Term → ℤ) (ts : List Term) (e : Term) → ((i : ℕ) → i < length ts → f (get_or ts i e) ≡ g (get_or ts i e)) → sum_over f ts ≡ sum_over g ts
unfolding sum_over
sum_same f g [] e h = refl
sum_same f g (t ∷ ts) e h =
    let first = h 0 (omega arith) in
    let rest = sum_same f g ts e (λ i l. h (suc i) (omega arith)) in
    (λ i. first i +ℤ rest i)
