-- Bounds and their distances from the least one.
use Rattle.std.proofs.Common.{ℕ, ℤ, ◌≡◌, ◌⊎◌, ◌*◌, ◌≤◌, ◌≤ℤ◌, max, min, ⊎_elim, ap, arith}
use mir.Val.{to_z, of_z}
use mir.Syntax.{w64}
use Rattle.std.specs.Int.{int_max, int_min}
use Rattle.std.proofs.lemmas.Int.{ints, clamps}
use Rattle.interval.specs.Limits.{bound_limit, largest_number, IsBound}
use Rattle.mix_store.specs.Words.{distance, bound_at}

pub distance_word : (z : ℤ) → IsBound z → (distance z ≤ 2 * bound_limit) × (bound_at (distance z) ≡ z)
unfolding distance bound_at bound_limit largest_number
distance_word z h = (grind (arith, ints), grind (arith, ints))

pub distance-bound_at : (n : ℕ) → distance (bound_at n) ≡ n
unfolding distance bound_at bound_limit largest_number
distance-bound_at n = grind (arith, ints)

pub bound_range : (n : ℕ) → n ≤ 2 * bound_limit → IsBound (bound_at n)
unfolding bound_at bound_limit largest_number
bound_range n h = grind (arith, ints)

pub distance_rises : (y z : ℤ) → y ≤ℤ z → distance y ≤ distance z
unfolding distance
distance_rises y z h = grind (arith, ints)

-- a bound whose distance is at most n
pub under : (z : ℤ) (n : ℕ) → distance z ≤ n → z ≤ℤ bound_at n
unfolding distance bound_at
under z n h = grind (arith, ints)

-- a number that is at least some bound, and lies at least n above the least one
pub over : (y z : ℤ) (n : ℕ) → IsBound y → y ≤ℤ z → n ≤ distance z → bound_at n ≤ℤ z
unfolding distance bound_at bound_limit largest_number
over y z n b le h = grind (arith, ints)

which : (y z : ℤ) → (y ≤ℤ z) ⊎ (z ≤ℤ y)
which y z = grind (arith, ints)

max_right : (a b : ℤ) → a ≤ℤ b → int_max a b ≡ b
max_right a b h = grind (arith, ints, clamps)

max_left : (a b : ℤ) → b ≤ℤ a → int_max a b ≡ a
max_left a b h = grind (arith, ints, clamps)

min_left : (a b : ℤ) → a ≤ℤ b → int_min a b ≡ a
min_left a b h = grind (arith, ints, clamps)

min_right : (a b : ℤ) → b ≤ℤ a → int_min a b ≡ b
min_right a b h = grind (arith, ints, clamps)

greater : (a b c : ℕ) → a ≤ b → c ≡ b → max a b ≡ c
greater a b c h e = omega arith

greater_back : (a b c : ℕ) → b ≤ a → c ≡ a → max a b ≡ c
greater_back a b c h e = omega arith

lesser : (a b c : ℕ) → a ≤ b → c ≡ a → min a b ≡ c
lesser a b c h e = omega arith

lesser_back : (a b c : ℕ) → b ≤ a → c ≡ b → min a b ≡ c
lesser_back a b c h e = omega arith

pub distance-max : (a b : ℤ) → max (distance a) (distance b) ≡ distance (int_max a b)
distance-max a b = ⊎_elim
    (λ (h : a ≤ℤ b). greater (distance a) (distance b) (distance (int_max a b)) (distance_rises a b h) (ap distance (max_right a b h)))
    (λ (h : b ≤ℤ a). greater_back (distance a) (distance b) (distance (int_max a b)) (distance_rises b a h) (ap distance (max_left a b h)))
    (which a b)

pub distance-min : (a b : ℤ) → min (distance a) (distance b) ≡ distance (int_min a b)
distance-min a b = ⊎_elim
    (λ (h : a ≤ℤ b). lesser (distance a) (distance b) (distance (int_min a b)) (distance_rises a b h) (ap distance (min_left a b h)))
    (λ (h : b ≤ℤ a). lesser_back (distance a) (distance b) (distance (int_min a b)) (distance_rises b a h) (ap distance (min_right a b h)))
    (which a b)

pub through : (a b c : ℤ) → a ≤ℤ b → b ≤ℤ c → a ≤ℤ c
through a b c h g = omega (arith, ints)

-- a bound is read as it was written
pub cast_bound : (z : ℤ) → IsBound z → to_z w64 (of_z w64 z) ≡ z
unfolding bound_limit largest_number
cast_bound z h = omega (arith, ints)

-- a bound whose distance is at least n
pub over_min : (z : ℤ) (n : ℕ) → IsBound z → n ≤ distance z → bound_at n ≤ℤ z
unfolding distance bound_at bound_limit largest_number
over_min z n b h = grind (arith, ints)
