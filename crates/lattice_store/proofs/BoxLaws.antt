-- The boxes of lists of words, and the codes of boxes, place by place.
use Rattle.std.proofs.Common.{ℕ, zero, suc, ◌≡◌, ◌⊎◌, ◌+◌, ◌-◌, ◌*◌, ◌/◌, ◌<◌, ◌≤◌, List, [], ◌∷◌, length, get_or, set, refl, ap, arith}
use Rattle.interval.specs.Boxes.{Bounds, low_of, high_of, put_of}
use Rattle.lattice_store.specs.Words.{code_of, low_code, high_code, low_value, high_value, pair_codes, codes_of, pairs_of, box_of}

-- each place after the first is that of a lower or of an upper bound
pub parity : (k : ℕ) → 1 ≤ k → (v : ℕ) × ((k ≡ 2 * v + 1) ⊎ (k ≡ 2 * v + 2))
parity k h = ((k - 1) / 2, grind arith)

pub pair_codes-length : (b : Bounds) → length (pair_codes b) ≡ 2 * length b
unfolding pair_codes
pair_codes-length [] = refl
pair_codes-length (p ∷ b) = let e = pair_codes-length b in omega arith

pub low-at : (b : Bounds) (v : ℕ) → v < length b → get_or (pair_codes b) (2 * v) 0 ≡ low_code (low_of b v)
unfolding pair_codes
low-at [] v h = absurd (omega arith)
low-at (p ∷ b) zero h = refl
low-at (p ∷ b) (suc v) h = let e : 2 * suc v ≡ suc (suc (2 * v)) = omega arith in rw e (low-at b v (omega arith))

pub high-at : (b : Bounds) (v : ℕ) → v < length b → get_or (pair_codes b) (2 * v + 1) 0 ≡ high_code (high_of b v)
unfolding pair_codes
high-at [] v h = absurd (omega arith)
high-at (p ∷ b) zero h = refl
high-at (p ∷ b) (suc v) h = let e : 2 * suc v + 1 ≡ suc (suc (2 * v + 1)) = omega arith in rw e (high-at b v (omega arith))

pub pairs-length : (ws : List ℕ) (n : ℕ) → length ws ≡ 2 * n → length (pairs_of ws) ≡ n
unfolding pairs_of
pairs-length [] n e = omega arith
pairs-length (x ∷ []) n e = absurd (omega arith)
pairs-length (x ∷ y ∷ ws) zero e = absurd (omega arith)
pairs-length (x ∷ y ∷ ws) (suc n) e = ap suc (pairs-length ws n (omega arith))

pub pairs-low : (ws : List ℕ) (v : ℕ) → 2 * v + 1 < length ws → low_of (pairs_of ws) v ≡ low_value (code_of (get_or ws (2 * v) 0))
unfolding pairs_of
pairs-low [] v h = absurd (omega arith)
pairs-low (x ∷ []) v h = absurd (omega arith)
pairs-low (x ∷ y ∷ ws) zero h = refl
pairs-low (x ∷ y ∷ ws) (suc v) h = let e : 2 * suc v ≡ suc (suc (2 * v)) = omega arith in rw e (pairs-low ws v (omega arith))

pub pairs-high : (ws : List ℕ) (v : ℕ) → 2 * v + 1 < length ws → high_of (pairs_of ws) v ≡ high_value (code_of (get_or ws (2 * v + 1) 0))
unfolding pairs_of
pairs-high [] v h = absurd (omega arith)
pairs-high (x ∷ []) v h = absurd (omega arith)
pairs-high (x ∷ y ∷ ws) zero h = refl
pairs-high (x ∷ y ∷ ws) (suc v) h = let e : 2 * suc v + 1 ≡ suc (suc (2 * v + 1)) = omega arith in rw e (pairs-high ws v (omega arith))

pub pairs-set_low : (ws : List ℕ) (v x : ℕ) → 2 * v + 1 < length ws → pairs_of (set ws (2 * v) x) ≡ put_of (pairs_of ws) v (low_value (code_of x)) (high_of (pairs_of ws) v)
unfolding pairs_of
pairs-set_low [] v x h = absurd (omega arith)
pairs-set_low (y ∷ []) v x h = absurd (omega arith)
pairs-set_low (y ∷ z ∷ ws) zero x h = refl
pairs-set_low (y ∷ z ∷ ws) (suc v) x h = let e : 2 * suc v ≡ suc (suc (2 * v)) = omega arith in rw e (ap (λ b. (low_value (code_of y), high_value (code_of z)) ∷ b) (pairs-set_low ws v x (omega arith)))

pub pairs-set_high : (ws : List ℕ) (v x : ℕ) → 2 * v + 1 < length ws → pairs_of (set ws (2 * v + 1) x) ≡ put_of (pairs_of ws) v (low_of (pairs_of ws) v) (high_value (code_of x))
unfolding pairs_of
pairs-set_high [] v x h = absurd (omega arith)
pairs-set_high (y ∷ []) v x h = absurd (omega arith)
pairs-set_high (y ∷ z ∷ ws) zero x h = refl
pairs-set_high (y ∷ z ∷ ws) (suc v) x h = let e : 2 * suc v + 1 ≡ suc (suc (2 * v + 1)) = omega arith in rw e (ap (λ b. (low_value (code_of y), high_value (code_of z)) ∷ b) (pairs-set_high ws v x (omega arith)))

-- two boxes with the same bounds at each variable
pub same_box : (b c : Bounds) → length b ≡ length c → ((v : ℕ) → v < length b → (low_of b v ≡ low_of c v) × (high_of b v ≡ high_of c v)) → b ≡ c
same_box [] [] e h = refl
same_box [] (q ∷ c) e h = absurd (omega arith)
same_box (p ∷ b) [] e h = absurd (omega arith)
same_box (p ∷ b) (q ∷ c) e h = let z = h 0 (omega arith) in let r = same_box b c (omega arith) (λ v k. h (suc v) (omega arith)) in λ i. (z.0 i, z.1 i) ∷ r i

pub box-length : (ws : List ℕ) (n : ℕ) → length ws ≡ 2 * n + 1 → length (box_of ws) ≡ n
unfolding box_of
box-length [] n e = absurd (omega arith)
box-length (x ∷ ws) n e = pairs-length ws n (omega arith)

pub box-low : (ws : List ℕ) (v : ℕ) → 2 * v + 2 < length ws → low_of (box_of ws) v ≡ low_value (code_of (get_or ws (2 * v + 1) 0))
unfolding box_of
box-low [] v h = absurd (omega arith)
box-low (x ∷ ws) v h = let e : 2 * v + 1 ≡ suc (2 * v) = omega arith in rw e (pairs-low ws v (omega arith))

pub box-high : (ws : List ℕ) (v : ℕ) → 2 * v + 2 < length ws → high_of (box_of ws) v ≡ high_value (code_of (get_or ws (2 * v + 2) 0))
unfolding box_of
box-high [] v h = absurd (omega arith)
box-high (x ∷ ws) v h = let e : 2 * v + 2 ≡ suc (2 * v + 1) = omega arith in rw e (pairs-high ws v (omega arith))

pub box-set_low : (ws : List ℕ) (v x : ℕ) → 2 * v + 2 < length ws → box_of (set ws (2 * v + 1) x) ≡ put_of (box_of ws) v (low_value (code_of x)) (high_of (box_of ws) v)
unfolding box_of
box-set_low [] v x h = absurd (omega arith)
box-set_low (y ∷ ws) v x h = let e : 2 * v + 1 ≡ suc (2 * v) = omega arith in rw e (pairs-set_low ws v x (omega arith))

pub box-set_high : (ws : List ℕ) (v x : ℕ) → 2 * v + 2 < length ws → box_of (set ws (2 * v + 2) x) ≡ put_of (box_of ws) v (low_of (box_of ws) v) (high_value (code_of x))
unfolding box_of
box-set_high [] v x h = absurd (omega arith)
box-set_high (y ∷ ws) v x h = let e : 2 * v + 2 ≡ suc (2 * v + 1) = omega arith in rw e (pairs-set_high ws v x (omega arith))

pub code-low : (b : Bounds) (v : ℕ) → v < length b → get_or (codes_of b) (2 * v + 1) 0 ≡ low_code (low_of b v)
code-low b v h = let e : 2 * v + 1 ≡ suc (2 * v) = omega arith in rw e (low-at b v h)

pub code-high : (b : Bounds) (v : ℕ) → v < length b → get_or (codes_of b) (2 * v + 2) 0 ≡ high_code (high_of b v)
code-high b v h = let e : 2 * v + 2 ≡ suc (2 * v + 1) = omega arith in rw e (high-at b v h)
