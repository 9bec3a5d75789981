-- The spaced numbers are a solution of what a made text means.
use Rattle.std.proofs.Common.{◌≡◌, ◌<◌, ◌≤◌, ◌+◌, ◌-◌, ◌*◌, ℕ, zero, suc, List, [], ◌∷◌, sym, subst, arith}
use Rattle.std.specs.Prelude.{map, pos, negsuc, neg_ℤ, ℤ, ◌*ℤ◌, ◌+ℤ◌, ◌≤ℤ◌, slice_index_or, All}
use Rattle.std.specs.List.{range_with_len}
use Rattle.std.proofs.lemmas.Int.{ints}
use Rattle.std.proofs.lemmas.List.Elements.{All-cons}
use Rattle.std.proofs.lemmas.List.FromFn.{get_or-map-range_with_len}
use Rattle.constraint_model.specs.declared.model.Constraint.{Constraint}
use Rattle.constraint_model.specs.Relations.{HoldsOn, Holds, IsWithin}
use Rattle.made_laws.specs.Models.{spaced}
use Rattle.made_laws.proofs.States.{variable_at, vars_of, order_constraint}
use Rattle.made_laws.proofs.Orders.{IsOrder}

within_from : (n a m : ℕ) → a + m ≤ n → IsWithin (map (λ i. pos (9 * i)) (range_with_len a m)) (map (variable_at (9 * n)) (range_with_len a m))
within_from n a zero h = tt
within_from n a (suc m) h = (omega (arith, ints), omega (arith, ints), within_from n (a + 1) m (omega arith))

pub spaced_within : (n : ℕ) → IsWithin (spaced n) (vars_of (9 * n) n)
spaced_within n = within_from n 0 n (omega arith)

gap_kept : (x y d : ℕ) → x + d ≤ y → ((pos 1 *ℤ pos x) +ℤ ((negsuc 0 *ℤ pos y) +ℤ pos 0)) ≤ℤ neg_ℤ (pos d)
gap_kept x y d h = omega (arith, ints)

spaced_at : (n i : ℕ) → i < n → slice_index_or (spaced n) i (pos 0) ≡ pos (9 * i)
spaced_at n i h = get_or-map-range_with_len (λ k. pos (9 * k)) 0 n i i (pos 0) h (omega arith)

pub order_holds : (n a b d : ℕ) → IsOrder n a b d → Holds (order_constraint a b d) (spaced n)
unfolding HoldsOn
order_holds n a b d w =
    let first = spaced_at n (a - 1) (let r = w.rises in let k = w.within in let c = w.counted in omega arith) in
    let second = spaced_at n (b - 1) (let r = w.rises in let k = w.within in let c = w.counted in omega arith) in
    let kept : 9 * (a - 1) + d ≤ 9 * (b - 1) = let r = w.rises in let g = w.small in let c = w.counted in omega arith in
    subst (λ (x : ℤ). ((pos 1 *ℤ x) +ℤ ((negsuc 0 *ℤ slice_index_or (spaced n) (b - 1) (pos 0)) +ℤ pos 0)) ≤ℤ neg_ℤ (pos d)) (sym first)
    (subst (λ (y : ℤ). ((pos 1 *ℤ pos (9 * (a - 1))) +ℤ ((negsuc 0 *ℤ y) +ℤ pos 0)) ≤ℤ neg_ℤ (pos d)) (sym second) (gap_kept (9 * (a - 1)) (9 * (b - 1)) d kept))

-- a constraint of each of these holds
pub all_hold : {A : Type 0} (a : List ℤ) (constraint : A → Constraint) → ((x : A) → Holds (constraint x) a) → (xs : List A) → All (λ c. Holds c a) (map constraint xs)
all_hold a constraint each [] = λ k d h. absurd (omega arith)
all_hold a constraint each (x ∷ xs) = All-cons (λ c. Holds c a) (constraint x) (map constraint xs) (each x) (all_hold a constraint each xs)
