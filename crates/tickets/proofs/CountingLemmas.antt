-- How often a number stands in a list.
use Rattle.std.proofs.Common.{ℕ, zero, suc, ◌≡◌, ◌≢◌, ◌+◌, ◌<◌, ◌≤◌, List, [], ◌∷◌, ◌++◌, length, Bool, cond, refl, sym, ap, ◌∙◌, lt_of_not-le, arith, eq-eqb, ne_eqb}
use Rattle.std.specs.Prelude.{◌==◌, slice_index}
use Rattle.std.proofs.lemmas.List.Sums.{sum_by-append, sum_by-cons}
use mathlib.Core.Logic.{dite}
use native.Mathlib.Decide.{ℕ_discrete}
use Rattle.tickets.specs.Counting.{times, IsEachOnce}

pub times-append : (k : ℕ) (xs ys : List ℕ) → times k (xs ++ ys) ≡ times k xs + times k ys
times-append k xs ys = sum_by-append (λ x. cond (x == k) 1 0) xs ys

times-cons : (k x : ℕ) (xs : List ℕ) → times k (x ∷ xs) ≡ cond (x == k) 1 0 + times k xs
times-cons k x xs = sum_by-cons (λ y. cond (y == k) 1 0) x xs

pub times-same : (k x : ℕ) (xs : List ℕ) → x ≡ k → times k (x ∷ xs) ≡ suc (times k xs)
times-same k x xs e = let a : times k (x ∷ xs) ≡ 1 + times k xs = times-cons k x xs ∙ ap (λ (b : Bool). cond b 1 0 + times k xs) (eq-eqb x k e) in omega arith

pub times-other : (k x : ℕ) (xs : List ℕ) → x ≢ k → times k (x ∷ xs) ≡ times k xs
times-other k x xs ne = let a : times k (x ∷ xs) ≡ 0 + times k xs = times-cons k x xs ∙ ap (λ (b : Bool). cond b 1 0 + times k xs) (ne_eqb x k ne) in omega arith

pub times-more : (k x : ℕ) (xs : List ℕ) → times k xs ≤ times k (x ∷ xs)
times-more k x xs = let c = times-cons k x xs in omega arith

-- the number stands at a place of the list
pub times-at : (k i : ℕ) (xs : List ℕ) → i < length xs → slice_index xs i ≡ k → 1 ≤ times k xs
times-at k i [] h e = absurd (omega arith)
times-at k zero (x ∷ xs) h e = let s = times-same k x xs e in omega arith
times-at k (suc i) (x ∷ xs) h e = let r = times-at k i xs (omega arith) e in let m = times-more k x xs in omega arith

pub place_of : (k : ℕ) (xs : List ℕ) → 1 ≤ times k xs → (i : ℕ) × (i < length xs) × (slice_index xs i ≡ k)
place_of k [] h = absurd (omega arith)
place_of k (x ∷ xs) h = dite (ℕ_discrete x k)
    (λ (e : x ≡ k). (0, omega arith, e))
    (λ (ne : x ≢ k). let s = times-other k x xs ne in let r = place_of k xs (omega arith) in (suc r.0, (let b = r.1 in omega arith), r.2))

pub times-twice : (k i j : ℕ) (xs : List ℕ) → i < j → j < length xs → slice_index xs i ≡ k → slice_index xs j ≡ k → 2 ≤ times k xs
times-twice k i j [] h l e f = absurd (omega arith)
times-twice k zero zero (x ∷ xs) h l e f = absurd (omega arith)
times-twice k zero (suc j) (x ∷ xs) h l e f = let s = times-same k x xs e in let r = times-at k j xs (omega arith) f in omega arith
times-twice k (suc i) zero (x ∷ xs) h l e f = absurd (omega arith)
times-twice k (suc i) (suc j) (x ∷ xs) h l e f = let r = times-twice k i j xs (omega arith) (omega arith) e f in let m = times-more k x xs in omega arith

-- the numbers below n stand so often in the list together
abbrev times_below : ℕ → List ℕ → ℕ
times_below zero xs = 0
times_below (suc n) xs = times_below n xs + times n xs

times_below-nil : (n : ℕ) → times_below n [] ≡ 0
times_below-nil zero = refl
times_below-nil (suc n) = let r = times_below-nil n in omega arith

times_below-cons : (n x : ℕ) (xs : List ℕ) → (x < n → times_below n (x ∷ xs) ≡ suc (times_below n xs)) × (n ≤ x → times_below n (x ∷ xs) ≡ times_below n xs)
times_below-cons zero x xs = ((λ h. absurd (omega arith)), λ h. refl)
times_below-cons (suc n) x xs = let r = times_below-cons n x xs in dite (ℕ_discrete x n)
    (λ (e : x ≡ n). let s = times-same n x xs e in let a = r.1 (omega arith) in ((λ h. omega arith), λ h. absurd (omega arith)))
    (λ (ne : x ≢ n). let s = times-other n x xs ne in ((λ h. let a = r.0 (omega arith) in omega arith), λ h. let a = r.1 (omega arith) in omega arith))

length_of_below : (n : ℕ) (xs : List ℕ) → ((k : ℕ) → n ≤ k → times k xs ≡ 0) → length xs ≡ times_below n xs
length_of_below n [] h = sym (times_below-nil n)
length_of_below n (x ∷ xs) h =
    let below : x < n = lt_of_not-le (λ (le : n ≤ x). let s = times-same x x xs refl in let z = h x le in absurd (omega arith)) in
    let c = (times_below-cons n x xs).0 below in
    let r = length_of_below n xs (λ k le. let m = times-more k x xs in let z = h k le in omega arith) in omega arith

below_of_each : (n m : ℕ) (xs : List ℕ) → m ≤ n → ((k : ℕ) → k < n → times k xs ≡ 1) → times_below m xs ≡ m
below_of_each n zero xs le h = refl
below_of_each n (suc m) xs le h = let r = below_of_each n m xs (omega arith) h in let o = h m (omega arith) in omega arith

pub length_of_each : (n : ℕ) (xs : List ℕ) → IsEachOnce n xs → length xs ≡ n
length_of_each n xs e = length_of_below n xs e.no_other ∙ below_of_each n n xs (omega arith) e.once
