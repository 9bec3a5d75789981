-- What lists of numbers weigh.
use Rattle.std.proofs.Common.{ℕ, zero, suc, ◌≡◌, ◌≢◌, ◌+◌, ◌-◌, ◌*◌, ◌/◌, ◌%◌, ◌<◌, ◌≤◌, List, [], ◌∷◌, ◌++◌, length, Bool, true, false, cond, refl, sym, ap, ◌∙◌, lt_of_not-le, arith, eq-eqb, ne_eqb}
use Rattle.std.specs.Prelude.{◌==◌, flat_map, sum_by, Option, Some, None, option_to_list}
use Rattle.std.proofs.lemmas.List.Sums.{sum_by-append, sum_by-cons, sum_by_push}
use Rattle.std.proofs.lemmas.List.Elements.{filter-append}
use Rattle.std.proofs.Math.Nat.{add-mul-mod_self_left, div-add-mod, mul-suc, mod-eq_of_lt, mod-lt}
use mathlib.Core.Logic.{dite}
use native.Mathlib.Decide.{ℕ_discrete, dec_le}
use Rattle.tickets.specs.Counting.{times, IsEachOnce}
use Rattle.tickets.specs.Seats.{with_drawn}
use Rattle.steal_crew.specs.Numbers.{AreSameNumbers, IsPart, IsOnceAtMost, numbers_below, share}

pub same_refl : (xs : List ℕ) → AreSameNumbers xs xs
same_refl xs = record { weight = λ w. refl }

pub same_of : (xs ys : List ℕ) → xs ≡ ys → AreSameNumbers xs ys
same_of xs ys e = record { weight = λ w. ap (sum_by w) e }

pub sum_by-flat_map : {X : Type 0} (w : ℕ → ℕ) (f : X → List ℕ) (xs : List X) → sum_by w (flat_map f xs) ≡ sum_by (λ x. sum_by w (f x)) xs
sum_by-flat_map w f [] = refl
sum_by-flat_map w f (x ∷ xs) = let a = sum_by-append w (f x) (flat_map f xs) in let b = sum_by-cons (λ y. sum_by w (f y)) x xs in let r = sum_by-flat_map w f xs in omega arith

pub sum_by-plus : {X : Type 0} (f g h : X → ℕ) → ((x : X) → f x ≡ g x + h x) → (xs : List X) → sum_by f xs ≡ sum_by g xs + sum_by h xs
sum_by-plus f g h e [] = refl
sum_by-plus f g h e (x ∷ xs) = let a = sum_by-cons f x xs in let b = sum_by-cons g x xs in let c = sum_by-cons h x xs in let r = sum_by-plus f g h e xs in let d = e x in omega arith

pub sum_by-none : {X : Type 0} (f : X → ℕ) → ((x : X) → f x ≡ 0) → (xs : List X) → sum_by f xs ≡ 0
sum_by-none f e [] = refl
sum_by-none f e (x ∷ xs) = let a = sum_by-cons f x xs in let r = sum_by-none f e xs in let d = e x in omega arith

pub weight-with_drawn : (w : ℕ → ℕ) (found : Option ℕ) (xs : List ℕ) → sum_by w (with_drawn found xs) ≡ sum_by w xs + sum_by w (option_to_list found)
weight-with_drawn w None xs = omega arith
weight-with_drawn w (Some k) xs = let a = sum_by_push w xs k in let b = sum_by-cons w k [] in omega arith

one_more : (k x : ℕ) (xs : List ℕ) → x ≡ k → times k (xs ++ x ∷ []) ≡ suc (times k xs)
one_more k x xs e = let a = sum_by_push (λ (y : ℕ). cond (y == k) 1 0) xs x in let b : cond {A = ℕ} (x == k) 1 0 ≡ 1 = ap (λ (t : Bool). cond t 1 0) (eq-eqb x k e) in omega arith

no_more : (k x : ℕ) (xs : List ℕ) → x ≢ k → times k (xs ++ x ∷ []) ≡ times k xs
no_more k x xs ne = let a = sum_by_push (λ (y : ℕ). cond (y == k) 1 0) xs x in let b : cond {A = ℕ} (x == k) 1 0 ≡ 0 = ap (λ (t : Bool). cond t 1 0) (ne_eqb x k ne) in omega arith

-- each number below n stands once among the numbers below n
pub times-below : (k n : ℕ) → (k < n → times k (numbers_below n) ≡ 1) × (n ≤ k → times k (numbers_below n) ≡ 0)
times-below k zero = ((λ h. absurd (omega arith)), λ h. refl)
times-below k (suc n) = let r = times-below k n in dite (ℕ_discrete n k)
    (λ (e : n ≡ k). let m = one_more k n (numbers_below n) e in let z = r.1 (omega arith) in ((λ h. omega arith), λ h. absurd (omega arith)))
    (λ (ne : n ≢ k). let m = no_more k n (numbers_below n) ne in ((λ h. let a = r.0 (omega arith) in omega arith), λ h. let a = r.1 (omega arith) in omega arith))

pub weight-ones : (xs : List ℕ) → sum_by (λ (x : ℕ). 1) xs ≡ length xs
weight-ones [] = refl
weight-ones (x ∷ xs) = let a = sum_by-cons (λ (y : ℕ). 1) x xs in let r = weight-ones xs in omega arith

pub length-below : (n : ℕ) → length (numbers_below n) ≡ n
length-below zero = refl
length-below (suc n) = let a = sum_by_push (λ (y : ℕ). 1) (numbers_below n) n in let b = weight-ones (numbers_below n) in let c = weight-ones (numbers_below n ++ n ∷ []) in let r = length-below n in omega arith

pub length_of_part : (n : ℕ) (xs : List ℕ) → IsPart xs (numbers_below n) → length xs ≤ n
length_of_part n xs p = let a = p.weight (λ (x : ℕ). 1) in let b = weight-ones xs in let c = weight-ones (numbers_below n) in let d = length-below n in omega arith

pub once_of_part : (n : ℕ) (xs : List ℕ) → IsPart xs (numbers_below n) → IsOnceAtMost n xs
once_of_part n xs p = record {
  once = λ k. let a = p.weight (λ (x : ℕ). cond (x == k) 1 0) in let b = times-below k n in dite (dec_le n k)
      (λ (le : n ≤ k). let z = b.1 le in omega arith)
      (λ (no : ¬ (n ≤ k)). let z = b.0 (omega arith) in omega arith);
  no_other = λ k le. let a = p.weight (λ (x : ℕ). cond (x == k) 1 0) in let z = (times-below k n).1 le in omega arith;
}

pub each_of_same : (n : ℕ) (xs : List ℕ) → AreSameNumbers xs (numbers_below n) → IsEachOnce n xs
each_of_same n xs p = record {
  once = λ k lt. p.weight (λ (x : ℕ). cond (x == k) 1 0) ∙ (times-below k n).0 lt;
  no_other = λ k le. p.weight (λ (x : ℕ). cond (x == k) 1 0) ∙ (times-below k n).1 le;
}

-- a number of a part of them is below n
pub below_of_part : (n k : ℕ) (xs : List ℕ) → IsPart (xs ++ k ∷ []) (numbers_below n) → k < n
below_of_part n k xs p = lt_of_not-le (λ (le : n ≤ k). let z = (once_of_part n (xs ++ k ∷ []) p).no_other k le in let m = one_more k k xs refl in absurd (omega arith))

-- shares
pub share-suc : (n workers rest : ℕ) → share (suc n) workers rest ≡ share n workers rest ++ cond (n % workers == rest) (n ∷ []) []
share-suc n workers rest = filter-append (λ (k : ℕ). k % workers == rest) (numbers_below n) (n ∷ [])

share-with : (n workers rest : ℕ) → n % workers ≡ rest → share (suc n) workers rest ≡ share n workers rest ++ n ∷ []
share-with n workers rest e = share-suc n workers rest ∙ ap (λ (t : Bool). share n workers rest ++ cond t (n ∷ []) []) (eq-eqb (n % workers) rest e)

append-nil : (xs : List ℕ) → xs ++ [] ≡ xs
append-nil [] = refl
append-nil (x ∷ xs) = ap (λ (ys : List ℕ). x ∷ ys) (append-nil xs)

share-without : (n workers rest : ℕ) → n % workers ≢ rest → share (suc n) workers rest ≡ share n workers rest
share-without n workers rest ne = share-suc n workers rest ∙ ap (λ (t : Bool). share n workers rest ++ cond t (n ∷ []) []) (ne_eqb (n % workers) rest ne) ∙ append-nil (share n workers rest)

pub share-none : (n workers rest : ℕ) → n ≤ rest → rest < workers → share n workers rest ≡ []
share-none zero workers rest h l = refl
share-none (suc n) workers rest h l =
    let e : n % workers ≡ n = mod-eq_of_lt (omega arith) in
    share-without n workers rest (λ e2. absurd (omega arith)) ∙ share-none n workers rest (omega arith) l

-- the numbers that follow one leave other rests until as many have come as there are workers
other_rest : (next d workers : ℕ) → 1 ≤ d → d < workers → (next + d) % workers ≢ next % workers
other_rest next d workers some few e =
    let q = next / workers in
    let r = next % workers in
    let whole : workers * q + r ≡ next = div-add-mod next workers in
    let small : r < workers = mod-lt next (omega arith) in
    dite (dec_le workers (r + d))
    (λ (le : workers ≤ r + d).
    let s = (r + d) - workers in
    let a : (s + workers * suc q) % workers ≡ s % workers = add-mul-mod_self_left s workers (suc q) in
    let b : s % workers ≡ s = mod-eq_of_lt (omega arith) in
    let m : workers * suc q ≡ workers * q + workers = mul-suc workers q in
    let c : s + workers * suc q ≡ next + d = omega arith in
    let f : (next + d) % workers ≡ s = ap (λ (x : ℕ). x % workers) (sym c) ∙ a ∙ b in
    absurd (omega arith))
    (λ (no : ¬ (workers ≤ r + d)).
    let s = r + d in
    let a : (s + workers * q) % workers ≡ s % workers = add-mul-mod_self_left s workers q in
    let b : s % workers ≡ s = mod-eq_of_lt (omega arith) in
    let c : s + workers * q ≡ next + d = omega arith in
    let f : (next + d) % workers ≡ s = ap (λ (x : ℕ). x % workers) (sym c) ∙ a ∙ b in
    absurd (omega arith))

share-gap : (d next m workers rest : ℕ) → m ≡ next + suc d → d < workers → next % workers ≡ rest → share m workers rest ≡ share next workers rest ++ next ∷ []
share-gap zero next m workers rest e few is = let a : m ≡ suc next = omega arith in ap (λ (x : ℕ). share x workers rest) a ∙ share-with next workers rest is
share-gap (suc d) next m workers rest e few is =
    let a : m ≡ suc (next + suc d) = omega arith in
    ap (λ (x : ℕ). share x workers rest) a
    ∙ share-without (next + suc d) workers rest (λ e2. other_rest next (suc d) workers (omega arith) few (e2 ∙ sym is))
    ∙ share-gap d next (next + suc d) workers rest refl (omega arith) is

pub share-step : (next m workers rest : ℕ) → next < m → m ≤ next + workers → next % workers ≡ rest → share m workers rest ≡ share next workers rest ++ next ∷ []
share-step next m workers rest lt le is = share-gap (m - suc next) next m workers rest (omega arith) (omega arith) is

-- of a list of rests, one number stands in the share of one
pick : (c x m : ℕ) → (x < m → sum_by (λ (r : ℕ). cond (x == r) c 0) (numbers_below m) ≡ c) × (m ≤ x → sum_by (λ (r : ℕ). cond (x == r) c 0) (numbers_below m) ≡ 0)
pick c x zero = ((λ h. absurd (omega arith)), λ h. refl)
pick c x (suc m) =
    let r = pick c x m in
    let a = sum_by_push (λ (y : ℕ). cond (x == y) c 0) (numbers_below m) m in
    dite (ℕ_discrete x m)
    (λ (e : x ≡ m). let b : cond (x == m) c 0 ≡ c = ap (λ (t : Bool). cond t c 0) (eq-eqb x m e) in let z = r.1 (omega arith) in ((λ h. omega arith), λ h. absurd (omega arith)))
    (λ (ne : x ≢ m). let b : cond (x == m) c 0 ≡ 0 = ap (λ (t : Bool). cond t c 0) (ne_eqb x m ne) in ((λ h. let z = r.0 (omega arith) in omega arith), λ h. let z = r.1 (omega arith) in omega arith))

weight-share : (w : ℕ → ℕ) (n workers rest : ℕ) → sum_by w (share (suc n) workers rest) ≡ sum_by w (share n workers rest) + cond (n % workers == rest) (w n) 0
weight-share w n workers rest = ap (sum_by w) (share-suc n workers rest) ∙ sum_by-append w (share n workers rest) (cond (n % workers == rest) (n ∷ []) []) ∙ ap (λ (x : ℕ). sum_by w (share n workers rest) + x) (both (n % workers == rest))
  where
    both : (t : Bool) → sum_by w (cond t (n ∷ []) []) ≡ cond t (w n) 0
    both true = sum_by-cons w n [] ∙ omega arith
    both false = refl

weight-shares : (w : ℕ → ℕ) (n workers : ℕ) → 1 ≤ workers → sum_by (λ (r : ℕ). sum_by w (share n workers r)) (numbers_below workers) ≡ sum_by w (numbers_below n)
weight-shares w zero workers some = sum_by-none (λ (r : ℕ). sum_by w (share 0 workers r)) (λ r. refl) (numbers_below workers)
weight-shares w (suc n) workers some =
    let a = sum_by-plus (λ (r : ℕ). sum_by w (share (suc n) workers r)) (λ (r : ℕ). sum_by w (share n workers r)) (λ (r : ℕ). cond (n % workers == r) (w n) 0) (λ r. weight-share w n workers r) (numbers_below workers) in
    let b = (pick (w n) (n % workers) workers).0 (mod-lt n (omega arith)) in
    let c = sum_by_push w (numbers_below n) n in
    let r = weight-shares w n workers some in omega arith

-- all shares together
pub all_shares : (n workers : ℕ) → 1 ≤ workers → AreSameNumbers (flat_map (share n workers) (numbers_below workers)) (numbers_below n)
all_shares n workers some = record { weight = λ w. sum_by-flat_map w (share n workers) (numbers_below workers) ∙ weight-shares w n workers some }
