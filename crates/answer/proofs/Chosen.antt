-- Where each number was run once, one result can be chosen for each number: those of the runs, in order.
use Rattle.std.proofs.Common.{◌≡◌, ◌≢◌, ℕ, zero, suc, ◌+◌, ◌<◌, ◌≤◌, List, [], ◌∷◌, length, map, slice_get, Contains, Some, refl, sym, ap, subst, ◌∙◌, arith}
use mathlib.Core.Logic.{dite}
use native.Mathlib.Decide.{ℕ_discrete, dec_le}
use Rattle.std.proofs.lemmas.List.{length-map}
use Rattle.std.proofs.Math.ListN.{get_or-map}
use Rattle.tickets.specs.Counting.{times, IsEachOnce, CountingLaws}
use Rattle.crew.specs.Ends.{numbers_of, AreInOrder}
use Rattle.answer.specs.Places.{StandsAt}
use Rattle.answer.proofs.RunLists.{nothing_there}
use Rattle.answer.proofs.LeastRunLists.{contains_later}

-- ---- entries of lists

-- what stands at a place of the images is the image of what stands there
pub mapped_at : {A B : Type 0} (f : A → B) (xs : List A) (place : ℕ) (y : B) → StandsAt (map f xs) place y → (x : A) × StandsAt xs place x × (f x ≡ y)
mapped_at f [] place y h = absurd cc
mapped_at f (x ∷ xs) zero y h = (x, refl, cc)
mapped_at f (x ∷ xs) (suc place) y h = mapped_at f xs place y h

contains_mapped : {A B : Type 0} (f : A → B) (xs : List A) (x : A) → Contains xs x → Contains (map f xs) (f x)
contains_mapped f xs x (k, l, e) = (k, (let n = length-map xs f in omega arith), get_or-map f xs k x ∙ ap f e)

pub entry : {A : Type 0} (xs : List A) (place : ℕ) → place < length xs → (x : A) × StandsAt xs place x
entry [] place l = absurd (omega arith)
entry (x ∷ xs) zero l = (x, refl)
entry (x ∷ xs) (suc place) l = entry xs place (omega arith)

pub same_entries : {A : Type 0} (xs ys : List A) → length xs ≡ length ys → ((place : ℕ) (x : A) → StandsAt xs place x → StandsAt ys place x) → xs ≡ ys
same_entries [] [] e each = refl
same_entries [] (y ∷ ys) e each = absurd (omega arith)
same_entries (x ∷ xs) [] e each = absurd (omega arith)
same_entries (x ∷ xs) (y ∷ ys) e each =
    let first : Some y ≡ Some x = each 0 x refl in
    let same : x ≡ y = cc in
    let rest = same_entries xs ys (omega arith) (λ place z h. each (suc place) z h) in
    ap (λ z. z ∷ xs) same ∙ ap (λ zs. y ∷ zs) rest

module _ (laws : CountingLaws) {R : Type 0} where
  -- ---- the results of a number

  pick : (runs : List (ℕ × R)) (k : ℕ) → 1 ≤ times k (numbers_of runs) → (r : R) × Contains runs (k, r)
  pick [] k h = let place = laws.place k [] h in let l = place.1 in absurd (omega arith)
  pick ((n, r) ∷ runs) k h = dite (ℕ_discrete n k)
      (λ (e : n ≡ k). (r, (0, omega arith, ap (λ (m : ℕ). (m, r)) e)))
      (λ (ne : n ≢ k).
      let less = laws.other k n (numbers_of runs) ne in
      let later = pick runs k (omega (arith, less, h)) in
      (later.0, contains_later (n, r) runs (k, later.0) later.1))

  counted : (runs : List (ℕ × R)) (k : ℕ) (r : R) → Contains runs (k, r) → 1 ≤ times k (numbers_of runs)
  counted [] k r h = absurd (nothing_there (k, r) h)
  counted ((n, s) ∷ runs) k r (zero, l, e) = let more = laws.same k n (numbers_of runs) (ap (λ (run : ℕ × R). run.0) e) in omega (arith, more)
  counted ((n, s) ∷ runs) k r (suc i, l, e) =
      let later = counted runs k r (i, omega arith, e) in
      dite (ℕ_discrete n k)
      (λ (same : n ≡ k). let more = laws.same k n (numbers_of runs) same in omega (arith, more))
      (λ (ne : n ≢ k). let less = laws.other k n (numbers_of runs) ne in omega (arith, less, later))

  not_more : (runs : List (ℕ × R)) (n k : ℕ) (s : R) → times k (numbers_of ((n, s) ∷ runs)) ≤ 1 → times k (numbers_of runs) ≤ 1
  not_more runs n k s h = dite (ℕ_discrete n k)
      (λ (same : n ≡ k). let more = laws.same k n (numbers_of runs) same in omega (arith, more, h))
      (λ (ne : n ≢ k). let less = laws.other k n (numbers_of runs) ne in omega (arith, less, h))

  -- a number that was run at most once has one result
  only : (runs : List (ℕ × R)) (k : ℕ) (r s : R) → times k (numbers_of runs) ≤ 1 → Contains runs (k, r) → Contains runs (k, s) → r ≡ s
  only [] k r s h a b = absurd (nothing_there (k, r) a)
  only ((n, q) ∷ runs) k r s h (zero, l, e) (zero, m, f) = ap (λ (run : ℕ × R). run.1) (sym e ∙ f)
  only ((n, q) ∷ runs) k r s h (zero, l, e) (suc j, m, f) =
      let later = counted runs k s (j, omega arith, f) in
      let more = laws.same k n (numbers_of runs) (ap (λ (run : ℕ × R). run.0) e) in
      absurd (omega (arith, more, later, h))
  only ((n, q) ∷ runs) k r s h (suc i, l, e) (zero, m, f) =
      let later = counted runs k r (i, omega arith, e) in
      let more = laws.same k n (numbers_of runs) (ap (λ (run : ℕ × R). run.0) f) in
      absurd (omega (arith, more, later, h))
  only ((n, q) ∷ runs) k r s h (suc i, l, e) (suc j, m, f) = only runs k r s (not_more runs n k q h) (i, omega arith, e) (j, omega arith, f)

  -- ---- one for each number

  record AreOf (runs : List (ℕ × R)) (from count : ℕ) (results : List R) : Type 0 where
    length_is : length results ≡ count
    each : (j : ℕ) (r : R) → StandsAt results j r → Contains runs (from + j, r)

  one_more : (runs : List (ℕ × R)) (from count : ℕ) (r : R) (results : List R) → Contains runs (from, r) → AreOf runs (suc from) count results → AreOf runs from (suc count) (r ∷ results)
  one_more runs from count r results there rest = record { length_is = (let e = rest.length_is in omega arith); each = each }
    where
      each : (j : ℕ) (s : R) → StandsAt (r ∷ results) j s → Contains runs (from + j, s)
      each zero s h =
          let same : r ≡ s = cc in
          let number : from ≡ from + 0 = omega arith in
          subst (λ (n : ℕ). Contains runs (n, s)) number (subst (λ (q : R). Contains runs (from, q)) same there)
      each (suc j) s h =
          let number : suc from + j ≡ from + suc j = omega arith in
          subst (λ (n : ℕ). Contains runs (n, s)) number (rest.each j s h)

  all_of_them : (runs : List (ℕ × R)) (from count : ℕ) → ((k : ℕ) → from ≤ k → k < from + count → (r : R) × Contains runs (k, r)) → (results : List R) × AreOf runs from count results
  all_of_them runs from zero each = ([], record { length_is = refl; each = λ j r h. absurd cc })
  all_of_them runs from (suc count) each =
      let first = each from (omega arith) (omega arith) in
      let rest = all_of_them runs (suc from) count (λ k above below. each k (omega arith) (omega arith)) in
      (first.0 ∷ rest.0, one_more runs from count first.0 rest.0 first.1 rest.1)

  pub chosen : (count : ℕ) (runs : List (ℕ × R)) → IsEachOnce count (numbers_of runs) → (results : List R) × AreInOrder count runs results
  chosen count runs once = (
    these.0,
    record { length_is = these.1.length_is; each_once = once; places = λ k r. (stands k r, there k r) },
  )
    where
      these : (results : List R) × AreOf runs 0 count results
      these = all_of_them runs 0 count (λ k above below. pick runs k (let h = once.once k (omega arith) in omega (arith, h)))

      there : (k : ℕ) (r : R) → StandsAt these.0 k r → Contains runs (k, r)
      there k r h = let number : 0 + k ≡ k = omega arith in subst (λ (n : ℕ). Contains runs (n, r)) number (these.1.each k r h)

      stands : (k : ℕ) (r : R) → Contains runs (k, r) → slice_get these.0 k ≡ Some r
      stands k r h = dite (dec_le (suc k) count)
          (λ (below : k < count).
          let own = entry these.0 k (let e = these.1.length_is in omega (arith, e, below)) in
          let most : times k (numbers_of runs) ≤ 1 = (let o = once.once k below in omega (arith, o)) in
          own.1 ∙ ap (λ (q : R). Some q) (only runs k own.0 r most (there k own.0 own.1) h))
          (λ (no : ¬ (k < count)).
          let none = once.no_other k (omega arith) in
          let some = counted runs k r h in
          absurd (omega (arith, none, some)))

  -- what they are images of are the ends in order, where the runs are
  pub chosen_images : {E : Type 0} (f : R → E) (count : ℕ) (runs : List (ℕ × R)) (results : List R) (others : List (ℕ × E)) (ends : List E) → AreInOrder count runs results →
      map (λ (run : ℕ × R). (run.0, f run.1)) runs ≡ others → AreInOrder count others ends → map f results ≡ ends
  chosen_images {E = E} f count runs results others ends own e order = same_entries (map f results) ends (length-map results f ∙ own.length_is ∙ sym order.length_is) each
    where
      each : (k : ℕ) (x : E) → StandsAt (map f results) k x → StandsAt ends k x
      each k x h =
          let from = mapped_at f results k x h in
          let run = contains_mapped (λ (r : ℕ × R). (r.0, f r.1)) runs (k, from.0) ((own.places k from.0).1 from.1) in
          let end = (order.places k (f from.0)).0 (subst (λ (rs : List (ℕ × E)). Contains rs (k, f from.0)) e run) in
          end ∙ ap (λ (y : E). Some y) from.2

-- the numbers of the runs are those of the results
pub same_numbers : {R E : Type 0} (f : R → E) (runs : List (ℕ × R)) → numbers_of (map (λ (run : ℕ × R). (run.0, f run.1)) runs) ≡ numbers_of runs
same_numbers f [] = refl
same_numbers f (run ∷ runs) = ap (λ (ns : List ℕ). run.0 ∷ ns) (same_numbers f runs)
