-- Runs that were made in the order of their numbers.
use Rattle.std.proofs.Common.{ℕ, zero, suc, ◌≡◌, ◌≢◌, true≢false, ◌+◌, ◌<◌, ◌≤◌, List, [], ◌∷◌, ◌++◌, get_or, length, length-append, false, refl, sym, ap, subst, ◌∙◌, lt_of_not-le, arith}
use Rattle.std.specs.Prelude.{Some, Result, Ok, Err, IfOk, OnOk, is_err}
use Rattle.std.specs.List.{Contains, enumerate_from, range_with_len}
use Rattle.std.proofs.lemmas.List.FromFn.{length-enumerate_from, get_or-enumerate_from}
use Rattle.std.proofs.lemmas.Option.{slice_get-get_or, slice_get_within, get_or_from_slice_get}
use mathlib.Core.Logic.{dite}
use native.Mathlib.Decide.{ℕ_discrete}
use Rattle.tickets.specs.Counting.{times, IsEachOnce}
use Rattle.crew.specs.Ends.{numbers_of, AreInOrder, AreEndsOf, AreSomeRuns}
use Rattle.crew.proofs.Filling.{times-same, times-other}

-- what is so of the value where nothing was refused holds of the value that there is
pub of_ok : {V F : Type 0} (r : Result V F) (v : V) (P : V → Type 0) → r ≡ Ok v → IfOk r P → P v
of_ok r v P same h = subst (λ x. IfOk x P) same h

pub of_not_err : {V F : Type 0} (r : Result V F) (P : Type 0) → is_err r ≡ false → OnOk r P → P
of_not_err (Ok v) P not_err h = h
of_not_err (Err e) P not_err h = absurd (true≢false not_err)

-- one end more
enumerated_more : {E : Type 0} (n : ℕ) (ends : List E) (end : E) → enumerate_from n (ends ++ end ∷ []) ≡ enumerate_from n ends ++ (n + length ends, end) ∷ []
enumerated_more n [] end = let e : n ≡ n + 0 = omega arith in ap (λ k. (k, end) ∷ []) e
enumerated_more n (first ∷ ends) end =
    let e : n + 1 + length ends ≡ n + length (first ∷ ends) = omega arith in
    ap (λ rest. (n, first) ∷ rest) (enumerated_more (n + 1) ends end ∙ ap (λ k. enumerate_from (n + 1) ends ++ (k, end) ∷ []) e)

in_turn_more : {E : Type 0} (number : ℕ) (ends : List E) (end : E) → length ends ≡ number → enumerate_from 0 ends ++ (number, end) ∷ [] ≡ enumerate_from 0 (ends ++ end ∷ [])
in_turn_more number ends end size =
    let e : number ≡ 0 + length ends = omega (arith, size) in
    ap (λ k. enumerate_from 0 ends ++ (k, end) ∷ []) e ∙ sym (enumerated_more 0 ends end)

-- the next number was run
pub run_more : {S E : Type 0} (stands : S → List (ℕ × E) → Type 0) (seat : S) (number : ℕ) (ends after : List E) (end : E) → length ends ≡ number → after ≡ ends ++ end ∷ []
    → stands seat (enumerate_from 0 ends ++ (number, end) ∷ []) → (length after ≡ number + 1) × stands seat (enumerate_from 0 after)
run_more stands seat number ends after end size is stand = (
  ap length is ∙ length-append ends (end ∷ []) ∙ ap (λ n. n + 1) size,
  subst (λ xs. stands seat (enumerate_from 0 xs)) (sym is) (subst (stands seat) (in_turn_more number ends end size) stand),
)

numbers_from : {E : Type 0} (n : ℕ) (ends : List E) → numbers_of (enumerate_from n ends) ≡ range_with_len n (length ends)
numbers_from n [] = refl
numbers_from n (end ∷ ends) = ap (λ rest. n ∷ rest) (numbers_from (n + 1) ends)

pub numbers_in_turn : {E : Type 0} (count : ℕ) (ends : List E) → length ends ≡ count → numbers_of (enumerate_from 0 ends) ≡ range_with_len 0 count
numbers_in_turn count ends size = numbers_from 0 ends ∙ ap (range_with_len 0) size

times_before : (k n size : ℕ) → k < n → times k (range_with_len n size) ≡ 0
times_before k n zero before = refl
times_before k n (suc size) before = times-other k n (range_with_len (n + 1) size) (λ e. omega (arith, e, before)) ∙ times_before k (n + 1) size (omega arith)

times_behind : (k n size : ℕ) → n + size ≤ k → times k (range_with_len n size) ≡ 0
times_behind k n zero behind = refl
times_behind k n (suc size) behind = times-other k n (range_with_len (n + 1) size) (λ e. omega (arith, e, behind)) ∙ times_behind k (n + 1) size (omega arith)

-- no number stands twice in the numbers of a range
times_most : (k n size : ℕ) → times k (range_with_len n size) ≤ 1
times_most k n zero = omega arith
times_most k n (suc size) = dite (ℕ_discrete n k)
    (λ (e : n ≡ k). let s = times-same k n (range_with_len (n + 1) size) e in let b = times_before k (n + 1) size (omega (arith, e)) in omega arith)
    (λ (ne : n ≢ k). let s = times-other k n (range_with_len (n + 1) size) ne in let m = times_most k (n + 1) size in omega arith)

times_within : (k n size : ℕ) → n ≤ k → k < n + size → times k (range_with_len n size) ≡ 1
times_within k n zero from to = absurd (omega arith)
times_within k n (suc size) from to = dite (ℕ_discrete n k)
    (λ (e : n ≡ k). let s = times-same k n (range_with_len (n + 1) size) e in let b = times_before k (n + 1) size (omega (arith, e)) in omega arith)
    (λ (ne : n ≢ k). times-other k n (range_with_len (n + 1) size) ne ∙ times_within k (n + 1) size (let above = lt_of_not-le (λ (h : k ≤ n). ne (omega arith)) in omega arith) (omega arith))

-- each number below the count stands once in the numbers below it
each_once : (count : ℕ) → IsEachOnce count (range_with_len 0 count)
each_once count = record {
  once = λ k below. times_within k 0 count (omega arith) (omega arith);
  no_other = λ k above. times_behind k 0 count (omega arith);
}

in_order : {E : Type 0} (count : ℕ) (ends : List E) → length ends ≡ count → AreInOrder count (enumerate_from 0 ends) ends
in_order {E} count ends size = record {
  length_is = size;
  each_once = subst (IsEachOnce count) (sym (numbers_in_turn count ends size)) (each_once count);
  places = λ k end. (
    (λ (run : Contains (enumerate_from 0 ends) (k, end)).
        let long = length-enumerate_from 0 ends in
        let within : run.0 < length ends = omega (arith, run.1, long) in
        let at : ◌≡◌ {A = ℕ × E} (0 + run.0, get_or ends run.0 end) (k, end) = sym (get_or-enumerate_from 0 ends run.0 (k, end) within) ∙ run.2 in
        let number : 0 + run.0 ≡ k = ap (λ r. r.0) at in
        let place : run.0 ≡ k = omega (arith, number) in
        slice_get-get_or ends k end (omega (arith, within, place)) ∙ ap Some (ap (λ n. get_or ends n end) (sym place) ∙ ap (λ r. r.1) at)),
    (λ found.
        let within = slice_get_within ends k end found in
        let long = length-enumerate_from 0 ends in
        let number : 0 + k ≡ k = omega arith in (
          k,
          omega (arith, within, long),
          get_or-enumerate_from 0 ends k (k, end) within ∙ ap {B = ℕ × E} (λ n. (n, get_or ends k end)) number
              ∙ ap {B = ℕ × E} (λ e. (k, e)) (get_or_from_slice_get ends k end end found),
        )),
  );
}

-- where all numbers were run in turn, their ends are in order
pub ends_in_turn : {S E : Type 0} (stands : S → List (ℕ × E) → Type 0) (count workers : ℕ) (seat : S) (ends : List E) → length ends ≡ count
    → stands seat (enumerate_from 0 ends) → AreEndsOf count workers (stands seat) ends
ends_in_turn stands count workers seat ends size stand = record {
  runs = enumerate_from 0 ends;
  stand = stand;
  in_order = in_order count ends size;
  in_turn = λ sole. numbers_in_turn count ends size;
}

-- some runs, where so many numbers at most were run in turn
pub some_in_turn : {S E : Type 0} (stands : S → List (ℕ × E) → Type 0) (count : ℕ) (seat : S) (ends : List E) → length ends ≤ count
    → stands seat (enumerate_from 0 ends) → AreSomeRuns count (stands seat)
some_in_turn stands count seat ends few stand =
    let numbers = numbers_from 0 ends in
    record {
      runs = enumerate_from 0 ends;
      stand = stand;
      once = λ k. let e = ap (times k) numbers in let m = times_most k 0 (length ends) in omega arith;
      below = λ k above. ap (times k) numbers ∙ times_behind k 0 (length ends) (omega arith);
    }
