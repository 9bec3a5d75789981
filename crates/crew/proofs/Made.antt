-- Some runs that were made with seats, as seats are taken in and as numbers are drawn.
use Rattle.std.proofs.Common.{◌≡◌, ℕ, ◌+◌, List, [], ◌∷◌, ◌++◌, ◌≤◌, Bool, true, false, Some, refl, subst, sym, ap, ◌∙◌, cond, arith}
use Rattle.std.proofs.lemmas.List.{map-append}
use Rattle.std.proofs.lemmas.List.Sums.{sum_by-append}
use Rattle.std.specs.Bool.{OnTrue}
use Rattle.std.specs.Prelude.{◌==◌, Result, Ok, Err, OnOk, OnErr}
use Rattle.tickets.specs.Counting.{times}
use Rattle.tickets.specs.Seats.{with_drawn}
use Rattle.crew.specs.Ends.{numbers_of, AreSomeRuns}
use Rattle.crew.specs.AtWork.{HaveRun, HaveRunSome}

times-append : (k : ℕ) (xs ys : List ℕ) → times k (xs ++ ys) ≡ times k xs + times k ys
times-append k xs ys = sum_by-append (λ x. cond (x == k) 1 0) xs ys

-- what holds is so where nothing was refused
pub on_ok : {V F : Type 0} (r : Result V F) {P : Type 0} → P → OnOk r P
on_ok (Ok v) p = p
on_ok (Err e) p = tt

-- what holds is so after a refusal, and what is so after a refusal holds where there was one
pub on_err : {V F : Type 0} (r : Result V F) (P : Type 0) → P → OnErr r P
on_err (Ok v) P p = tt
on_err (Err e) P p = p

pub of_err : {V F : Type 0} (r : Result V F) (e : F) (P : Type 0) → r ≡ Err e → OnErr r P → P
of_err r e P same h = subst (λ x. OnErr x P) same h

-- the same of a test
pub on_true : (b : Bool) (P : Type 0) → (b ≡ true → P) → OnTrue b P
on_true true P p = p refl
on_true false P p = tt

pub of_true : (b : Bool) (P : Type 0) → b ≡ true → OnTrue b P → P
of_true b P same h = subst (λ x. OnTrue x P) same h

module _ {S E : Type 0} (stands : S → List (ℕ × E) → Type 0) where
  -- all these numbers were run
  pub some_of_all : (numbers : List ℕ) (seat : S) (runs : List (ℕ × E)) → HaveRun stands numbers seat runs → HaveRunSome stands numbers seat
  some_of_all numbers seat runs all = record {
    runs = runs;
    stand = all.stand;
    some = λ k. let e = ap (times k) all.all in omega arith;
  }

  -- one seat was taken into another
  pub all_joined : (numbers others : List ℕ) (seat back after : S) (runs made : List (ℕ × E))
      → ((runs others : List (ℕ × E)) → stands seat runs → stands back others → stands after (runs ++ others))
      → HaveRun stands numbers seat runs → HaveRun stands others back made → HaveRun stands (numbers ++ others) after (runs ++ made)
  all_joined numbers others seat back after runs made joined a b = record {
    all = ap (λ xs. xs ++ others) a.all ∙ ap (λ xs. numbers_of runs ++ xs) b.all ∙ sym (map-append (λ run. run.0) runs made);
    stand = joined runs made a.stand b.stand;
  }

  pub some_joined : (numbers others : List ℕ) (seat back after : S)
      → ((runs others : List (ℕ × E)) → stands seat runs → stands back others → stands after (runs ++ others))
      → HaveRunSome stands numbers seat → HaveRunSome stands others back → HaveRunSome stands (numbers ++ others) after
  some_joined numbers others seat back after joined a b = record {
    runs = a.runs ++ b.runs;
    stand = joined a.runs b.runs a.stand b.stand;
    some = λ k.
        let e = times-append k numbers others in
        let m = ap (times k) (map-append (λ run. run.0) a.runs b.runs) ∙ times-append k (numbers_of a.runs) (numbers_of b.runs) in
        let ha = a.some k in
        let hb = b.some k in
        omega arith;
  }

  -- a number was drawn and run
  pub all_run : (numbers next : List ℕ) (after : S) (runs : List (ℕ × E)) (number : ℕ) (end : E) → numbers ≡ numbers_of runs
      → next ≡ with_drawn (Some number) numbers → stands after (runs ++ (number, end) ∷ []) → HaveRun stands next after (runs ++ (number, end) ∷ [])
  all_run numbers next after runs number end all drawn stand = record {
    all = drawn ∙ ap (λ xs. xs ++ number ∷ []) all ∙ sym (map-append (λ run. run.0) runs ((number, end) ∷ []));
    stand = stand;
  }

  -- a number was drawn, and its run was refused
  pub some_drawn : (numbers next : List ℕ) (after : S) (runs : List (ℕ × E)) (number : ℕ) → numbers ≡ numbers_of runs
      → next ≡ with_drawn (Some number) numbers → stands after runs → HaveRunSome stands next after
  some_drawn numbers next after runs number all drawn stand = record {
    runs = runs;
    stand = stand;
    some = λ k.
        let e = ap (times k) drawn ∙ times-append k numbers (number ∷ []) in
        let a = ap (times k) all in
        omega arith;
  }

  -- some runs, where no number was drawn twice, and none that isn't below the count
  pub some_runs : (count : ℕ) (numbers : List ℕ) (seat : S) → ((k : ℕ) → times k numbers ≤ 1) → ((k : ℕ) → count ≤ k → times k numbers ≡ 0)
      → HaveRunSome stands numbers seat → AreSomeRuns count (stands seat)
  some_runs count numbers seat once below some = record {
    runs = some.runs;
    stand = some.stand;
    once = λ k. let t = once k in let h = some.some k in omega arith;
    below = λ k above. let t = below k above in let h = some.some k in omega arith;
  }

  -- no runs were made
  pub no_runs : (count : ℕ) (seat : S) → stands seat [] → AreSomeRuns count (stands seat)
  no_runs count seat none = record {
    runs = [];
    stand = none;
    once = λ k. omega arith;
    below = λ k above. refl;
  }
