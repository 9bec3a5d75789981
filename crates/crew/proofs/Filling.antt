-- Slots that are filled with the ends of runs.
use Rattle.std.proofs.Common.{ℕ, zero, suc, ◌≡◌, ◌≢◌, ◌+◌, ◌<◌, ◌≤◌, List, [], ◌∷◌, ◌++◌, set, get_or, length, Bool, cond, refl, sym, ap, subst, ◌∙◌, lt_of_not-le, arith, eq-eqb, ne_eqb}
use Rattle.std.specs.Prelude.{◌==◌, Option, None, Some, IsSome, unwrap_or}
use Rattle.std.specs.List.{All, Contains}
use Rattle.std.proofs.lemmas.List.{map-append, get_or-set_other, length-set, length-map, get_or-map}
use Rattle.std.proofs.lemmas.Grind.{get_or-set_at}
use Rattle.std.proofs.lemmas.Option.{none-some, slice_get-get_or, slice_get_within, get_or_from_slice_get}
use Rattle.std.proofs.lemmas.List.Sums.{sum_by-append, sum_by-cons}
use Rattle.std.proofs.lemmas.List.Elements.{Contains-append_left, Contains-push, All-from_get_or}
use mathlib.Core.Logic.{dite}
use native.Mathlib.Decide.{ℕ_discrete}
use Rattle.tickets.specs.Counting.{times, IsEachOnce}
use Rattle.crew.specs.Ends.{numbers_of, AreInOrder}
use Rattle.crew.specs.Slots.{HoldEnds, AreFilledWith}

times-append : (k : ℕ) (xs ys : List ℕ) → times k (xs ++ ys) ≡ times k xs + times k ys
times-append k xs ys = sum_by-append (λ x. cond (x == k) 1 0) xs ys

times-cons : (k x : ℕ) (xs : List ℕ) → times k (x ∷ xs) ≡ cond (x == k) 1 0 + times k xs
times-cons k x xs = sum_by-cons (λ y. cond (y == k) 1 0) x xs

pub times-same : (k x : ℕ) (xs : List ℕ) → x ≡ k → times k (x ∷ xs) ≡ 1 + times k xs
times-same k x xs e = times-cons k x xs ∙ ap (λ (b : Bool). cond b 1 0 + times k xs) (eq-eqb x k e)

pub times-other : (k x : ℕ) (xs : List ℕ) → x ≢ k → times k (x ∷ xs) ≡ times k xs
times-other k x xs ne = let a : times k (x ∷ xs) ≡ 0 + times k xs = times-cons k x xs ∙ ap (λ (b : Bool). cond b 1 0 + times k xs) (ne_eqb x k ne) in omega arith

-- a run's number is among the numbers
times-run : {E : Type 0} (k : ℕ) (end : E) (runs others : List (ℕ × E)) → 1 ≤ times k (numbers_of (runs ++ (k, end) ∷ others))
times-run k end runs others =
    let a : times k (numbers_of (runs ++ (k, end) ∷ others)) ≡ times k (numbers_of runs) + times k (k ∷ numbers_of others) =
    ap (times k) (map-append (λ run. run.0) runs ((k, end) ∷ others)) ∙ times-append k (numbers_of runs) (k ∷ numbers_of others) in
    let s = times-same k k (numbers_of others) refl in omega arith

-- where each number below the count was run once and no other, a run's number is below it
pub number_below : {E : Type 0} (count k : ℕ) (end : E) (runs others : List (ℕ × E)) → IsEachOnce count (numbers_of (runs ++ (k, end) ∷ others)) → k < count
number_below count k end runs others once =
    lt_of_not-le (λ (h : count ≤ k). let a = once.no_other k h in let b = times-run k end runs others in omega arith)

times-snoc : {E : Type 0} (j k : ℕ) (end : E) (runs : List (ℕ × E)) → times j (numbers_of (runs ++ (k, end) ∷ [])) ≡ times j (numbers_of runs) + times j (k ∷ [])
times-snoc j k end runs = ap (times j) (map-append (λ run. run.0) runs ((k, end) ∷ [])) ∙ times-append j (numbers_of runs) (k ∷ [])

-- one run more
hold_more : {E : Type 0} (count k : ℕ) (end : E) (runs : List (ℕ × E)) (slots : List (Option E)) → k < count → HoldEnds count runs slots → HoldEnds count (runs ++ (k, end) ∷ []) (set slots k (Some end))
hold_more {E} count k end runs slots below hold =
    let size = hold.length_is in
    let within : k < length slots = omega arith in record {
      length_is = length-set slots k (Some end) ∙ hold.length_is;
      missing = λ j h empty. dite (ℕ_discrete j k)
          (λ (e : j ≡ k). absurd (none-some end (sym empty ∙ get_or-set_at slots k j (Some end) None e within)))
          (λ (ne : j ≢ k).
          let none = hold.missing j h (sym (get_or-set_other slots k j (Some end) None ne) ∙ empty) in
          let one = times-snoc j k end runs in
          let other : times j (k ∷ []) ≡ times j [] = times-other j k [] (λ e. ne (sym e)) in omega arith);
      of_run = λ j other found. dite (ℕ_discrete j k)
          (λ (e : j ≡ k).
          let same : end ≡ other = ap (λ (o : Option E). unwrap_or o end) (sym (get_or-set_at slots k j (Some end) None e within) ∙ found) in
          subst (Contains (runs ++ (k, end) ∷ [])) (ap (λ (n : ℕ). (n, end)) (sym e) ∙ ap (λ (o : E). (j, o)) same) (Contains-push runs (k, end)))
          (λ (ne : j ≢ k). Contains-append_left runs ((k, end) ∷ []) (j, other) (hold.of_run j other (sym (get_or-set_other slots k j (Some end) None ne) ∙ found)));
    }

pub hold_after : {E : Type 0} (count k : ℕ) (end : E) (runs : List (ℕ × E)) (slots after : List (Option E)) → k < count → HoldEnds count runs slots → after ≡ set slots k (Some end) → HoldEnds count (runs ++ (k, end) ∷ []) after
hold_after count k end runs slots after below hold is =
    subst (HoldEnds count (runs ++ (k, end) ∷ [])) (sym is) (hold_more count k end runs slots below hold)

is_some_unless : {E : Type 0} (slot : Option E) → (slot ≡ None → ⊥) → IsSome slot
is_some_unless None not_none = absurd (not_none refl)
is_some_unless (Some end) not_none = refl

-- where each number below the count was run once, no slot is empty
pub all_held : {E : Type 0} (count : ℕ) (runs : List (ℕ × E)) (slots : List (Option E)) → IsEachOnce count (numbers_of runs) → HoldEnds count runs slots → All IsSome slots
all_held count runs slots once hold = All-from_get_or IsSome slots None (λ k h.
    let size = hold.length_is in
    let below : k < count = omega arith in
    is_some_unless (get_or slots k None) (λ none. let a = hold.missing k below none in let b = once.once k below in omega arith))

times-more : (k x : ℕ) (xs : List ℕ) → times k xs ≤ times k (x ∷ xs)
times-more k x xs = let c = times-cons k x xs in omega arith

-- a run's number is counted
times-at : {E : Type 0} (k i : ℕ) (end : E) (runs : List (ℕ × E)) → i < length runs → get_or runs i (k, end) ≡ (k, end) → 1 ≤ times k (numbers_of runs)
times-at k i end [] h e = absurd (omega arith)
times-at k zero end (run ∷ runs) h e = let s = times-same k run.0 (numbers_of runs) (ap (λ r. r.0) e) in omega arith
times-at k (suc i) end (run ∷ runs) h e = let r = times-at k i end runs (omega arith) e in let m = times-more k run.0 (numbers_of runs) in omega arith

-- two runs of a number that was run once have the same end
same_end : {E : Type 0} (k i j : ℕ) (a b : E) (runs : List (ℕ × E)) → times k (numbers_of runs) ≤ 1 → i < length runs → get_or runs i (k, a) ≡ (k, a) → j < length runs → get_or runs j (k, b) ≡ (k, b) → a ≡ b
same_end k i j a b [] once h e h' e' = absurd (omega arith)
same_end k zero zero a b (run ∷ runs) once h e h' e' = ap (λ r. r.1) (sym e ∙ e')
same_end k zero (suc j) a b (run ∷ runs) once h e h' e' =
    let s = times-same k run.0 (numbers_of runs) (ap (λ r. r.0) e) in let r = times-at k j b runs (omega arith) e' in absurd (omega arith)
same_end k (suc i) zero a b (run ∷ runs) once h e h' e' =
    let s = times-same k run.0 (numbers_of runs) (ap (λ r. r.0) e') in let r = times-at k i a runs (omega arith) e in absurd (omega arith)
same_end k (suc i) (suc j) a b (run ∷ runs) once h e h' e' =
    let m = times-more k run.0 (numbers_of runs) in same_end k i j a b runs (omega arith) (omega arith) e (omega arith) e'

-- what a slot holds
slot_at : {E : Type 0} (slots : List (Option E)) (ends : List E) (k : ℕ) (end : E) → AreFilledWith slots ends → k < length ends → get_or slots k None ≡ Some (get_or ends k end)
slot_at slots ends k end filled h = ap (λ xs. get_or xs k None) filled ∙ get_or-map Some ends k end None h

-- the ends that the slots hold are in order
pub are_in_order : {E : Type 0} (count : ℕ) (runs : List (ℕ × E)) (slots : List (Option E)) (ends : List E) → IsEachOnce count (numbers_of runs) → HoldEnds count runs slots → AreFilledWith slots ends → AreInOrder count runs ends
are_in_order {E} count runs slots ends once hold filled =
    let size : length ends ≡ count = sym (length-map ends Some) ∙ sym (ap length filled) ∙ hold.length_is in record {
      length_is = size;
      each_once = once;
      places = λ k end. (
        (λ (run : Contains runs (k, end)).
            let one = times-at k run.0 end runs run.1 run.2 in
            let below : k < count = lt_of_not-le (λ (h : count ≤ k). let none = once.no_other k h in omega arith) in
            let within : k < length ends = omega arith in
            let at : E = get_or ends k end in
            let held : Contains runs (k, at) = hold.of_run k at (slot_at slots ends k end filled within) in
            let single = once.once k below in
            slice_get-get_or ends k end within ∙ ap Some (same_end k held.0 run.0 at end runs (omega arith) held.1 held.2 run.1 run.2)),
        (λ found.
            hold.of_run k end (slot_at slots ends k end filled (slice_get_within ends k end found) ∙ ap Some (get_or_from_slice_get ends k end end found))),
      );
    }
