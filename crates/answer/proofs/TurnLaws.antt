-- Runs that were made in the order of their numbers stand as their results do.
use Rattle.std.proofs.Common.{◌≡◌, ℕ, ◌+◌, ◌<◌, List, length, map, get_or, Contains, sym, ap, subst, ◌∙◌, arith}
use Rattle.std.specs.List.{range_with_len}
use Rattle.std.proofs.lemmas.List.{length-map}
use Rattle.std.proofs.lemmas.List.FromFn.{length-range_with_len, get_or-range_with_len}
use Rattle.std.proofs.lemmas.Option.{slice_get_within, get_or_from_slice_get}
use Rattle.std.proofs.Math.ListN.{get_or-map}
use Rattle.crew.specs.Ends.{numbers_of, AreInOrder}
use Rattle.answer.specs.Places.{StandsAt}
use Rattle.answer.proofs.Chosen.{mapped_at, same_entries}

module _ {R : Type 0} (count : ℕ) (runs : List (ℕ × R)) (results : List R) (in_order : AreInOrder count runs results) (rising : numbers_of runs ≡ range_with_len 0 count) where
  run_count : length runs ≡ count
  run_count = sym (length-map runs (λ (run : ℕ × R). run.0)) ∙ ap length rising ∙ length-range_with_len 0 count

  -- the run at a place is that of the place's number
  pub number_at : (place : ℕ) (run : ℕ × R) → StandsAt runs place run → run.0 ≡ place
  number_at place run h =
      let below : place < count = let l = slice_get_within runs place run h in let e = run_count in omega (arith, l, e) in
      let image = get_or-map (λ (r : ℕ × R). r.0) runs place run in
      let there = ap (λ (r : ℕ × R). r.0) (get_or_from_slice_get runs place run run h) in
      let number = get_or-range_with_len 0 count place run.0 below in
      let same = ap (λ (xs : List ℕ). get_or xs place run.0) rising in
      sym (image ∙ there) ∙ same ∙ number ∙ (let zero_on : 0 + place ≡ place = omega arith in zero_on)

  pub same_results : map (λ (run : ℕ × R). run.1) runs ≡ results
  same_results = same_entries (map (λ (run : ℕ × R). run.1) runs) results (length-map runs (λ (run : ℕ × R). run.1) ∙ run_count ∙ sym in_order.length_is) each
    where
      each : (place : ℕ) (r : R) → StandsAt (map (λ (run : ℕ × R). run.1) runs) place r → StandsAt results place r
      each place r h =
          let from = mapped_at (λ (run : ℕ × R). run.1) runs place r h in
          let number = number_at place from.0 from.1 in
          let run : from.0 ≡ (place, r) = λ i. (number i, from.2 i) in
          let there : Contains runs from.0 = (place, slice_get_within runs place from.0 from.1, get_or_from_slice_get runs place from.0 from.0 from.1) in
          (in_order.places place r).0 (subst (λ (x : ℕ × R). Contains runs x) run there)
