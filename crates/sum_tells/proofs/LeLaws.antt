-- The linear inequality is monotone: what it tells on a box it tells, at least as tight, on a box inside.
use Rattle.std.proofs.Common.{◌≡◌, ℕ, List, [], ◌∷◌, length, true, ℤ, pos, ◌+ℤ◌, sym, arith}
use Rattle.std.proofs.lemmas.Int.{ints}
use Rattle.std.proofs.lemmas.List.Elements.{All-append}
use Rattle.std.specs.Int.RustNames.{int_lt, int_le}
use Rattle.std.specs.List.{All, zip, flat_map}
use Rattle.tells.specs.declared.tell.Lit.{Lit}
use Rattle.tells.specs.declared.tell.Tell.{Tell}
use Rattle.interval.specs.Limits.{ClampOrder}
use Rattle.interval.specs.Quotients.{QuotientOrder}
use Rattle.interval.specs.Boxes.{Bounds}
use Rattle.tells.specs.Words.{when, Keeps, is_sure, is_out, tell_true, tell_false, IsProperIn, IsInsideIn}
use Rattle.sum_tells.specs.Linear.{least_of, greatest_of, sum_over, at_most_tell, more_than_tell, literal_tells, sure_tells, out_tells, bound_tells, at_most_tells}
use Rattle.tell_laws.proofs.Lists.{All-left, All-right, All-flat_map, flat_map-All, All-when, when-All}
use Rattle.tell_laws.proofs.LiteralLaws.{sure_inside, out_inside}
use Rattle.sum_tells.proofs.SumLaws.{least_sums, greatest_sums}
use Rattle.sum_tells.proofs.TermTellLaws.{at_most_along, at_least_along}

module _ (inner outer : Bounds) (quotients : QuotientOrder) (clamped : ClampOrder) (l : Lit) (coeffs : List ℤ) (vars : List ℕ) (limit : ℤ) (same : length coeffs ≡ length vars) (proper : IsProperIn (l.var ∷ vars) inner) (inside : IsInsideIn (l.var ∷ vars) inner outer) where
  pub le_monotone : All (Keeps inner) (at_most_tells l coeffs vars limit inner) → All (Keeps inner) (at_most_tells l coeffs vars limit outer)
  le_monotone all =
      let P : Tell → Type 0 = Keeps inner in
      let ts = zip coeffs vars in
      let m = sum_over (least_of inner) ts in
      let n = sum_over (greatest_of inner) ts in
      let m' = sum_over (least_of outer) ts in
      let n' = sum_over (greatest_of outer) ts in
      let ls = least_sums inner outer l coeffs vars same proper inside in
      let gs = greatest_sums inner outer l coeffs vars same proper inside in
      let literals = All-left P (literal_tells l limit m n) (bound_tells l ts limit m n inner) all in
      let bounds = All-right P (literal_tells l limit m n) (bound_tells l ts limit m n inner) all in
      let trues = All-left P (when (int_le n limit) (tell_true l ∷ [])) (when (int_lt limit m) (tell_false l ∷ [])) literals in
      let falses = All-right P (when (int_le n limit) (tell_true l ∷ [])) (when (int_lt limit m) (tell_false l ∷ [])) literals in
      let sures = All-left P (sure_tells l ts limit m inner) (out_tells l ts limit n inner) bounds in
      let outs = All-right P (sure_tells l ts limit m inner) (out_tells l ts limit n inner) bounds in
      let low = inside.lows 0 (omega arith) in
      let own = proper 0 (omega arith) in
      let high = inside.highs 0 (omega arith) in
      All-append P (literal_tells l limit m' n') (bound_tells l ts limit m' n' outer)
      (All-append P (when (int_le n' limit) (tell_true l ∷ [])) (when (int_lt limit m') (tell_false l ∷ []))
      (All-when P (int_le n' limit) (tell_true l ∷ []) (λ e. let f : true ≡ int_le n limit = omega (arith, ints) in when-All P (int_le n limit) (tell_true l ∷ []) (sym f) trues))
      (All-when P (int_lt limit m') (tell_false l ∷ []) (λ e. let f : true ≡ int_lt limit m = omega (arith, ints) in when-All P (int_lt limit m) (tell_false l ∷ []) (sym f) falses)))
      (All-append P (sure_tells l ts limit m' outer) (out_tells l ts limit n' outer)
      (All-when P (is_sure l outer) (flat_map (at_most_tell outer limit m') ts) (λ e.
      let given = when-All P (is_sure l inner) (flat_map (at_most_tell inner limit m) ts) (sure_inside inner outer l low own high e) sures in
      All-flat_map P (at_most_tell outer limit m') ts (pos 0, 0) (λ i h.
      at_most_along inner outer quotients clamped l coeffs vars same proper inside limit i h (flat_map-All P (at_most_tell inner limit m) ts (pos 0, 0) given i h))))
      (All-when P (is_out l outer) (flat_map (more_than_tell outer limit n') ts) (λ e.
      let given = when-All P (is_out l inner) (flat_map (more_than_tell inner limit n) ts) (out_inside inner outer l low own high e) outs in
      All-flat_map P (more_than_tell outer limit n') ts (pos 0, 0) (λ i h.
      at_least_along inner outer quotients clamped l coeffs vars same proper inside (limit +ℤ pos 1) i h (flat_map-All P (more_than_tell inner limit n) ts (pos 0, 0) given i h)))))
