-- The tells of one term of a sum that is at most, or at least, a limit: in a box inside a box, and at a point.
use Rattle.std.proofs.Common.{◌≡◌, ℕ, ◌<◌, List, ◌∷◌, length, get_or, ℤ, pos, ◌-ℤ◌, ◌≤ℤ◌, sym, subst, arith}
use Rattle.std.proofs.lemmas.Int.{ints}
use Rattle.std.specs.List.{All, zip}
use Rattle.tells.specs.declared.tell.Lit.{Lit}
use Rattle.interval.specs.Limits.{IsNumber, ClampOrder}
use Rattle.interval.specs.Quotients.{QuotientOrder}
use Rattle.interval.specs.Boxes.{Bounds, low_of, IsPoint}
use Rattle.tells.specs.Words.{Keeps, point_of, AreVariables, IsProperIn, IsInsideIn}
use Rattle.sum_tells.specs.Linear.{Term, least_of, greatest_of, sum_over, at_most_tell, at_least_tell, term_value}
use Rattle.sum_tells.proofs.SumLists.{sum_rises_without}
use Rattle.sum_tells.proofs.TermLaws.{get_or-zip}
use Rattle.sum_tells.proofs.SumLaws.{least_at, greatest_at, var_in_box, least_sum, greatest_sum}
use Rattle.sum_tells.proofs.BoundLaws.{at_most_looser, at_least_looser, at_most_kept, at_least_kept, least_at_point, greatest_at_point}

module _ (inner outer : Bounds) (quotients : QuotientOrder) (clamped : ClampOrder) (l : Lit) (coeffs : List ℤ) (vars : List ℕ) (same : length coeffs ≡ length vars) (proper : IsProperIn (l.var ∷ vars) inner) (inside : IsInsideIn (l.var ∷ vars) inner outer) where
  pub at_most_along : (limit : ℤ) (i : ℕ) → i < length (zip coeffs vars)
      → All (Keeps inner) (at_most_tell inner limit (sum_over (least_of inner) (zip coeffs vars)) (get_or (zip coeffs vars) i (pos 0, 0)))
      → All (Keeps inner) (at_most_tell outer limit (sum_over (least_of outer) (zip coeffs vars)) (get_or (zip coeffs vars) i (pos 0, 0)))
  at_most_along limit i h all =
      let ts = zip coeffs vars in
      let t = get_or ts i (pos 0, 0) in
      let m = sum_over (least_of inner) ts in
      let m' = sum_over (least_of outer) ts in
      let rest = sum_rises_without (least_of outer) (least_of inner) ts (pos 0, 0) i h (least_at inner outer l coeffs vars same proper inside) in
      at_most_looser quotients clamped inner t.1 t.0 (limit -ℤ (m -ℤ least_of inner t)) (limit -ℤ (m' -ℤ least_of outer t)) (omega (arith, ints)) all

  pub at_least_along : (limit : ℤ) (i : ℕ) → i < length (zip coeffs vars)
      → All (Keeps inner) (at_least_tell inner limit (sum_over (greatest_of inner) (zip coeffs vars)) (get_or (zip coeffs vars) i (pos 0, 0)))
      → All (Keeps inner) (at_least_tell outer limit (sum_over (greatest_of outer) (zip coeffs vars)) (get_or (zip coeffs vars) i (pos 0, 0)))
  at_least_along limit i h all =
      let ts = zip coeffs vars in
      let t = get_or ts i (pos 0, 0) in
      let n = sum_over (greatest_of inner) ts in
      let n' = sum_over (greatest_of outer) ts in
      let rest = sum_rises_without (greatest_of inner) (greatest_of outer) ts (pos 0, 0) i h (greatest_at inner outer l coeffs vars same proper inside) in
      at_least_looser quotients clamped inner t.1 t.0 (limit -ℤ (n -ℤ greatest_of inner t)) (limit -ℤ (n' -ℤ greatest_of outer t)) (omega (arith, ints)) all

module _ (quotients : QuotientOrder) (clamped : ClampOrder) (b : Bounds) (l : Lit) (coeffs : List ℤ) (vars : List ℕ) (same : length coeffs ≡ length vars) (variables : AreVariables (length b) (l.var ∷ vars)) (point : IsPoint b) (numbers : (v : ℕ) → v < length b → IsNumber (low_of b v)) where
  pub at_most_at_point : (limit : ℤ) (i : ℕ) → i < length (zip coeffs vars) → sum_over (term_value (point_of b)) (zip coeffs vars) ≤ℤ limit
      → All (Keeps b) (at_most_tell b limit (sum_over (least_of b) (zip coeffs vars)) (get_or (zip coeffs vars) i (pos 0, 0)))
  at_most_at_point limit i h le =
      let m = sum_over (least_of b) (zip coeffs vars) in
      let P : Term → Type 0 = λ t. All (Keeps b) (at_most_tell b limit m t) in
      let a = get_or coeffs i (pos 0) in
      let x = get_or vars i 0 in
      let inside = var_in_box b l coeffs vars same variables point i h in
      let fixed = point x inside in
      let own = least_at_point b a x fixed in
      let sum = least_sum b l coeffs vars same variables point in
      subst P (sym (get_or-zip coeffs vars i same)) (at_most_kept quotients clamped b x a (limit -ℤ (m -ℤ least_of b (a, x))) fixed (numbers x inside) (omega (arith, ints)))

  pub at_least_at_point : (limit : ℤ) (i : ℕ) → i < length (zip coeffs vars) → limit ≤ℤ sum_over (term_value (point_of b)) (zip coeffs vars)
      → All (Keeps b) (at_least_tell b limit (sum_over (greatest_of b) (zip coeffs vars)) (get_or (zip coeffs vars) i (pos 0, 0)))
  at_least_at_point limit i h le =
      let n = sum_over (greatest_of b) (zip coeffs vars) in
      let P : Term → Type 0 = λ t. All (Keeps b) (at_least_tell b limit n t) in
      let a = get_or coeffs i (pos 0) in
      let x = get_or vars i 0 in
      let inside = var_in_box b l coeffs vars same variables point i h in
      let fixed = point x inside in
      let own = greatest_at_point b a x fixed in
      let sum = greatest_sum b l coeffs vars same variables point in
      subst P (sym (get_or-zip coeffs vars i same)) (at_least_kept quotients clamped b x a (limit -ℤ (n -ℤ greatest_of b (a, x))) fixed (numbers x inside) (omega (arith, ints)))
