-- The sums of the least and of the greatest values of terms: in a box inside a box, and at a point.
use Rattle.std.proofs.Common.{◌≡◌, ℕ, suc, ◌+◌, ◌<◌, List, ◌∷◌, length, get_or, ℤ, pos, ◌*ℤ◌, ◌≤ℤ◌, sym, ap, subst, ◌∙◌, arith}
use Rattle.std.specs.List.{zip}
use Rattle.tells.specs.declared.tell.Lit.{Lit}
use Rattle.interval.specs.Boxes.{Bounds, IsPoint}
use Rattle.tells.specs.Words.{point_of, AreVariables, IsProperIn, IsInsideIn}
use Rattle.sum_tells.specs.Linear.{Term, least_of, greatest_of, sum_over, term_value}
use Rattle.sum_tells.proofs.SumLists.{sum_rises, sum_same}
use Rattle.sum_tells.proofs.TermLaws.{length-zip, get_or-zip}
use Rattle.tell_laws.proofs.LiteralLaws.{value-point}
use Rattle.sum_tells.proofs.BoundLaws.{least_rises, greatest_falls, least_at_point, greatest_at_point}

module _ (inner outer : Bounds) (l : Lit) (coeffs : List ℤ) (vars : List ℕ) (same : length coeffs ≡ length vars) (proper : IsProperIn (l.var ∷ vars) inner) (inside : IsInsideIn (l.var ∷ vars) inner outer) where
  -- the range of each term
  pub least_at : (i : ℕ) → i < length (zip coeffs vars) → least_of outer (get_or (zip coeffs vars) i (pos 0, 0)) ≤ℤ least_of inner (get_or (zip coeffs vars) i (pos 0, 0))
  least_at i h =
      let at : i + 1 < length (l.var ∷ vars) = omega (arith, length-zip coeffs vars same) in
      let P : Term → Type 0 = λ t. least_of outer t ≤ℤ least_of inner t in
      subst P (sym (get_or-zip coeffs vars i same)) (least_rises inner outer (get_or coeffs i (pos 0)) (get_or vars i 0) (inside.lows (suc i) (omega arith)) (proper (suc i) (omega arith)) (inside.highs (suc i) (omega arith)))

  pub greatest_at : (i : ℕ) → i < length (zip coeffs vars) → greatest_of inner (get_or (zip coeffs vars) i (pos 0, 0)) ≤ℤ greatest_of outer (get_or (zip coeffs vars) i (pos 0, 0))
  greatest_at i h =
      let at : i + 1 < length (l.var ∷ vars) = omega (arith, length-zip coeffs vars same) in
      let P : Term → Type 0 = λ t. greatest_of inner t ≤ℤ greatest_of outer t in
      subst P (sym (get_or-zip coeffs vars i same)) (greatest_falls inner outer (get_or coeffs i (pos 0)) (get_or vars i 0) (inside.lows (suc i) (omega arith)) (proper (suc i) (omega arith)) (inside.highs (suc i) (omega arith)))

  pub least_sums : sum_over (least_of outer) (zip coeffs vars) ≤ℤ sum_over (least_of inner) (zip coeffs vars)
  least_sums = sum_rises (least_of outer) (least_of inner) (zip coeffs vars) (pos 0, 0) least_at

  pub greatest_sums : sum_over (greatest_of inner) (zip coeffs vars) ≤ℤ sum_over (greatest_of outer) (zip coeffs vars)
  greatest_sums = sum_rises (greatest_of inner) (greatest_of outer) (zip coeffs vars) (pos 0, 0) greatest_at

module _ (b : Bounds) (l : Lit) (coeffs : List ℤ) (vars : List ℕ) (same : length coeffs ≡ length vars) (variables : AreVariables (length b) (l.var ∷ vars)) (point : IsPoint b) where
  -- the variable of a term
  pub var_in_box : (i : ℕ) → i < length (zip coeffs vars) → get_or vars i 0 < length b
  var_in_box i h = let at : i < length vars = omega (arith, length-zip coeffs vars same) in variables.each (suc i) (omega arith)

  pub least_value : (i : ℕ) → i < length (zip coeffs vars) → least_of b (get_or (zip coeffs vars) i (pos 0, 0)) ≡ term_value (point_of b) (get_or (zip coeffs vars) i (pos 0, 0))
  least_value i h =
      let P : Term → Type 0 = λ t. least_of b t ≡ term_value (point_of b) t in
      let a = get_or coeffs i (pos 0) in
      let x = get_or vars i 0 in
      subst P (sym (get_or-zip coeffs vars i same)) (least_at_point b a x (point x (var_in_box i h)) ∙ ap (λ (z : ℤ). a *ℤ z) (sym (value-point b x)))

  pub greatest_value : (i : ℕ) → i < length (zip coeffs vars) → greatest_of b (get_or (zip coeffs vars) i (pos 0, 0)) ≡ term_value (point_of b) (get_or (zip coeffs vars) i (pos 0, 0))
  greatest_value i h =
      let P : Term → Type 0 = λ t. greatest_of b t ≡ term_value (point_of b) t in
      let a = get_or coeffs i (pos 0) in
      let x = get_or vars i 0 in
      subst P (sym (get_or-zip coeffs vars i same)) (greatest_at_point b a x (point x (var_in_box i h)) ∙ ap (λ (z : ℤ). a *ℤ z) (sym (value-point b x)))

  pub least_sum : sum_over (least_of b) (zip coeffs vars) ≡ sum_over (term_value (point_of b)) (zip coeffs vars)
  least_sum = sum_same (least_of b) (term_value (point_of b)) (zip coeffs vars) (pos 0, 0) least_value

  pub greatest_sum : sum_over (greatest_of b) (zip coeffs vars) ≡ sum_over (term_value (point_of b)) (zip coeffs vars)
  greatest_sum = sum_same (greatest_of b) (term_value (point_of b)) (zip coeffs vars) (pos 0, 0) greatest_value
