-- On a point the linear equation narrows nothing exactly where it holds.
use Rattle.std.proofs.Common.{◌≡◌, ℕ, ◌<◌, List, [], ◌∷◌, ◌++◌, length, get_or, true, not, ◌&&◌, ◌||◌, ℤ, pos, ◌-ℤ◌, ◌*ℤ◌, ◌⊎◌, inl, inr, ⊎_elim, sym, ap, subst, ◌∙◌, arith}
use Rattle.std.proofs.lemmas.Int.{ints, by_lt_z}
use Rattle.std.proofs.lemmas.Bool.{and_parts, and_from, or_cases}
use Rattle.std.proofs.lemmas.List.Elements.{All-append}
use Rattle.std.specs.Int.RustNames.{int_lt}
use Rattle.std.specs.List.{All, zip, flat_map}
use Rattle.std.specs.Prelude.{IsTrue}
use Rattle.tells.specs.declared.tell.Lit.{Lit}
use Rattle.interval.specs.Limits.{IsNumber, ClampOrder}
use Rattle.interval.specs.Quotients.{QuotientOrder}
use Rattle.interval.specs.Boxes.{Bounds, low_of, high_of, IsPoint}
use Rattle.tells.specs.Words.{when, Keeps, literal_true, is_sure, is_out, tell_true, tell_false, point_of, AreVariables}
use Rattle.sum_tells.specs.Linear.{Term, least_of, greatest_of, sum_over, at_most_tell, at_least_tell, term_value}
use Rattle.sum_tells.specs.Equality.{is_same, is_product, low_is_not, high_is_not, product_is_not, equation_tells, equal_tell, unequal_tell, equal_tells, unequal_tells, eq_tells, IsEquation}
use Rattle.tell_laws.proofs.Lists.{All-left, All-right, All-one, one-All, All-flat_map, All-when, when-All}
use Rattle.tell_laws.proofs.LiteralLaws.{value-point, sign_kept, kept_sign, opposite_true, not_both, is_true, true_is, by_bool, not_true}
use Rattle.sum_tells.proofs.SumLaws.{var_in_box, least_sum, greatest_sum}
use Rattle.sum_tells.proofs.TermLaws.{get_or-zip}
use Rattle.sum_tells.proofs.TermTellLaws.{at_most_at_point, at_least_at_point}
use Rattle.sum_tells.proofs.BoundLaws.{least_at_point}
use Rattle.sum_tells.proofs.EqualityLaws.{same_is, is_same_of, or_true}

-- what isn't the product isn't left out
not_product_kept : (b : Bounds) (x : ℕ) (a p : ℤ) → low_of b x ≡ high_of b x → ¬ (a *ℤ low_of b x ≡ p) → All (Keeps b) (product_is_not x a p b)
not_product_kept b x a p fixed other =
    All-append (Keeps b) (low_is_not x a p b) (high_is_not x a p b)
    (All-when (Keeps b) (is_product a (low_of b x) p) _ (λ e.
    let parts = and_parts (not (is_same a (pos 0))) (is_same (a *ℤ low_of b x) p) e in
    absurd (other (same_is (a *ℤ low_of b x) p parts.1))))
    (All-when (Keeps b) (is_product a (high_of b x) p) _ (λ e.
    let parts = and_parts (not (is_same a (pos 0))) (is_same (a *ℤ high_of b x) p) e in
    absurd (other (ap (λ (z : ℤ). a *ℤ z) fixed ∙ same_is (a *ℤ high_of b x) p parts.1))))

module _ (quotients : QuotientOrder) (clamped : ClampOrder) (b : Bounds) (l : Lit) (coeffs : List ℤ) (vars : List ℕ) (limit : ℤ) (same : length coeffs ≡ length vars) (variables : AreVariables (length b) (l.var ∷ vars)) (point : IsPoint b) (numbers : (v : ℕ) → v < length b → IsNumber (low_of b v)) where
  literal_fixed : low_of b l.var ≡ high_of b l.var
  literal_fixed = point l.var (variables.each 0 (omega arith))

  -- what isn't narrowed holds
  pub eq_closed_holds : All (Keeps b) (eq_tells l coeffs vars limit b) → IsEquation l coeffs vars limit (point_of b)
  unfolding eq_tells
  eq_closed_holds all =
      let ts = zip coeffs vars in
      let m = sum_over (least_of b) ts in
      let n = sum_over (greatest_of b) ts in
      let s = sum_over (term_value (point_of b)) ts in
      let ls = least_sum b l coeffs vars same variables point in
      let gs = greatest_sum b l coeffs vars same variables point in
      let here = value-point b l.var in
      let V : ℤ → Type 0 = λ z. IsTrue (literal_true l z) in
      let impossible = int_lt limit m || int_lt n limit in
      let certain = is_same m limit && is_same n limit in
      let literals = All-left (Keeps b) (equation_tells l limit m n) (equal_tells l ts limit m n b ++ unequal_tells l ts limit m n b) all in
      let falses = All-left (Keeps b) (when impossible (tell_false l ∷ [])) (when certain (tell_true l ∷ [])) literals in
      let trues = All-right (Keeps b) (when impossible (tell_false l ∷ [])) (when certain (tell_true l ∷ [])) literals in
      let refuted : IsTrue (literal_true l (low_of b l.var)) → (true ≡ int_lt limit m) ⊎ (true ≡ int_lt n limit) → ⊥ =
      λ t side.
      let kept = one-All (Keeps b) (tell_false l) (when-All (Keeps b) impossible (tell_false l ∷ []) (or_true (int_lt limit m) (int_lt n limit) side) falses) in
      not_both l.positive (low_of b l.var) (is_true (literal_true l (low_of b l.var)) t) (kept_sign clamped b (not l.positive) l.var literal_fixed kept) in (
        λ t. by_lt_z limit s
            (λ lt. absurd (refuted (subst V here t) (inl (omega (arith, ints)))))
            (λ le. by_lt_z s limit
            (λ lt. absurd (refuted (subst V here t) (inr (omega (arith, ints)))))
            (λ ge. omega (arith, ints))),
        λ e.
            let kept = one-All (Keeps b) (tell_true l) (when-All (Keeps b) certain (tell_true l ∷ []) (and_from (is_same m limit) (is_same n limit) (is_same_of m limit (ls ∙ e)) (is_same_of n limit (gs ∙ e))) trues) in
            subst V (sym here) (true_is (literal_true l (low_of b l.var)) (kept_sign clamped b l.positive l.var literal_fixed kept)),
      )

  -- what holds isn't narrowed
  pub eq_holds_closed : IsEquation l coeffs vars limit (point_of b) → All (Keeps b) (eq_tells l coeffs vars limit b)
  unfolding eq_tells is_sure is_out
  eq_holds_closed holds =
      let ts = zip coeffs vars in
      let m = sum_over (least_of b) ts in
      let n = sum_over (greatest_of b) ts in
      let s = sum_over (term_value (point_of b)) ts in
      let ls = least_sum b l coeffs vars same variables point in
      let gs = greatest_sum b l coeffs vars same variables point in
      let here = value-point b l.var in
      let V : ℤ → Type 0 = λ z. IsTrue (literal_true l z) in
      let truth = literal_true l (low_of b l.var) in
      let within : truth ≡ true → s ≡ limit = λ e. holds.0 (subst V (sym here) (true_is truth (sym e))) in
      let found : s ≡ limit → truth ≡ true = λ e. is_true truth (subst V here (holds.1 e)) in
      let impossible = int_lt limit m || int_lt n limit in
      let certain = is_same m limit && is_same n limit in
      All-append (Keeps b) (equation_tells l limit m n) (equal_tells l ts limit m n b ++ unequal_tells l ts limit m n b)
      (All-append (Keeps b) (when impossible (tell_false l ∷ [])) (when certain (tell_true l ∷ []))
      (All-when (Keeps b) impossible (tell_false l ∷ []) (λ e. All-one (Keeps b) (tell_false l)
      (by_bool truth
      (λ t. let is = within t in absurd (⊎_elim {C = ⊥} (λ p. omega (arith, ints)) (λ q. omega (arith, ints)) (or_cases (int_lt limit m) (int_lt n limit) e)))
      (λ f. sign_kept clamped b (not l.positive) l.var literal_fixed (sym (opposite_true l.positive (low_of b l.var) f))))))
      (All-when (Keeps b) certain (tell_true l ∷ []) (λ e. All-one (Keeps b) (tell_true l)
      (let p = same_is m limit (and_parts (is_same m limit) (is_same n limit) e).0 in sign_kept clamped b l.positive l.var literal_fixed (found (sym ls ∙ p))))))
      (All-append (Keeps b) (equal_tells l ts limit m n b) (unequal_tells l ts limit m n b)
      (All-when (Keeps b) (is_sure l b) (flat_map (equal_tell b limit m n) ts) (λ e.
      let is = within (and_parts truth (literal_true l (high_of b l.var)) e).0 in
      All-flat_map (Keeps b) (equal_tell b limit m n) ts (pos 0, 0) (λ i h.
      let t = get_or ts i (pos 0, 0) in
      All-append (Keeps b) (at_most_tell b limit m t) (at_least_tell b limit n t)
      (at_most_at_point quotients clamped b l coeffs vars same variables point numbers limit i h (omega (arith, ints)))
      (at_least_at_point quotients clamped b l coeffs vars same variables point numbers limit i h (omega (arith, ints))))))
      (All-when (Keeps b) (is_out l b) (flat_map (unequal_tell b limit m n) ts) (λ e.
      let f = not_true truth (and_parts (not truth) (not (literal_true l (high_of b l.var))) e).0 in
      let other : ¬ (s ≡ limit) = λ is. let t = found is in absurd (cc) in
      All-flat_map (Keeps b) (unequal_tell b limit m n) ts (pos 0, 0) (λ i h.
      let P : Term → Type 0 = λ t. All (Keeps b) (unequal_tell b limit m n t) in
      let a = get_or coeffs i (pos 0) in
      let x = get_or vars i 0 in
      let fixed = point x (var_in_box b l coeffs vars same variables point i h) in
      let own = least_at_point b a x fixed in
      subst P (sym (get_or-zip coeffs vars i same))
      (All-when (Keeps b) (is_same (m -ℤ least_of b (a, x)) (n -ℤ greatest_of b (a, x))) (product_is_not x a (limit -ℤ (m -ℤ least_of b (a, x))) b)
      (λ others. not_product_kept b x a (limit -ℤ (m -ℤ least_of b (a, x))) fixed (λ product. other (omega (arith, ints)))))))))
