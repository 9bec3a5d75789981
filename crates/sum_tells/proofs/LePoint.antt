-- On a point the linear inequality narrows nothing exactly where it holds.
use Rattle.std.proofs.Common.{◌≡◌, ℕ, ◌<◌, List, [], ◌∷◌, length, true, not, ℤ, pos, ◌+ℤ◌, ◌≤ℤ◌, ◌<ℤ◌, sym, subst, arith}
use Rattle.std.proofs.lemmas.Int.{ints, by_lt_z}
use Rattle.std.proofs.lemmas.Bool.{and_parts}
use Rattle.std.proofs.lemmas.List.Elements.{All-append}
use Rattle.std.specs.Int.RustNames.{int_lt, int_le}
use Rattle.std.specs.List.{All, zip, flat_map}
use Rattle.std.specs.Prelude.{IsTrue}
use Rattle.tells.specs.declared.tell.Lit.{Lit}
use Rattle.interval.specs.Limits.{IsNumber, ClampOrder}
use Rattle.interval.specs.Quotients.{QuotientOrder}
use Rattle.interval.specs.Boxes.{Bounds, low_of, high_of, IsPoint}
use Rattle.tells.specs.Words.{when, Keeps, literal_true, is_sure, is_out, tell_true, tell_false, point_of, AreVariables}
use Rattle.sum_tells.specs.Linear.{least_of, greatest_of, sum_over, at_most_tell, more_than_tell, literal_tells, sure_tells, out_tells, bound_tells, at_most_tells, term_value, IsAtMost}
use Rattle.tell_laws.proofs.Lists.{All-left, All-right, All-one, one-All, All-flat_map, All-when, when-All}
use Rattle.tell_laws.proofs.LiteralLaws.{value-point, sign_kept, kept_sign, opposite_true, not_both, is_true, true_is, by_bool, not_true}
use Rattle.sum_tells.proofs.SumLaws.{least_sum, greatest_sum}
use Rattle.sum_tells.proofs.TermTellLaws.{at_most_at_point, at_least_at_point}

module _ (quotients : QuotientOrder) (clamped : ClampOrder) (b : Bounds) (l : Lit) (coeffs : List ℤ) (vars : List ℕ) (limit : ℤ) (same : length coeffs ≡ length vars) (variables : AreVariables (length b) (l.var ∷ vars)) (point : IsPoint b) (numbers : (v : ℕ) → v < length b → IsNumber (low_of b v)) where
  literal_fixed : low_of b l.var ≡ high_of b l.var
  literal_fixed = point l.var (variables.each 0 (omega arith))

  -- what isn't narrowed holds
  pub le_closed_holds : All (Keeps b) (at_most_tells l coeffs vars limit b) → IsAtMost l coeffs vars limit (point_of b)
  le_closed_holds all =
      let ts = zip coeffs vars in
      let m = sum_over (least_of b) ts in
      let n = sum_over (greatest_of b) ts in
      let s = sum_over (term_value (point_of b)) ts in
      let ls = least_sum b l coeffs vars same variables point in
      let gs = greatest_sum b l coeffs vars same variables point in
      let here = value-point b l.var in
      let V : ℤ → Type 0 = λ z. IsTrue (literal_true l z) in
      let literals = All-left (Keeps b) (literal_tells l limit m n) (bound_tells l ts limit m n b) all in
      let trues = All-left (Keeps b) (when (int_le n limit) (tell_true l ∷ [])) (when (int_lt limit m) (tell_false l ∷ [])) literals in
      let falses = All-right (Keeps b) (when (int_le n limit) (tell_true l ∷ [])) (when (int_lt limit m) (tell_false l ∷ [])) literals in (
        λ t. by_lt_z limit s
            (λ lt.
            let f : true ≡ int_lt limit m = omega (arith, ints) in
            let kept = one-All (Keeps b) (tell_false l) (when-All (Keeps b) (int_lt limit m) (tell_false l ∷ []) (sym f) falses) in
            absurd (not_both l.positive (low_of b l.var) (is_true (literal_true l (low_of b l.var)) (subst V here t)) (kept_sign clamped b (not l.positive) l.var literal_fixed kept)))
            (λ le. le),
        λ le.
            let f : true ≡ int_le n limit = omega (arith, ints) in
            let kept = one-All (Keeps b) (tell_true l) (when-All (Keeps b) (int_le n limit) (tell_true l ∷ []) (sym f) trues) in
            subst V (sym here) (true_is (literal_true l (low_of b l.var)) (kept_sign clamped b l.positive l.var literal_fixed kept)),
      )

  -- what holds isn't narrowed
  pub le_holds_closed : IsAtMost l coeffs vars limit (point_of b) → All (Keeps b) (at_most_tells l coeffs vars limit b)
  unfolding is_sure is_out
  le_holds_closed holds =
      let ts = zip coeffs vars in
      let m = sum_over (least_of b) ts in
      let n = sum_over (greatest_of b) ts in
      let s = sum_over (term_value (point_of b)) ts in
      let ls = least_sum b l coeffs vars same variables point in
      let gs = greatest_sum b l coeffs vars same variables point in
      let here = value-point b l.var in
      let V : ℤ → Type 0 = λ z. IsTrue (literal_true l z) in
      let truth = literal_true l (low_of b l.var) in
      let within : truth ≡ true → s ≤ℤ limit = λ e. holds.0 (subst V (sym here) (true_is truth (sym e))) in
      let found : s ≤ℤ limit → truth ≡ true = λ le. is_true truth (subst V here (holds.1 le)) in
      All-append (Keeps b) (literal_tells l limit m n) (bound_tells l ts limit m n b)
      (All-append (Keeps b) (when (int_le n limit) (tell_true l ∷ [])) (when (int_lt limit m) (tell_false l ∷ []))
      (All-when (Keeps b) (int_le n limit) (tell_true l ∷ []) (λ e. All-one (Keeps b) (tell_true l) (sign_kept clamped b l.positive l.var literal_fixed (found (omega (arith, ints))))))
      (All-when (Keeps b) (int_lt limit m) (tell_false l ∷ []) (λ e. All-one (Keeps b) (tell_false l)
      (by_bool truth
      (λ t. let le = within t in absurd (omega (arith, ints)))
      (λ f. sign_kept clamped b (not l.positive) l.var literal_fixed (sym (opposite_true l.positive (low_of b l.var) f)))))))
      (All-append (Keeps b) (sure_tells l ts limit m b) (out_tells l ts limit n b)
      (All-when (Keeps b) (is_sure l b) (flat_map (at_most_tell b limit m) ts) (λ e.
      let le = within (and_parts truth (literal_true l (high_of b l.var)) e).0 in
      All-flat_map (Keeps b) (at_most_tell b limit m) ts (pos 0, 0) (λ i h.
      at_most_at_point quotients clamped b l coeffs vars same variables point numbers limit i h le)))
      (All-when (Keeps b) (is_out l b) (flat_map (more_than_tell b limit n) ts) (λ e.
      let f = not_true truth (and_parts (not truth) (not (literal_true l (high_of b l.var))) e).0 in
      let more : limit <ℤ s = by_lt_z limit s (λ lt. lt) (λ le. let t = found le in absurd (cc)) in
      All-flat_map (Keeps b) (more_than_tell b limit n) ts (pos 0, 0) (λ i h.
      at_least_at_point quotients clamped b l coeffs vars same variables point numbers (limit +ℤ pos 1) i h (omega (arith, ints))))))
