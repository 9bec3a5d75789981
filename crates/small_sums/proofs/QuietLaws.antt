-- A linear kernel whose sums leave more room than a term can grow by narrows nothing.
use Rattle.std.proofs.Common.{◌≡◌, ℕ, ◌<◌, List, [], ◌∷◌, ◌++◌, length, get_or, Bool, true, false, not, ◌&&◌, ◌||◌, ℤ, pos, ◌+ℤ◌, ◌-ℤ◌, ◌*ℤ◌, ◌≤ℤ◌, ◌<ℤ◌, ⊎_elim, sym, subst, arith}
use Rattle.std.proofs.lemmas.Int.{ints, clamps}
use Rattle.std.proofs.lemmas.Bool.{and_parts, or_cases}
use Rattle.std.proofs.lemmas.List.Elements.{All-append}
use Rattle.std.specs.Int.RustNames.{int_lt, int_le}
use Rattle.std.specs.List.{All, zip, flat_map}
use Rattle.tells.specs.declared.tell.Lit.{Lit}
use Rattle.small_sums.specs.declared.short.Sums.{Sums}
use Rattle.interval.specs.Limits.{IsBound, clamp_of, bound_limit, largest_number, ClampOrder}
use Rattle.interval.specs.Quotients.{floor_of, ceiling_of, QuotientOrder}
use Rattle.interval.specs.Boxes.{Bounds, low_of, high_of}
use Rattle.tells.specs.Words.{low_tell, high_tell, when, Keeps, literal_true, sign_true, sign_tell, is_sure, is_out, tell_true, tell_false}
use Rattle.sum_tells.specs.Linear.{Term, least_of, greatest_of, sum_over, product_at_most, product_at_least, at_most_tell, at_least_tell, more_than_tell, literal_tells, sure_tells, out_tells, bound_tells, at_most_tells}
use Rattle.sum_tells.specs.Equality.{is_same, is_product, low_is_not, high_is_not, product_is_not, equation_tells, equal_tell, unequal_tell, equal_tells, unequal_tells, eq_tells}
use Rattle.small_sums.specs.Short.{AreSums, IsAtMostQuiet, IsUnequalQuiet, IsEquationQuiet}
use Rattle.tell_laws.proofs.Lists.{All-one, All-flat_map, All-when}
use Rattle.sum_tells.proofs.TermLaws.{length-zip, get_or-zip}
use Rattle.tell_laws.proofs.LiteralLaws.{by_bool, not_true}

module _ (clamped : ClampOrder) (b : Bounds) where
  -- a literal that is sure keeps the box where it is told true, one that is out where it is told false
  sign_keeps : (s : Bool) (v : ℕ) → sign_true s (low_of b v) ≡ true → sign_true s (high_of b v) ≡ true → Keeps b (sign_tell s v)
  unfolding bound_limit largest_number
  sign_keeps true v e f = let one : clamp_of (pos 1) ≡ pos 1 = clamped.same (pos 1) (omega arith) in omega (arith, ints)
  sign_keeps false v e f = let none : clamp_of (pos 0) ≡ pos 0 = clamped.same (pos 0) (omega arith) in omega (arith, ints)

  opposite : (s : Bool) (z : ℤ) → sign_true s z ≡ false → sign_true (not s) z ≡ true
  opposite true z e = let f : true ≡ sign_true false z = omega (arith, ints) in sym f
  opposite false z e = let f : true ≡ sign_true true z = omega (arith, ints) in sym f

  pub sure_keeps : (l : Lit) → is_sure l b ≡ true → Keeps b (tell_true l)
  unfolding is_sure
  sure_keeps l e =
      let parts = and_parts (literal_true l (low_of b l.var)) (literal_true l (high_of b l.var)) e in
      sign_keeps l.positive l.var parts.0 parts.1

  pub out_keeps : (l : Lit) → is_out l b ≡ true → Keeps b (tell_false l)
  unfolding is_out
  out_keeps l e =
      let parts = and_parts (not (literal_true l (low_of b l.var))) (not (literal_true l (high_of b l.var))) e in
      sign_keeps (not l.positive) l.var (opposite l.positive (low_of b l.var) (not_true _ parts.0)) (opposite l.positive (high_of b l.var) (not_true _ parts.1))

  pub not_sure : (l : Lit) → is_out l b ≡ true → is_sure l b ≡ false
  unfolding is_out is_sure
  not_sure l e =
      let parts = and_parts (not (literal_true l (low_of b l.var))) (not (literal_true l (high_of b l.var))) e in
      let f = not_true _ parts.0 in
      (λ i. f i && literal_true l (high_of b l.var))

module _ (quotients : QuotientOrder) (clamped : ClampOrder) (b : Bounds) where
  -- where the value of a term at the bound that its tell is of is within the room, no tell of it narrows
  pub at_most_kept : (x : ℕ) (a r : ℤ) → (pos 0 <ℤ a → IsBound (high_of b x) × ((high_of b x *ℤ a) ≤ℤ r)) → (a <ℤ pos 0 → IsBound (low_of b x) × ((low_of b x *ℤ a) ≤ℤ r)) → All (Keeps b) (product_at_most x a r)
  at_most_kept x a r above below =
      All-append (Keeps b) (when (int_lt (pos 0) a) (high_tell x (floor_of r a) ∷ [])) (when (int_lt a (pos 0)) (low_tell x (ceiling_of r a) ∷ []))
      (All-when (Keeps b) (int_lt (pos 0) a) _ (λ s. All-one (Keeps b) (high_tell x (floor_of r a))
      (let sign : pos 0 <ℤ a = omega (arith, ints) in
      let high = above sign in
      let same = clamped.same (high_of b x) high.0 in
      let le = (quotients.floor_above_zero r a (high_of b x) sign).1 high.1 in
      let rise = clamped.rises (high_of b x) (floor_of r a) le in omega (arith, ints))))
      (All-when (Keeps b) (int_lt a (pos 0)) _ (λ s. All-one (Keeps b) (low_tell x (ceiling_of r a))
      (let sign : a <ℤ pos 0 = omega (arith, ints) in
      let low = below sign in
      let same = clamped.same (low_of b x) low.0 in
      let le = (quotients.ceiling_below_zero r a (low_of b x) sign).1 low.1 in
      let rise = clamped.rises (ceiling_of r a) (low_of b x) le in omega (arith, ints))))

  -- the same where the demand is within its value there
  pub at_least_kept : (x : ℕ) (a r : ℤ) → (pos 0 <ℤ a → IsBound (low_of b x) × (r ≤ℤ (low_of b x *ℤ a))) → (a <ℤ pos 0 → IsBound (high_of b x) × (r ≤ℤ (high_of b x *ℤ a))) → All (Keeps b) (product_at_least x a r)
  at_least_kept x a r above below =
      All-append (Keeps b) (when (int_lt (pos 0) a) (low_tell x (ceiling_of r a) ∷ [])) (when (int_lt a (pos 0)) (high_tell x (floor_of r a) ∷ []))
      (All-when (Keeps b) (int_lt (pos 0) a) _ (λ s. All-one (Keeps b) (low_tell x (ceiling_of r a))
      (let sign : pos 0 <ℤ a = omega (arith, ints) in
      let low = above sign in
      let same = clamped.same (low_of b x) low.0 in
      let le = (quotients.ceiling_above_zero r a (low_of b x) sign).1 low.1 in
      let rise = clamped.rises (ceiling_of r a) (low_of b x) le in omega (arith, ints))))
      (All-when (Keeps b) (int_lt a (pos 0)) _ (λ s. All-one (Keeps b) (high_tell x (floor_of r a))
      (let sign : a <ℤ pos 0 = omega (arith, ints) in
      let high = below sign in
      let same = clamped.same (high_of b x) high.0 in
      let le = (quotients.floor_below_zero r a (high_of b x) sign).1 high.1 in
      let rise = clamped.rises (high_of b x) (floor_of r a) le in omega (arith, ints))))

  -- so where its greatest value is within the room, or the demand within its least
  pub at_most_wide : (x : ℕ) (a r : ℤ) → IsBound (low_of b x) → IsBound (high_of b x) → greatest_of b (a, x) ≤ℤ r → All (Keeps b) (product_at_most x a r)
  unfolding greatest_of
  at_most_wide x a r low_bound high_bound h =
      let low : (low_of b x *ℤ a) ≤ℤ r = omega (arith, ints, clamps) in
      let high : (high_of b x *ℤ a) ≤ℤ r = omega (arith, ints, clamps) in
      at_most_kept x a r (λ s. (high_bound, high)) (λ s. (low_bound, low))

  pub at_least_wide : (x : ℕ) (a r : ℤ) → IsBound (low_of b x) → IsBound (high_of b x) → r ≤ℤ least_of b (a, x) → All (Keeps b) (product_at_least x a r)
  unfolding least_of
  at_least_wide x a r low_bound high_bound h =
      let low : r ≤ℤ (low_of b x *ℤ a) = omega (arith, ints, clamps) in
      let high : r ≤ℤ (high_of b x *ℤ a) = omega (arith, ints, clamps) in
      at_least_kept x a r (λ s. (low_bound, low)) (λ s. (high_bound, high))

  -- a term that isn't the product at either bound isn't told apart
  not_product : (x : ℕ) (a p : ℤ) → (p ≡ least_of b (a, x) → ⊥) → (p ≡ greatest_of b (a, x) → ⊥) → All (Keeps b) (product_is_not x a p b)
  unfolding least_of greatest_of
  not_product x a p least greatest =
      All-append (Keeps b) (low_is_not x a p b) (high_is_not x a p b)
      (All-when (Keeps b) (is_product a (low_of b x) p) (low_tell x (low_of b x +ℤ pos 1) ∷ []) (λ e.
      let parts = and_parts (not (is_same a (pos 0))) (is_same (a *ℤ low_of b x) p) e in
      let both = and_parts (int_le (a *ℤ low_of b x) p) (int_le p (a *ℤ low_of b x)) parts.1 in
      let y = both.0 in
      let z = both.1 in
      absurd (omega (arith, ints, clamps))))
      (All-when (Keeps b) (is_product a (high_of b x) p) (high_tell x (high_of b x -ℤ pos 1) ∷ []) (λ e.
      let parts = and_parts (not (is_same a (pos 0))) (is_same (a *ℤ high_of b x) p) e in
      let both = and_parts (int_le (a *ℤ high_of b x) p) (int_le p (a *ℤ high_of b x)) parts.1 in
      let y = both.0 in
      let z = both.1 in
      absurd (omega (arith, ints, clamps))))

  module _ (l : Lit) (coeffs : List ℤ) (vars : List ℕ) (s : Sums) (same : length coeffs ≡ length vars) (sums : AreSums b coeffs vars s) where
    -- a term whose growth is within the room tells nothing that narrows
    at_most_term : (limit : ℤ) → s.widest ≤ℤ (limit -ℤ s.least) → (i : ℕ) → i < length (zip coeffs vars)
        → All (Keeps b) (at_most_tell b limit (sum_over (least_of b) (zip coeffs vars)) (get_or (zip coeffs vars) i (pos 0, 0)))
    at_most_term limit h i inside =
        let at : i < length coeffs = omega (arith, length-zip coeffs vars same) in
        let a = get_or coeffs i (pos 0) in
        let x = get_or vars i 0 in
        let bounds = sums.bounds i at in
        let within = sums.within i at in
        let least = sums.least in
        let P : Term → Type 0 = λ t. All (Keeps b) (at_most_tell b limit (sum_over (least_of b) (zip coeffs vars)) t) in
        subst P (sym (get_or-zip coeffs vars i same))
        (at_most_wide x a (limit -ℤ (sum_over (least_of b) (zip coeffs vars) -ℤ least_of b (a, x))) bounds.low bounds.high (omega (arith, ints)))

    at_least_term : (limit : ℤ) → s.widest ≤ℤ (s.greatest -ℤ limit) → (i : ℕ) → i < length (zip coeffs vars)
        → All (Keeps b) (at_least_tell b limit (sum_over (greatest_of b) (zip coeffs vars)) (get_or (zip coeffs vars) i (pos 0, 0)))
    at_least_term limit h i inside =
        let at : i < length coeffs = omega (arith, length-zip coeffs vars same) in
        let a = get_or coeffs i (pos 0) in
        let x = get_or vars i 0 in
        let bounds = sums.bounds i at in
        let within = sums.within i at in
        let greatest = sums.greatest in
        let P : Term → Type 0 = λ t. All (Keeps b) (at_least_tell b limit (sum_over (greatest_of b) (zip coeffs vars)) t) in
        subst P (sym (get_or-zip coeffs vars i same))
        (at_least_wide x a (limit -ℤ (sum_over (greatest_of b) (zip coeffs vars) -ℤ greatest_of b (a, x))) bounds.low bounds.high (omega (arith, ints)))

    pub at_most_quiet : (limit : ℤ) → IsAtMostQuiet b l limit s → All (Keeps b) (at_most_tells l coeffs vars limit b)
    at_most_quiet limit q =
        let ts = zip coeffs vars in
        let m = sum_over (least_of b) ts in
        let n = sum_over (greatest_of b) ts in
        let least = sums.least in
        let greatest = sums.greatest in
        let wide = sums.above_zero in
        All-append (Keeps b) (literal_tells l limit m n) (bound_tells l ts limit m n b)
        (All-append (Keeps b) (when (int_le n limit) (tell_true l ∷ [])) (when (int_lt limit m) (tell_false l ∷ []))
        (All-when (Keeps b) (int_le n limit) (tell_true l ∷ []) (λ e. All-one (Keeps b) (tell_true l)
        (by_bool (is_sure l b) (λ t. sure_keeps clamped b l t)
        (λ f. by_bool (is_out l b)
        (λ o. let far = q.out f o in absurd (omega (arith, ints)))
        (λ o. let far = q.open_high f o in absurd (omega (arith, ints)))))))
        (All-when (Keeps b) (int_lt limit m) (tell_false l ∷ []) (λ e. All-one (Keeps b) (tell_false l)
        (by_bool (is_sure l b) (λ t. let far = q.sure t in absurd (omega (arith, ints)))
        (λ f. by_bool (is_out l b)
        (λ o. out_keeps clamped b l o)
        (λ o. let far = q.open_low f o in absurd (omega (arith, ints))))))))
        (All-append (Keeps b) (sure_tells l ts limit m b) (out_tells l ts limit n b)
        (All-when (Keeps b) (is_sure l b) (flat_map (at_most_tell b limit m) ts) (λ e.
        All-flat_map (Keeps b) (at_most_tell b limit m) ts (pos 0, 0) (at_most_term limit (q.sure e))))
        (All-when (Keeps b) (is_out l b) (flat_map (more_than_tell b limit n) ts) (λ e.
        let far = q.out (not_sure clamped b l e) e in
        All-flat_map (Keeps b) (more_than_tell b limit n) ts (pos 0, 0) (at_least_term (limit +ℤ pos 1) (omega (arith, ints))))))

    -- a term isn't told apart where it doesn't make the whole difference of the sums, or the limit is neither of them
    unequal_term : (limit : ℤ) → IsUnequalQuiet limit s → (i : ℕ) → i < length (zip coeffs vars)
        → All (Keeps b) (unequal_tell b limit (sum_over (least_of b) (zip coeffs vars)) (sum_over (greatest_of b) (zip coeffs vars)) (get_or (zip coeffs vars) i (pos 0, 0)))
    unequal_term limit apart i inside =
        let at : i < length coeffs = omega (arith, length-zip coeffs vars same) in
        let a = get_or coeffs i (pos 0) in
        let x = get_or vars i 0 in
        let within = sums.within i at in
        let least = sums.least in
        let greatest = sums.greatest in
        let m = sum_over (least_of b) (zip coeffs vars) in
        let n = sum_over (greatest_of b) (zip coeffs vars) in
        let P : Term → Type 0 = λ t. All (Keeps b) (unequal_tell b limit m n t) in
        subst P (sym (get_or-zip coeffs vars i same))
        (All-when (Keeps b) (is_same (m -ℤ least_of b (a, x)) (n -ℤ greatest_of b (a, x))) (product_is_not x a (limit -ℤ (m -ℤ least_of b (a, x))) b) (λ e.
        let parts = and_parts (int_le (m -ℤ least_of b (a, x)) (n -ℤ greatest_of b (a, x))) (int_le (n -ℤ greatest_of b (a, x)) (m -ℤ least_of b (a, x))) e in
        let p = parts.0 in
        let q = parts.1 in
        let whole : (s.greatest -ℤ s.least) ≤ℤ s.widest = omega (arith, ints) in
        not_product x a (limit -ℤ (m -ℤ least_of b (a, x)))
        (λ r. let same_sum : limit ≡ s.least = omega (arith, ints) in apart.low whole same_sum)
        (λ r. let same_sum : limit ≡ s.greatest = omega (arith, ints) in apart.high whole same_sum)))

    pub equation_quiet : (limit : ℤ) → IsEquationQuiet b l limit s → All (Keeps b) (eq_tells l coeffs vars limit b)
    unfolding eq_tells
    equation_quiet limit q =
        let ts = zip coeffs vars in
        let m = sum_over (least_of b) ts in
        let n = sum_over (greatest_of b) ts in
        let least = sums.least in
        let greatest = sums.greatest in
        let wide = sums.above_zero in
        All-append (Keeps b) (equation_tells l limit m n) (equal_tells l ts limit m n b ++ unequal_tells l ts limit m n b)
        (All-append (Keeps b) (when (int_lt limit m || int_lt n limit) (tell_false l ∷ [])) (when (is_same m limit && is_same n limit) (tell_true l ∷ []))
        (All-when (Keeps b) (int_lt limit m || int_lt n limit) (tell_false l ∷ []) (λ e. All-one (Keeps b) (tell_false l)
        (by_bool (is_sure l b)
        (λ t. let low = q.sure_low t in let high = q.sure_high t in ⊎_elim (λ p. absurd (omega (arith, ints))) (λ p. absurd (omega (arith, ints))) (or_cases (int_lt limit m) (int_lt n limit) e))
        (λ f. by_bool (is_out l b)
        (λ o. out_keeps clamped b l o)
        (λ o. let low = q.open_low f o in let high = q.open_high f o in ⊎_elim (λ p. absurd (omega (arith, ints))) (λ p. absurd (omega (arith, ints))) (or_cases (int_lt limit m) (int_lt n limit) e))))))
        (All-when (Keeps b) (is_same m limit && is_same n limit) (tell_true l ∷ []) (λ e. All-one (Keeps b) (tell_true l)
        (let parts = and_parts (is_same m limit) (is_same n limit) e in
        let first = and_parts (int_le m limit) (int_le limit m) parts.0 in
        let second = and_parts (int_le n limit) (int_le limit n) parts.1 in
        let p = first.1 in
        let r = second.0 in
        by_bool (is_sure l b) (λ t. sure_keeps clamped b l t)
        (λ f. by_bool (is_out l b)
        (λ o. let same_sum : limit ≡ s.least = omega (arith, ints) in absurd ((q.out f o).low (omega (arith, ints)) same_sum))
        (λ o. let far = q.open_wide f o in absurd (omega (arith, ints))))))))
        (All-append (Keeps b) (equal_tells l ts limit m n b) (unequal_tells l ts limit m n b)
        (All-when (Keeps b) (is_sure l b) (flat_map (equal_tell b limit m n) ts) (λ e.
        All-flat_map (Keeps b) (equal_tell b limit m n) ts (pos 0, 0) (λ i h.
        All-append (Keeps b) (at_most_tell b limit m (get_or ts i (pos 0, 0))) (at_least_tell b limit n (get_or ts i (pos 0, 0)))
        (at_most_term limit (q.sure_low e) i h) (at_least_term limit (q.sure_high e) i h))))
        (All-when (Keeps b) (is_out l b) (flat_map (unequal_tell b limit m n) ts) (λ e.
        All-flat_map (Keeps b) (unequal_tell b limit m n) ts (pos 0, 0) (unequal_term limit (q.out (not_sure clamped b l e) e)))))
